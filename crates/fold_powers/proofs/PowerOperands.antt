-- Literal powers of operands that stand in a plan: what the code leaves in each case is what the rules say.
use mathlib.Core.Path.{◌≡◌, sym, ap, ◌∙◌}
use mathlib.Core.Bool.{cond, ◌&&◌}
use mathlib.Core.Logic.{◌⊎◌, inl, inr}
use mathlib.Core.List.{List, [], ◌∷◌, ◌++◌}
use Prim.Native.Nat.{ℕ, ◌+◌, ◌-◌, ◌*◌, ◌≤◌, ◌<◌}
use native.Mathlib.Omega.{arith}
use lib.Dec.{eqb, leb}
use lib.ListN.{length, take}
use borrow.Author.Tests.{eq-eqb, ne_eqb, le-leb, lt-leb}
use Rattle.plan.specs.Measures.{row_start}
use Rattle.word.specs.Word as Word
use Rattle.chain.specs.Answer.{ChainAnswer}
use Rattle.chain.specs.Chain.{words}
use Rattle.chain.specs.SumChain as SumChain
use Rattle.chain.specs.ProductChain as ProductChain
use Rattle.chain.specs.Answer.{answered, chain}
use Rattle.plan.specs.Row.{kind, word_a, elements, first_element}
use Rattle.plan.specs.Plan.{row}
use Rattle.formula.specs.Tree.{Span}
use Rattle.fold.specs.Folded as Folded
use Rattle.fold.specs.Folded.{Folded, constant, power_row, is_sum_chain, is_product_chain, of_product, trimmed_sum, trimmed_product}
use Rattle.fold.specs.Folding.{word_of, length_of, fold_power}
use Rattle.fold.specs.Layout.{row_words}
use Rattle.fold.proofs.Origins.{kind_of}
use Rattle.fold_rows.specs.Standing.{with_row, placed, no_span, filled_with_ones}
use Rattle.fold_rows.proofs.Stood.{is-constant, no_constant, is-sum-chain, no_sum-chain, is-product-chain, no_product-chain}
use Rattle.fold_operands.specs.Operands.{Operand, Folds}
use Rattle.fold_operands.proofs.OperandLaws.{operand-kind, operand-last}
use Rattle.fold_operands.proofs.OperandLaws.{operand-word, operand-chain, operand-taken}
use Rattle.fold_operands.proofs.Leaving.{left_as, operand-left, sum_left, product-left, answer-put, power-row-left}
use Rattle.fold_powers.proofs.PowerChains.{powered, power-trimmed}

-- ---- the rules, by the kind of the operand
module _ (s : Span) (a : Folded) (n : ℕ) where
  constant_rule : kind_of a ≡ 0 → fold_power 64 s a n ≡ constant (Word.power 64 (word_of a) n)
  unfolding fold_power
  constant_rule e = rw (is-constant a e)

  zero_rule : 0 < kind_of a → n ≡ 0 → fold_power 64 s a n ≡ constant 1
  unfolding fold_power
  zero_rule other e = rw (no_constant a (λ z. omega (arith, z)), eq-eqb n 0 e)

  one_rule : 0 < kind_of a → n ≡ 1 → fold_power 64 s a n ≡ a
  unfolding fold_power
  one_rule other e = rw (no_constant a (λ z. omega (arith, z)), ne_eqb n 0 (λ z. omega (arith, z)), eq-eqb n 1 e)

  module _ (other : 0 < kind_of a) (high : 2 ≤ n) where
    high_rules : fold_power 64 s a n
        ≡ cond (is_sum_chain a && leb (length_of a * n) 16) (trimmed_sum (words 64 (SumChain.power (Folded.elements a) n)))
        (cond (is_product_chain a) (trimmed_product (words 64 (ProductChain.power_of_each (Folded.elements a) n))) (power_row s a n))
    unfolding fold_power
    high_rules = rw (no_constant a (λ z. omega (arith, z)), ne_eqb n 0 (λ z. omega (arith, z)), ne_eqb n 1 (λ z. omega (arith, z)))

    sum_rule : kind_of a ≡ 1 → length_of a * n ≤ 16 → fold_power 64 s a n ≡ trimmed_sum (words 64 (SumChain.power (Folded.elements a) n))
    sum_rule e few = high_rules ∙ rw (is-sum-chain a e, le-leb (length_of a * n) 16 few)

    product_rule : kind_of a ≡ 2 → fold_power 64 s a n ≡ trimmed_product (words 64 (ProductChain.power_of_each (Folded.elements a) n))
    product_rule e = high_rules ∙ rw (no_sum-chain a (λ z. omega (arith, z, e)), is-product-chain a e)

    long_rule : kind_of a ≡ 1 → 16 < length_of a * n → fold_power 64 s a n ≡ power_row s a n
    long_rule e many = high_rules ∙ rw (is-sum-chain a e, lt-leb (length_of a * n) 16 many, no_product-chain a (λ z. omega (arith, z, e)))

    row_rule : 2 < kind_of a → fold_power 64 s a n ≡ power_row s a n
    row_rule e = high_rules ∙ rw (no_sum-chain a (λ z. omega (arith, z)), no_product-chain a (λ z. omega (arith, z)))

-- ---- what the code leaves
some : {x y : ℕ} → x ≡ y → (y ≡ 0 → ⊥) → 0 < x
some e z = omega (arith, e, z)

module _ (p : List ℕ) (first end n : ℕ) {k : ℕ} (at : k ≡ kind (row p (end - 1))) where
  abbrev Powers : ℕ → List ℕ → Type 0
  Powers r q = Folds (λ s a. fold_power 64 s a n) p first end r q

  kind-is : {s : Span} {a : Folded} → Operand p first end s a → kind_of a ≡ k
  kind-is h = sym (operand-kind h) ∙ sym at

  pub power_of_constant : {c v : ℕ} {q : List ℕ} → k ≡ 0 → c ≡ first_element (row p (end - 1)) → v ≡ Word.power 64 c n
      → q ≡ placed p first no_span (constant v) → Powers (first + 1) q
  power_of_constant {c} {v} z hc hv hq s a h =
      left_as (constant_rule s a n zero ∙ ap constant (ap (λ x. Word.power 64 x n) (sym (hc ∙ operand-word h (omega (arith, zero)))) ∙ sym hv))
      (sum_left (v ∷ []) hq)
    where
      zero : kind_of a ≡ 0
      zero = kind-is h ∙ z

  pub power_zero : {q : List ℕ} → (k ≡ 0 → ⊥) → n ≡ 0 → q ≡ placed p first no_span (constant 1) → Powers (first + 1) q
  power_zero z e hq s a h = left_as (zero_rule s a n (some (kind-is h) z) e) (sum_left (1 ∷ []) hq)

  pub power_one : (k ≡ 0 → ⊥) → n ≡ 1 → Powers end p
  power_one z e s a h = left_as (one_rule s a n (some (kind-is h) z) e) (operand-left h)

  module _ (high : 2 ≤ n) (other : 0 < kind (row p (end - 1))) where
    other_kind : {s : Span} {a : Folded} → Operand p first end s a → 0 < kind_of a
    other_kind h = omega (arith, other, operand-kind h)

    pub power_of_product : {last : ℕ} {f o v q : List ℕ} → k ≡ 2 → last ≡ word_a (row p (end - 1)) → f ≡ elements (row p (end - 1))
        → o ≡ filled_with_ones 17 (take (last + 1) f) → v ≡ words 64 (ProductChain.power_of_each o n) → q ≡ placed p first no_span (trimmed_product v)
        → Powers (first + 1) q
    power_of_product {last} {f} {o} {v} two hl hf ho hv hq s a h =
        left_as (product_rule s a n (other_kind h) high kind_two ∙ ap of_product (sym (ap (λ x. ProductChain.trimmed_product x) filled ∙ trims)))
        (product-left (ProductChain.trimmed_product v) hq)
      where
        kind_two : kind_of a ≡ 2
        kind_two = kind-is h ∙ two

        few : kind_of a ≤ 2
        few = omega (arith, kind_two)

        filled : v ≡ words 64 (ProductChain.power_of_each (filled_with_ones 17 (Folded.elements a)) n)
        filled = hv ∙ ap (λ g. words 64 (ProductChain.power_of_each g n)) (ho ∙ ap (filled_with_ones 17) (operand-taken h few hf hl))

        trims : ProductChain.trimmed_product (words 64 (ProductChain.power_of_each (filled_with_ones 17 (Folded.elements a)) n))
            ≡ ProductChain.trimmed_product (words 64 (ProductChain.power_of_each (Folded.elements a) n))
        trims = power-trimmed (Folded.elements a) n (operand-chain h few).most

    pub power_of_sum : {last : ℕ} {f q : List ℕ} {t : ChainAnswer} → k ≡ 1 → last ≡ word_a (row p (end - 1)) → f ≡ elements (row p (end - 1))
        → last * n ≤ 16 → t ≡ answered (chain (powered f last n))
        → q ≡ with_row p first (cond (eqb t.length 0) 0 1 ∷ t.length ∷ 0 ∷ t.elements ++ 0 ∷ 0 ∷ []) → Powers (first + 1) q
    power_of_sum {last} {f} single hl hf within ht hq s a h =
        left_as
        (sum_rule s a n (other_kind h) high kind_one (omega (arith, within, ap (λ m. m * n) (hl ∙ operand-last h few)))
        ∙ ap (λ g. trimmed_sum (words 64 (SumChain.power g n))) (sym (operand-taken h few hf hl)))
        (sum_left (powered f last n) (answer-put p first (words 64 (SumChain.power (take (last + 1) f) n)) ht hq))
      where
        kind_one : kind_of a ≡ 1
        kind_one = kind-is h ∙ single

        few : kind_of a ≤ 2
        few = omega (arith, kind_one)

    power-row : {q : List ℕ} → row_start first ≤ length p → ((s : Span) (a : Folded) → Operand p first end s a → fold_power 64 s a n ≡ power_row s a n)
        → q ≡ with_row p end (row_words 7 (end - 1) n [] no_span) → Powers (end + 1) q
    power-row room rule hq s a h = left_as (rule s a h) (power-row-left h room n hq)

    pub power_as_row : {last : ℕ} {q : List ℕ} → row_start first ≤ length p → last ≡ word_a (row p (end - 1)) → (k ≡ 2 → ⊥)
        → ((k ≡ 1) × (16 < last * n)) ⊎ (k ≡ 1 → ⊥) → q ≡ with_row p end (row_words 7 (end - 1) n [] no_span) → Powers (end + 1) q
    power_as_row {last} room hl two (inl (single, many)) hq = power-row room long hq
      where
        long : (s : Span) (a : Folded) → Operand p first end s a → fold_power 64 s a n ≡ power_row s a n
        long s a h =
            long_rule s a n (other_kind h) high (kind-is h ∙ single)
            (omega (arith, many, ap (λ m. m * n) (hl ∙ operand-last h (omega (arith, kind-is h ∙ single)))))
    power_as_row room hl two (inr none) hq = power-row room rest hq
      where
        rest : (s : Span) (a : Folded) → Operand p first end s a → fold_power 64 s a n ≡ power_row s a n
        rest s a h = row_rule s a n (other_kind h) high (above (kind-is h) (other_kind h))
          where
            above : {x : ℕ} → x ≡ k → 0 < x → 2 < x
            above e some = omega (arith, e, some, two, none)
