-- Products of operands that stand in a plan: what the code finds in their rows, and what it leaves of them by the rules.
use mathlib.Core.Path.{◌≡◌, refl, sym, ap, ap₂, ◌∙◌}
use mathlib.Core.Bool.{Bool, true, false, cond, ◌&&◌, ◌||◌, false≢true, and-eq-true_iff}
use mathlib.Core.List.{List, [], ◌∷◌, ◌++◌}
use Prim.Native.Nat.{ℕ, suc, ◌+◌, ◌-◌, ◌≤◌, ◌<◌}
use native.Mathlib.Omega.{arith}
use lib.Dec.{eqb, ltb, leb}
use lib.ListN.{length, take, length-take}
use borrow.Author.Tests.{eqb-true, ltb-true, leb-true, le-leb, lt-ltb, le-ltb}
use Rattle.plan.specs.Measures.{row_start}
use Rattle.chain.specs.Chain.{words, trimmed}
use Rattle.chain.specs.SumChain.{product}
use Rattle.chain.specs.ProductChain.{joint_product}
use Rattle.chain.specs.ProductChain as ProductChain
use Rattle.chain.specs.Answer.{given, answered, chain, product_outcome}
use Rattle.chain.specs.Answer.{ChainAnswer}
use Rattle.chain.proofs.Trimming.{length-trimmed}
use Rattle.plan.specs.Row.{kind, word_a, elements}
use Rattle.plan.specs.Plan.{row}
use Rattle.fold.specs.Folded as Folded
use Rattle.fold.specs.Folded.{Spans, Folded, constant, of_product, trimmed_sum, trimmed_product}
use Rattle.fold.specs.Folding.{is, length_of, fold_product}
use Rattle.fold.specs.Layout.{row_words}
use Rattle.fold.proofs.Tests.{either}
use Rattle.fold.proofs.Origins.{kind_of}
use Rattle.fold_rows.specs.Standing.{with_row, placed, no_span, moved_down, filled_with_ones}
use Rattle.fold_operands.specs.Operands.{Operands, Left}
use Rattle.fold_operands.proofs.OperandLaws.{is_the_constant, constant_at, operand-kind, operand-last, operand-chain, operand-taken, operand_short, operand-is}
use Rattle.fold_operands.proofs.Leaving.{left_as, sum_left, product-left, answer-put, stays, moves, product-row-left}
use Rattle.fold_products.proofs.JointElements.{filled-product}
use Rattle.fold_products.proofs.ProductRules.{is_product, one_times, times_one, times_zero, Plain, as_sums, as_products, as_row}

-- ---- the tests of the code on rows
abbrev pub product_at : List ℕ → ℕ → Bool
product_at p r = eqb (kind (row p r)) 0 || eqb (kind (row p r)) 2

abbrev pub sums_at : List ℕ → ℕ → ℕ → Bool
sums_at p r s = ltb (kind (row p r)) 2 && (ltb (kind (row p s)) 2 && leb (word_a (row p r) + word_a (row p s)) 16)

-- Constants and product chains have kinds of at most 2.
few-kinds : (k : ℕ) → (eqb k 0 || eqb k 2) ≡ true → k ≤ 2
few-kinds k e = either (eqb k 0) (eqb k 2) e (λ z. omega (arith, eqb-true k 0 z)) (λ z. omega (arith, eqb-true k 2 z))

pub products_short : {p : List ℕ} {left middle end : ℕ} {s : Spans} {a b : Folded} → Operands p left middle end s a b
    → {t : Bool} → t ≡ (product_at p (middle - 1) && product_at p (end - 1)) → t ≡ true
    → (word_a (row p (middle - 1)) ≤ 16) × (word_a (row p (end - 1)) ≤ 16)
products_short {p} {middle = middle} {end = end} o asked holds =
    let (first, second) = (and-eq-true_iff (product_at p (middle - 1)) (product_at p (end - 1))).0 (sym asked ∙ holds) in (
      operand_short o.first (few-kinds (kind (row p (middle - 1))) first) refl,
      operand_short o.second (few-kinds (kind (row p (end - 1))) second) refl,
    )

-- What the tests say of two rows.
pub sums_say : (p : List ℕ) (r s : ℕ) {t : Bool} → t ≡ sums_at p r s → t ≡ true
    → (kind (row p r) < 2) × (kind (row p s) < 2) × (word_a (row p r) + word_a (row p s) ≤ 16)
sums_say p r s asked holds =
    let (first, more) =
    (and-eq-true_iff (ltb (kind (row p r)) 2) (ltb (kind (row p s)) 2 && leb (word_a (row p r) + word_a (row p s)) 16)).0 (sym asked ∙ holds) in
    let (second, lengths) = (and-eq-true_iff (ltb (kind (row p s)) 2) (leb (word_a (row p r) + word_a (row p s)) 16)).0 more in
    (ltb-true (kind (row p r)) 2 first, ltb-true (kind (row p s)) 2 second, leb-true (word_a (row p r) + word_a (row p s)) 16 lengths)

-- ---- the product of two sum chains, put into a row
given-short : (f : List ℕ) (k : ℕ) → length (given f k) ≤ suc k
given-short f k = length-trimmed 0 (take (k + 1) f) k (rw (length-take (k + 1) f) (omega arith))

module _ (p : List ℕ) (at : ℕ) (f g : List ℕ) (k l : ℕ) (within : k + l ≤ 16) where
  abbrev chain_product : List ℕ
  chain_product = words 64 (product (given f k) (given g l))

  -- The call on them is not refused.
  pub product-accepted : answered (product_outcome 64 f k g l) ≡ answered (chain (trimmed 0 chain_product))
  product-accepted =
      rw (le-ltb 16 k (omega arith), le-ltb 16 l (omega arith), le-ltb 16 (length (given f k) - 1 + (length (given g l) - 1)) lengths)
    where
      lengths : length (given f k) - 1 + (length (given g l) - 1) ≤ 16
      lengths = omega (arith, given-short f k, given-short g l)

  pub sums_put : {r : ChainAnswer} {q : List ℕ} → r ≡ answered (product_outcome 64 f k g l)
      → q ≡ with_row p at (cond (eqb r.length 0) 0 1 ∷ r.length ∷ 0 ∷ r.elements ++ 0 ∷ 0 ∷ []) → q ≡ placed p at no_span (trimmed_sum chain_product)
  sums_put hr = answer-put p at chain_product (hr ∙ product-accepted)

-- ---- what the code leaves of two operands
module _ {p : List ℕ} {left middle end : ℕ} {s : Spans} {a b : Folded} (o : Operands p left middle end s a b) where
  pub one_left : {q : List ℕ} {t : Bool} → row_start left ≤ length p → t ≡ constant_at p (middle - 1) 1 → t ≡ true
      → q ≡ moved_down middle (end - middle) p → Left p left (fold_product 64 s a b) (end - 1) q
  one_left room asked holds move =
      left_as (ap (λ c. fold_product 64 s c b) (is_the_constant 1 a one) ∙ one_times s b o.second.formed) (moves o room 1 one move)
    where
      one : is 1 a ≡ true
      one = sym (operand-is o.first 1) ∙ sym asked ∙ holds

  pub one_right : {t : Bool} → t ≡ constant_at p (end - 1) 1 → t ≡ true → Left p left (fold_product 64 s a b) (end - 1) p
  one_right asked holds =
      left_as (ap (λ c. fold_product 64 s a c) (is_the_constant 1 b one) ∙ times_one s a o.first.formed) (stays o 1 one)
    where
      one : is 1 b ≡ true
      one = sym (operand-is o.second 1) ∙ sym asked ∙ holds

  module _ {t u v : Bool} (asked-a : t ≡ constant_at p (middle - 1) 1) (other-a : t ≡ false)
      (asked-b : u ≡ constant_at p (end - 1) 1) (other_b : u ≡ false)
      (asked-zero : v ≡ (constant_at p (middle - 1) 0 || constant_at p (end - 1) 0)) where
    not_one_a : is 1 a ≡ false
    not_one_a = sym (operand-is o.first 1) ∙ sym asked-a ∙ other-a

    not_one_b : is 1 b ≡ false
    not_one_b = sym (operand-is o.second 1) ∙ sym asked-b ∙ other_b

    zeros_at : (is 0 a || is 0 b) ≡ v
    zeros_at = sym (asked-zero ∙ ap₂ ◌||◌ (operand-is o.first 0) (operand-is o.second 0))

    pub zero_left : {q : List ℕ} → v ≡ true → q ≡ placed p left no_span (constant 0) → Left p left (fold_product 64 s a b) (left + 1) q
    zero_left holds put = left_as (times_zero s a b not_one_a not_one_b (zeros_at ∙ holds)) (sum_left (0 ∷ []) put)

    module _ (no_zero : v ≡ false) {w : Bool} (asked-sums : w ≡ sums_at p (middle - 1) (end - 1)) where
      plain : Plain a b
      plain = record {
        formed_a = o.first.formed;
        formed_b = o.second.formed;
        not_one_a = not_one_a;
        not_one_b = not_one_b;
        not-zero = zeros_at ∙ no_zero;
      }

      pub sums_left : {q : List ℕ} → w ≡ true
          → q
          ≡ placed p left no_span
          (trimmed_sum
          (words 64
          (product (given (elements (row p (middle - 1))) (word_a (row p (middle - 1))))
          (given (elements (row p (end - 1))) (word_a (row p (end - 1)))))))
          → Left p left (fold_product 64 s a b) (left + 1) q
      sums_left holds put =
          left_as (as_sums s a b sum_a sum_b plain within)
          (sum_left (trimmed 0 (words 64 (product (trimmed 0 (Folded.elements a)) (trimmed 0 (Folded.elements b)))))
          (put
          ∙ ap₂ (λ f g. placed p left no_span (trimmed_sum (words 64 (product (trimmed 0 f) (trimmed 0 g)))))
          (operand-taken o.first few_a refl refl) (operand-taken o.second few_b refl refl)))
        where
          tests : (kind (row p (middle - 1)) < 2) × (kind (row p (end - 1)) < 2) × (word_a (row p (middle - 1)) + word_a (row p (end - 1)) ≤ 16)
          tests = sums_say p (middle - 1) (end - 1) asked-sums holds

          sum_a : kind_of a < 2
          sum_a = omega (arith, operand-kind o.first, tests.0)

          sum_b : kind_of b < 2
          sum_b = omega (arith, operand-kind o.second, tests.1)

          few_a : kind_of a ≤ 2
          few_a = omega (arith, sum_a)

          few_b : kind_of b ≤ 2
          few_b = omega (arith, sum_b)

          within : length_of a + length_of b ≤ 16
          within = omega (arith, operand-last o.first few_a, operand-last o.second few_b, tests.2)

      module _ (no-sums : w ≡ false) {m : Bool} (asked-products : m ≡ (product_at p (middle - 1) && product_at p (end - 1))) where
        not_sums : kind_of a < 2 → kind_of b < 2 → length_of a + length_of b ≤ 16 → ⊥
        not_sums sum_a sum_b within =
            false≢true
            (sym no-sums
            ∙ asked-sums
            ∙ ap₂ ◌&&◌ (lt-ltb (kind (row p (middle - 1))) 2 (omega (arith, operand-kind o.first)))
            (ap₂ ◌&&◌ (lt-ltb (kind (row p (end - 1))) 2 (omega (arith, operand-kind o.second)))
            (le-leb (word_a (row p (middle - 1)) + word_a (row p (end - 1))) 16
            (omega (arith, operand-last o.first (omega (arith, sum_a)), operand-last o.second (omega (arith, sum_b)))))))

        products_at : m ≡ (is_product a && is_product b)
        products_at =
            asked-products
            ∙ ap₂ (λ j k. (eqb j 0 || eqb j 2) && (eqb k 0 || eqb k 2)) (operand-kind o.first) (operand-kind o.second)

        pub products_left : {q : List ℕ} → m ≡ true
            → q
            ≡ placed p left no_span
            (trimmed_product
            (words 64
            (joint_product (filled_with_ones 17 (take (word_a (row p (middle - 1)) + 1) (elements (row p (middle - 1)))))
            (filled_with_ones 17 (take (word_a (row p (end - 1)) + 1) (elements (row p (end - 1))))))))
            → Left p left (fold_product 64 s a b) (left + 1) q
        products_left holds put =
            left_as (as_products s a b tests.0 tests.1 plain not_sums)
            (product-left (ProductChain.trimmed_product (words 64 (joint_product (Folded.elements a) (Folded.elements b))))
            (put
            ∙ ap₂ (λ f g. placed p left no_span (trimmed_product (words 64 (joint_product (filled_with_ones 17 f) (filled_with_ones 17 g)))))
            (operand-taken o.first few_a refl refl) (operand-taken o.second few_b refl refl)
            ∙ ap (λ f. placed p left no_span (of_product f))
            (filled-product (Folded.elements a) (Folded.elements b) (operand-chain o.first few_a).most (operand-chain o.second few_b).most)))
          where
            tests : (is_product a ≡ true) × (is_product b ≡ true)
            tests = (and-eq-true_iff (is_product a) (is_product b)).0 (sym products_at ∙ holds)

            few_a : kind_of a ≤ 2
            few_a = few-kinds (kind_of a) tests.0

            few_b : kind_of b ≤ 2
            few_b = few-kinds (kind_of b) tests.1

        pub row-left : {q : List ℕ} → row_start left ≤ length p → m ≡ false → q ≡ with_row p end (row_words 5 (middle - 1) (end - 1) [] no_span)
            → Left p left (fold_product 64 s a b) (end + 1) q
        row-left room fails put =
            left_as (as_row s a b plain not_sums (λ product-a product-b. false≢true (sym fails ∙ products_at ∙ ap₂ ◌&&◌ product-a product-b)))
            (product-row-left o room put)
