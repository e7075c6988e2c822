-- Raises of operands that stand in a plan: what the code leaves in each case is what the rules say.
use mathlib.Core.Path.{◌≡◌, refl, sym, ap, ap₂, ◌∙◌}
use mathlib.Core.Bool.{Bool, true, false, cond}
use mathlib.Core.Logic.{◌⊎◌, inl, inr}
use mathlib.Core.List.{List, [], ◌∷◌}
use Prim.Native.Nat.{ℕ, ◌+◌, ◌-◌, ◌≤◌, ◌<◌}
use native.Mathlib.Omega.{arith}
use lib.Dec.{eqb}
use lib.ListN.{length}
use borrow.Author.Tests.{eqb-true}
use Rattle.plan.specs.Measures.{row_start}
use Rattle.word.specs.Word as Word
use Rattle.chain.specs.Chain as Chain
use Rattle.chain.specs.Chain.{words, trimmed, without_trailing}
use Rattle.chain.specs.ProductChain as ProductChain
use Rattle.plan.specs.Row.{kind, elements, first_element}
use Rattle.plan.specs.Plan.{row}
use Rattle.fold.specs.Folded as Folded
use Rattle.fold.specs.Folded.{Spans, Folded, constant, raise_row, of_product, trimmed_product}
use Rattle.fold.specs.Folding.{word_of, fold_raise}
use Rattle.fold.specs.Layout.{row_words}
use Rattle.fold.proofs.Origins.{kind_of}
use Rattle.fold_rows.specs.Standing.{with_row, placed, no_span}
use Rattle.fold_rows.proofs.Stood.{is-constant, no_constant, no_sum-chain}
use Rattle.fold_operands.specs.Operands.{FoldsBoth}
use Rattle.fold_operands.proofs.OperandLaws.{Sum, one, several, sum-operand, operand-kind}
use Rattle.fold_operands.proofs.OperandLaws.{operand-elements, operand-word, operand-chain}
use Rattle.fold_operands.proofs.Leaving.{left_as, product-left, raise-row-left}
use Rattle.fold_raises.proofs.RaiseChains.{raise-trimmed}

-- ---- the rules, by the kinds of the operands
trimmed-alone : (x : ℕ) → trimmed_product (x ∷ []) ≡ constant x
unfolding trimmed without_trailing
trimmed-alone x = go (eqb x 0) refl
  where
    go : (t : Bool) → eqb x 0 ≡ t → of_product (cond t (0 ∷ []) (x ∷ [])) ≡ constant x
    go true e = ap constant (sym (eqb-true x 0 e))
    go false e = refl

-- "C by C" is "C by S" with f0 alone.
raise_rule : (s : Spans) (a b : Folded) → kind_of a ≡ 0 → kind_of b < 2
    → fold_raise 64 s a b ≡ trimmed_product (words 64 (ProductChain.raised (word_of a) (Folded.elements b)))
unfolding fold_raise
raise_rule s a b z few = go (sum-operand b few)
  where
    go : {b : Folded} → Sum b → fold_raise 64 s a b ≡ trimmed_product (words 64 (ProductChain.raised (word_of a) (Folded.elements b)))
    go (one e) = rw (is-constant a z) (sym (trimmed-alone (Word.power 64 (word_of a) e)))
    go (several f) = rw (is-constant a z)

raise-row_rule : (s : Spans) (a b : Folded) → ((kind_of a ≡ 0) × (2 ≤ kind_of b)) ⊎ (kind_of a ≡ 0 → ⊥) → fold_raise 64 s a b ≡ raise_row s a b
unfolding fold_raise
raise-row_rule s a b (inl (z, many)) = rw (is-constant a z, no_constant b (λ e. omega (arith, e)), no_sum-chain b (λ e. omega (arith, e)))
raise-row_rule s a b (inr none) = rw (no_constant a none)

-- ---- what the code leaves
module _ (p : List ℕ) (left middle end : ℕ) {j k : ℕ} (base : j ≡ kind (row p (middle - 1))) (exponent : k ≡ kind (row p (end - 1))) where
  pub raise-folded : {c : ℕ} {f v q : List ℕ} → j ≡ 0 → k < 2 → c ≡ first_element (row p (middle - 1)) → f ≡ elements (row p (end - 1))
      → v ≡ words 64 (ProductChain.raised c f) → q ≡ placed p left no_span (trimmed_product v) → FoldsBoth (fold_raise 64) p left middle end (left + 1) q
  raise-folded {c} {f} {v} z few hc hf hv hq s a b h =
      left_as
      (raise_rule s a b zero small
      ∙ ap of_product
      (sym (ap (λ x. ProductChain.trimmed_product x) filled ∙ raise-trimmed (word_of a) (Folded.elements b) (operand-chain h.second below).most)))
      (product-left (ProductChain.trimmed_product v) hq)
    where
      zero : kind_of a ≡ 0
      zero = sym (operand-kind h.first) ∙ sym base ∙ z

      small : kind_of b < 2
      small = omega (arith, operand-kind h.second, exponent, few)

      below : kind_of b ≤ 2
      below = omega (arith, small)

      filled : v ≡ words 64 (ProductChain.raised (word_of a) (Chain.row 17 (Folded.elements b)))
      filled =
          hv
          ∙ ap₂ (λ x g. words 64 (ProductChain.raised x g)) (hc ∙ operand-word h.first (omega (arith, zero)))
          (hf ∙ operand-elements h.second below)

  pub raise_as_row : {q : List ℕ} → row_start left ≤ length p → ((j ≡ 0) × (2 ≤ k)) ⊎ (j ≡ 0 → ⊥)
      → q ≡ with_row p end (row_words 8 (middle - 1) (end - 1) [] no_span) → FoldsBoth (fold_raise 64) p left middle end (end + 1) q
  raise_as_row room kinds hq s a b h = left_as (raise-row_rule s a b (of_kinds kinds)) (raise-row-left h room hq)
    where
      of_kinds : ((j ≡ 0) × (2 ≤ k)) ⊎ (j ≡ 0 → ⊥) → ((kind_of a ≡ 0) × (2 ≤ kind_of b)) ⊎ (kind_of a ≡ 0 → ⊥)
      of_kinds (inl (z, many)) = inl (sym (operand-kind h.first) ∙ sym base ∙ z, omega (arith, many, exponent, operand-kind h.second))
      of_kinds (inr none) = inr (λ z. none (base ∙ operand-kind h.first ∙ z))
