-- The rules of 01 for minus, merged as the code merges them: a constant is a sum chain of length 0.
use Rattle.std.proofs.Common.{◌≡◌, ℕ, ◌<◌, ◌≤◌, Bool, true, false, ltb, List, [], ◌∷◌, map, length, get_or, set, refl, ap, not-suc-le-zero, arith, ltb-false, ltb-true}
use Rattle.word.specs.Word as Word
use Rattle.chain.specs.Chain.{value, rest, joined, without_trailing, trimmed}
use Rattle.chain.specs.SumChain.{difference}
use Rattle.formula.specs.Tree.{Span}
use Rattle.fold.specs.Folded as Folded
use Rattle.fold.specs.Folded.{Folded, minus_row, of_product, trimmed_sum, trimmed_product}
use Rattle.fold.specs.Folding.{word_of, fold_minus}
use Rattle.fold.specs.Layout.{row_count}
use Rattle.fold.proofs.ReadBack.{some_rows}
use Rattle.fold.proofs.Origins.{kind_of}
use Rattle.fold_rows.specs.Standing.{filled_with_ones}
use Rattle.fold_rows.proofs.Stood.{one_row, no_constant, no_sum-chain, is-product-chain, no_chain}
use Rattle.fold_operands.proofs.OperandLaws.{Chain, Sum, one, several}
use Rattle.fold_operands.proofs.OnesTrimmed.{filled-trimmed}

-- ---- the rule for constants and sum chains
from_zero : (w : ℕ) (f : List ℕ) → 0 < length f → map (λ x. Word.negation w x) f ≡ difference w (0 ∷ []) f
unfolding joined
from_zero w [] h = absurd (not-suc-le-zero h)
from_zero w (a ∷ f) h = refl

pub minus_rule : (w : ℕ) (s : Span) {a : Folded} → Sum a → 0 < length (Folded.elements a)
    → fold_minus w s a ≡ trimmed_sum (difference w (0 ∷ []) (Folded.elements a))
unfolding fold_minus joined trimmed without_trailing
minus_rule w s (one c) h = refl
minus_rule w s (several f) h = ap trimmed_sum (from_zero w f h)

-- ---- the other rules
pub minus_otherwise : (w : ℕ) (s : Span) (a : Folded) → 2 < kind_of a → fold_minus w s a ≡ minus_row s a
unfolding fold_minus
minus_otherwise w s a h = rw ((no_chain a h).0, (no_chain a h).1, (no_chain a h).2)

-- "minus P: f0 only."
pub minus-product : (w : ℕ) (s : Span) (a : Folded) → kind_of a ≡ 2
    → fold_minus w s a ≡ trimmed_product (Word.negation w (word_of a) ∷ rest (Folded.elements a))
unfolding fold_minus
minus-product w s a h =
    rw (no_constant a (λ e. omega (arith, h, e)), no_sum-chain a (λ e. omega (arith, h, e)), is-product-chain a h)

-- The first of 17 words filled with ones, read and replaced.
pub filled-first : (f : List ℕ) → Chain f → get_or (filled_with_ones 17 f) 0 0 ≡ value 0 f
unfolding filled_with_ones
filled-first [] h = absurd (not-suc-le-zero h.some)
filled-first (a ∷ f) h = refl

pub first_replaced : (v : ℕ) (f : List ℕ) → Chain f → trimmed_product (set (filled_with_ones 17 f) 0 v) ≡ trimmed_product (v ∷ rest f)
unfolding filled_with_ones
first_replaced v [] h = absurd (not-suc-le-zero h.some)
first_replaced v (a ∷ f) h = ap of_product (filled-trimmed 16 (v ∷ f) h.most)

-- Minus leaves no fewer rows than its operand had.
pub minus-rows : (w : ℕ) (s : Span) (a : Folded) → row_count a ≤ row_count (fold_minus w s a)
unfolding row_count
minus-rows w s a = go (ltb 2 (kind_of a)) refl
  where
    go : (t : Bool) → ltb 2 (kind_of a) ≡ t → row_count a ≤ row_count (fold_minus w s a)
    go true e = omega (arith, ap row_count (minus_otherwise w s a (ltb-true 2 (kind_of a) e)))
    go false e = omega (arith, one_row a (ltb-false 2 (kind_of a) e), some_rows (fold_minus w s a))
