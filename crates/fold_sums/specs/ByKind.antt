-- Sum and difference as one operator, by the kind of its row. The rules themselves stand in `fold`, each under its sentence.
use Rattle.std.specs.Prelude.{cond, List, ℕ, eqb}
use Rattle.chain.specs.Chain.{words, trimmed}
use Rattle.chain.specs.SumChain.{sum, difference}
use Rattle.chain.specs.Answer.{Outcome, chain, unless_long, given}
use Rattle.formula.specs.Tree.{Span}
use Rattle.fold_sums.specs.declared.Additive.{Additive}
use Rattle.fold_sums.specs.declared.Additive.TheVariants.{Sum, Difference}
use Rattle.fold.specs.Folded.{Spans, Folded, sum_row, difference_row}
use Rattle.fold.specs.Folding.{fold_sum, fold_difference, fold_minus}

-- The kinds of + and -.
pub data SumOrDifference : ℕ → Type 0 where
  plus : SumOrDifference 3
  less : SumOrDifference 4

-- The kind of an operator's row.
abbrev pub row_kind : Additive → ℕ
row_kind Sum = 3
row_kind Difference = 4

-- The rules of a sum, or those of a difference.
abbrev pub fold_sum_or_difference : ℕ → ℕ → Spans → Folded → Folded → Folded
fold_sum_or_difference w kind s a b = cond (eqb kind 3) (fold_sum w s a b) (fold_difference w s a b)

-- "element by element", "and the same under -": the chain of two chains, and what the call for it comes to.
abbrev pub chain_of_both : ℕ → ℕ → List ℕ → List ℕ → List ℕ
chain_of_both w kind f g = cond (eqb kind 3) (words w (sum f g)) (difference w f g)

abbrev pub both_outcome : ℕ → ℕ → List ℕ → ℕ → List ℕ → ℕ → Outcome
both_outcome w kind f k g l = unless_long k (unless_long l (chain (trimmed 0 (chain_of_both w kind (given f k) (given g l)))))

-- "0+A: A." "0-A: as minus A."
abbrev pub fold_alone : ℕ → ℕ → Span → Folded → Folded
fold_alone w kind s a = cond (eqb kind 3) a (fold_minus w s a)

-- "Anything else stays a row of the plan."
abbrev pub row_of_both : ℕ → Spans → Folded → Folded → Folded
row_of_both kind s a b = cond (eqb kind 3) (sum_row s a b) (difference_row s a b)
