-- The rules of 01 for sums and differences, merged as the code merges them: a constant is a sum chain of length 0.
use mathlib.Core.Path.{◌≡◌, refl}
use mathlib.Core.Bool.{Bool, true, false, cond, ◌&&◌, ◌||◌}
use mathlib.Core.List.{List}
use Prim.Native.Nat.{ℕ, ◌-◌, ◌≤◌}
use native.Mathlib.Omega.{arith}
use lib.ListN.{length}
use Rattle.chain.specs.Chain.{joined, without_trailing, trimmed, row}
use Rattle.chain.specs.SumChain.{sum_at}
use Rattle.chain.specs.Answer.{chain}
use Rattle.chain.proofs.Calls.{sum_as, difference_as}
use Rattle.formula.specs.Tree.{Span}
use Rattle.fold.specs.Folded as Folded
use Rattle.fold.specs.Folded.{Spans, Folded, is_constant, is_sum_chain, trimmed_sum}
use Rattle.fold.specs.Folding.{is, is_sum, constants, fold_sum, fold_difference}
use Rattle.fold.specs.Layout.{row_count}
use Rattle.fold_operands.proofs.OperandLaws.{Chain, Sum, one, several}
use Rattle.fold_operands.proofs.CallsOnRows.{call_answer}
use Rattle.fold_minus.proofs.MinusRules.{minus-rows}
use Rattle.fold_sums.specs.declared.Additive.{Additive}
use Rattle.fold_sums.specs.declared.Additive.TheVariants as Variants
use Rattle.fold_sums.specs.ByKind.{row_kind, SumOrDifference, plus, less, fold_sum_or_difference, chain_of_both, both_outcome, fold_alone, row_of_both}

-- The kind of an operator's row is one of the two.
pub additive : (operator : Additive) → SumOrDifference (row_kind operator)
additive Variants.Sum = plus
additive Variants.Difference = less

-- ---- what chain_calls::sum and chain_calls::difference answer on rows of chains: the chains need not be trimmed first
both_as : {kind : ℕ} → SumOrDifference kind → (w : ℕ) (f f' g g' : List ℕ) → ((i : ℕ) → sum_at f i ≡ sum_at f' i) → ((i : ℕ) → sum_at g i ≡ sum_at g' i)
    → length f' ≤ 17 → length g' ≤ 17 → trimmed 0 (row 17 (chain_of_both w kind f g)) ≡ trimmed 0 (chain_of_both w kind f' g')
both_as plus = sum_as
both_as less = difference_as

pub both-answer : (w : ℕ) {kind : ℕ} → SumOrDifference kind → (f g : List ℕ) → Chain f → Chain g
    → both_outcome w kind (row 17 f) (length f - 1) (row 17 g) (length g - 1) ≡ chain (trimmed 0 (chain_of_both w kind f g))
both-answer w {kind} which = call_answer (chain_of_both w kind) (both_as which w)

-- ---- the rules for constants and sum chains: "C standing as f0"
pub both_rule : (w : ℕ) {kind : ℕ} → SumOrDifference kind → (s : Spans) {a b : Folded} → Sum a → Sum b
    → fold_sum_or_difference w kind s a b ≡ trimmed_sum (chain_of_both w kind (Folded.elements a) (Folded.elements b))
unfolding fold_sum fold_difference joined trimmed without_trailing
both_rule w plus s (one c) (one d) = refl
both_rule w plus s (one c) (several g) = refl
both_rule w plus s (several f) (one d) = refl
both_rule w plus s (several f) (several g) = refl
both_rule w less s (one c) (one d) = refl
both_rule w less s (one c) (several g) = refl
both_rule w less s (several f) (one d) = refl
both_rule w less s (several f) (several g) = refl

-- ---- the other rules, where not both are constants or sum chains
no_constants : (x u y v : Bool) → ((x || u) && (y || v)) ≡ false → (x && y) ≡ false
no_constants true u true v h = h
no_constants true u false v h = refl
no_constants false u y v h = refl

none : (a b : Folded) → (is_sum a && is_sum b) ≡ false → constants a b ≡ false
none a b = no_constants (is_constant a) (is_sum_chain a) (is_constant b) (is_sum_chain b)

pub both_otherwise : (w : ℕ) {kind : ℕ} → SumOrDifference kind → (s : Spans) (a b : Folded) → (is_sum a && is_sum b) ≡ false
    → fold_sum_or_difference w kind s a b ≡ cond (is 0 b) a (cond (is 0 a) (fold_alone w kind s.right b) (row_of_both kind s a b))
unfolding fold_sum fold_difference
both_otherwise w plus s a b other = rw (none a b other, other)
both_otherwise w less s a b other = rw (none a b other, other)

pub alone-rows : (w : ℕ) {kind : ℕ} → SumOrDifference kind → (s : Span) (a : Folded) → row_count a ≤ row_count (fold_alone w kind s a)
alone-rows w plus s a = omega arith
alone-rows w less s a = minus-rows w s a
