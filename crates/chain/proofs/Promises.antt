-- Two facts of every public call: any two answers that meet its contract are equal, and words past the given length are not read
-- (inputs that agree up to the length get the same answer).
use mathlib.Core.Path.{◌≡◌, ap, ap₂}
use mathlib.Core.Bool.{cond}
use mathlib.Core.List.{List}
use Prim.Native.Nat.{ℕ, ◌+◌}
use lib.Dec.{ltb}
use lib.IntN.{pos}
use lib.ListN.{take}
use Rattle.word.proofs.Unique.{both_are}
use Rattle.chain.specs.Chain.{words, trimmed}
use Rattle.chain.specs.Answer.{ChainAnswer, ShiftAnswer, ValueAnswer, answered, chain, given, unless_long, unless_over, trim_outcome, sum_outcome, difference_outcome, product_outcome, with_crossing, shift_answer, coefficients_outcome, value_answer}
use Rattle.chain.specs.Crossing.{crossing}
use Rattle.chain.specs.SumChain as SumChain
use Rattle.chain.specs.BackwardChain as BackwardChain
use Rattle.chain.specs.BackwardAnswer.{changed, inverse_shift_outcome, backward_shift_outcome, backward_inverse_shift_outcome, backward_product_outcome, to_backward_outcome, to_forward_outcome}

-- ---- any two conforming answers are equal
pub trim_unique : (f : List ℕ) (k : ℕ) (r s : ChainAnswer) → r ≡ answered (trim_outcome f k) → s ≡ answered (trim_outcome f k) → r ≡ s
trim_unique f k r s = both_are

pub sum-unique : (f : List ℕ) (k : ℕ) (g : List ℕ) (l : ℕ) (r s : ChainAnswer)
    → r ≡ answered (sum_outcome 64 f k g l) → s ≡ answered (sum_outcome 64 f k g l) → r ≡ s
sum-unique f k g l r s = both_are

pub difference-unique : (f : List ℕ) (k : ℕ) (g : List ℕ) (l : ℕ) (r s : ChainAnswer)
    → r ≡ answered (difference_outcome 64 f k g l) → s ≡ answered (difference_outcome 64 f k g l) → r ≡ s
difference-unique f k g l r s = both_are

pub product-unique : (f : List ℕ) (k : ℕ) (g : List ℕ) (l : ℕ) (r s : ChainAnswer)
    → r ≡ answered (product_outcome 64 f k g l) → s ≡ answered (product_outcome 64 f k g l) → r ≡ s
product-unique f k g l r s = both_are

pub shift-unique : (f : List ℕ) (k : ℕ) (r s : ShiftAnswer) → r ≡ shift_answer 64 f k → s ≡ shift_answer 64 f k → r ≡ s
shift-unique f k r s = both_are

pub value-unique : (f : List ℕ) (k : ℕ) (r s : ValueAnswer) → r ≡ value_answer f k → s ≡ value_answer f k → r ≡ s
value-unique f k r s = both_are

pub from_coefficients_unique : (a : List ℕ) (r s : ChainAnswer)
    → r ≡ answered (coefficients_outcome 64 a) → s ≡ answered (coefficients_outcome 64 a) → r ≡ s
from_coefficients_unique a r s = both_are

-- Tables that run backwards; a backward chain's value and sum answer as a forward one's do.
module _ (f : List ℕ) (k : ℕ) (r s : ChainAnswer) where
  pub inverse_shift-unique : r ≡ answered (inverse_shift_outcome 64 f k) → s ≡ answered (inverse_shift_outcome 64 f k) → r ≡ s
  inverse_shift-unique = both_are

  pub backward_shift-unique : r ≡ answered (backward_shift_outcome 64 f k) → s ≡ answered (backward_shift_outcome 64 f k) → r ≡ s
  backward_shift-unique = both_are

  pub backward_inverse_shift-unique : r ≡ answered (backward_inverse_shift_outcome 64 f k) → s ≡ answered (backward_inverse_shift_outcome 64 f k) → r ≡ s
  backward_inverse_shift-unique = both_are

  pub to_backward_unique : r ≡ answered (to_backward_outcome 64 f k) → s ≡ answered (to_backward_outcome 64 f k) → r ≡ s
  to_backward_unique = both_are

  pub to_forward_unique : r ≡ answered (to_forward_outcome 64 f k) → s ≡ answered (to_forward_outcome 64 f k) → r ≡ s
  to_forward_unique = both_are

pub backward_product-unique : (f : List ℕ) (k : ℕ) (g : List ℕ) (l : ℕ) (r s : ChainAnswer)
    → r ≡ answered (backward_product_outcome 64 f k g l) → s ≡ answered (backward_product_outcome 64 f k g l) → r ≡ s
backward_product-unique f k g l r s = both_are

-- ---- words past the given length are not read
-- The two arrays hold the same words up to the length k.
given_same : (f there : List ℕ) (k : ℕ) → take (k + 1) f ≡ take (k + 1) there → given f k ≡ given there k
given_same f there k e = ap (λ h. trimmed 0 h) e

module _ (w : ℕ) (f f' : List ℕ) (k : ℕ) (same : take (k + 1) f ≡ take (k + 1) f') where
  pub trim_reads : trim_outcome f k ≡ trim_outcome f' k
  trim_reads = ap (λ h. unless_long k (chain h)) (given_same f f' k same)

  pub shift-reads : shift_answer w f k ≡ shift_answer w f' k
  shift-reads =
      ap (λ h. with_crossing (answered (unless_long k (chain (trimmed 0 (words w (SumChain.sum_shift h)))))) (cond (ltb 16 k) (pos 0) (crossing w h)))
      (given_same f f' k same)

  pub changed-reads : (change : List ℕ → List ℕ) → changed change f k ≡ changed change f' k
  changed-reads change = ap (λ h. unless_long k (chain (trimmed 0 (change h)))) (given_same f f' k same)

  pub value-reads : value_answer f k ≡ value_answer f' k
  value-reads = rw (given_same f f' k same)

  module _ (g g' : List ℕ) (l : ℕ) (too : take (l + 1) g ≡ take (l + 1) g') where
    pub sum-reads : sum_outcome w f k g l ≡ sum_outcome w f' k g' l
    sum-reads =
        ap₂ (λ h j. unless_long k (unless_long l (chain (trimmed 0 (words w (SumChain.sum h j)))))) (given_same f f' k same) (given_same g g' l too)

    pub difference-reads : difference_outcome w f k g l ≡ difference_outcome w f' k g' l
    difference-reads =
        ap₂ (λ h j. unless_long k (unless_long l (chain (trimmed 0 (SumChain.difference w h j))))) (given_same f f' k same) (given_same g g' l too)

    pub product-reads : product_outcome w f k g l ≡ product_outcome w f' k g' l
    product-reads =
        ap₂ (λ h j. unless_long k (unless_long l (unless_over h j (chain (trimmed 0 (words w (SumChain.product h j)))))))
        (given_same f f' k same) (given_same g g' l too)

    pub backward_product-reads : backward_product_outcome w f k g l ≡ backward_product_outcome w f' k g' l
    backward_product-reads =
        ap₂ (λ h j. unless_long k (unless_long l (unless_over h j (chain (trimmed 0 (words w (BackwardChain.product w h j)))))))
        (given_same f f' k same) (given_same g g' l too)
