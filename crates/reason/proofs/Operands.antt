-- An operand is a constant, a chain or an operator.
use mathlib.Core.Path.{◌≡◌, refl, ap, ◌∙◌}
use mathlib.Core.Bool.{Bool, true, false, not, ◌&&◌, ◌||◌, true≢false, false≢true, and-false}
use mathlib.Core.List.{List}
use Prim.Native.Nat.{ℕ}
use Rattle.fold.specs.Folded.{Folded, constant, sum_chain, product_chain, sum_row, difference_row, product_row, minus_row, power_row, raise_row}
use Rattle.fold.specs.Folded.{is_constant, is_sum_chain, is_product_chain}
use Rattle.reason.specs.Reasons.{is_operator}

-- ---- one of two tests that doesn't hold
pub left-none : (a b : Bool) → a ≡ false → (a && b) ≡ false
left-none a b e = ap (λ t. t && b) e

pub right-none : (a b : Bool) → b ≡ false → (a && b) ≡ false
right-none a b e = ap (λ t. a && t) e ∙ and-false a

-- ---- which of them it is
pub data Chain : Folded → Type 0 where
  a_constant : (c : ℕ) → Chain (constant c)
  as_a_sum : (f : List ℕ) → Chain (sum_chain f)
  a_product : (f : List ℕ) → Chain (product_chain f)

-- What is no operator is a constant or a chain, and an operator is neither.
pub chain-operand : (a : Folded) → is_operator a ≡ false → Chain a
chain-operand (constant c) e = a_constant c
chain-operand (sum_chain f) e = as_a_sum f
chain-operand (product_chain f) e = a_product f
chain-operand (sum_row s a b) e = absurd (true≢false e)
chain-operand (difference_row s a b) e = absurd (true≢false e)
chain-operand (product_row s a b) e = absurd (true≢false e)
chain-operand (minus_row s a) e = absurd (true≢false e)
chain-operand (power_row s a n) e = absurd (true≢false e)
chain-operand (raise_row s a b) e = absurd (true≢false e)

pub no_chain : (a : Folded) → is_operator a ≡ true → (is_constant a ≡ false) × (is_sum_chain a ≡ false) × (is_product_chain a ≡ false)
no_chain a = go (is_constant a) (is_sum_chain a) (is_product_chain a)
  where
    go : (c s p : Bool) → not (c || (s || p)) ≡ true → (c ≡ false) × (s ≡ false) × (p ≡ false)
    go true s p e = absurd (false≢true e)
    go false true p e = absurd (false≢true e)
    go false false true e = absurd (false≢true e)
    go false false false e = (refl, refl, refl)
