-- What the tests of the rules say of an operand: which constant or chain it is, and that a sum chain is made again from its elements.
use mathlib.Core.Path.{◌≡◌, refl, sym, ◌∙◌}
use mathlib.Core.Bool.{Bool, true, false, ◌||◌, false≢true}
use mathlib.Core.List.{List, [], ◌∷◌}
use Prim.Native.Nat.{ℕ, ◌≤◌}
use native.Mathlib.Omega.{arith}
use lib.ListN.{length}
use Rattle.fold.specs.Folded.{Folded, constant, sum_chain, product_chain, sum_row, difference_row, product_row, minus_row, power_row, raise_row}
use Rattle.fold.specs.Folded.{is_constant, is_sum_chain, is_product_chain, elements, of_sum}
use Rattle.fold.specs.Folding.{word_of}
use Rattle.fold.proofs.Shape.{Fits}

-- One of two tests holds.
pub either : {P : Type 0} (a b : Bool) → (a || b) ≡ true → (a ≡ true → P) → (b ≡ true → P) → P
either true b e left right = left refl
either false b e left right = right e

-- ---- an operand that passes a test is what the test says
pub record Shaped (a : Folded) : Type 0 where
  pub constantly : is_constant a ≡ true → a ≡ constant (word_of a)
  pub summed : is_sum_chain a ≡ true → a ≡ sum_chain (elements a)
  pub multiplied : is_product_chain a ≡ true → a ≡ product_chain (elements a)

no_chain : (a : Folded) → is_constant a ≡ false → is_sum_chain a ≡ false → is_product_chain a ≡ false → Shaped a
no_chain a c s p = record {
  constantly = λ e. absurd (false≢true (sym c ∙ e));
  summed = λ e. absurd (false≢true (sym s ∙ e));
  multiplied = λ e. absurd (false≢true (sym p ∙ e));
}

pub shaped : (a : Folded) → Shaped a
shaped (constant c) = record { constantly = λ e. refl; summed = λ e. absurd (false≢true e); multiplied = λ e. absurd (false≢true e) }
shaped (sum_chain f) = record { constantly = λ e. absurd (false≢true e); summed = λ e. refl; multiplied = λ e. absurd (false≢true e) }
shaped (product_chain f) = record { constantly = λ e. absurd (false≢true e); summed = λ e. absurd (false≢true e); multiplied = λ e. refl }
shaped (sum_row s a b) = no_chain (sum_row s a b) refl refl refl
shaped (difference_row s a b) = no_chain (difference_row s a b) refl refl refl
shaped (product_row s a b) = no_chain (product_row s a b) refl refl refl
shaped (minus_row s a) = no_chain (minus_row s a) refl refl refl
shaped (power_row s a n) = no_chain (power_row s a n) refl refl refl
shaped (raise_row s a b) = no_chain (raise_row s a b) refl refl refl

-- A sum chain that fits is made again from its elements.
pub sum-chain_again : (w : ℕ) (f : List ℕ) → Fits w f → of_sum f ≡ sum_chain f
sum-chain_again w f fits = again f fits.least
  where
    again : (f : List ℕ) → 2 ≤ length f → of_sum f ≡ sum_chain f
    again [] h = absurd (omega arith)
    again (a ∷ []) h = absurd (omega arith)
    again (a ∷ b ∷ f) h = refl
