-- What the folded tree of an accepted formula is like: chains that fit a row, words that fit the width, literal powers from 2 to 64, and
-- raises with an odd constant for a base.
use mathlib.Core.Path.{◌≡◌}
use mathlib.Core.Bool.{true}
use mathlib.Core.List.{List}
use Prim.Native.Nat.{ℕ, ◌%◌, ◌^◌, ◌≤◌, ◌<◌}
use lib.ListN.{length, get_or}
use Rattle.fold.specs.Folded.{Folded, constant, sum_chain, product_chain, sum_row, difference_row, product_row, minus_row, power_row, raise_row, is_constant}
use Rattle.fold.specs.Folding.{word_of}

pub record Fits (w : ℕ) (f : List ℕ) : Type 0 where
  pub least : 2 ≤ length f
  pub most : length f ≤ 17
  pub words : (j : ℕ) → get_or f j 0 < 2 ^ w

pub record OddBase (a : Folded) : Type 0 where
  pub known : is_constant a ≡ true
  pub odd : word_of a % 2 ≡ 1

unfoldable pub WellFormed : ℕ → Folded → Type 0
WellFormed w (constant c) = c < 2 ^ w
WellFormed w (sum_chain f) = Fits w f
WellFormed w (product_chain f) = Fits w f
WellFormed w (sum_row s a b) = WellFormed w a × WellFormed w b
WellFormed w (difference_row s a b) = WellFormed w a × WellFormed w b
WellFormed w (product_row s a b) = WellFormed w a × WellFormed w b
WellFormed w (minus_row s a) = WellFormed w a
WellFormed w (power_row s a n) = (2 ≤ n) × (n ≤ 64) × WellFormed w a
WellFormed w (raise_row s a b) = OddBase a × WellFormed w a × WellFormed w b
