-- What the tests of the rules say of an operand, by the kind of its root row: 0, 1 and 2 for a constant, a sum chain and a product chain, 3 to 8 for an
-- operator.
use mathlib.Core.Path.{◌≡◌, refl}
use lib.Dec.{eqb, ltb}
use Rattle.fold.specs.Folded.{Folded, constant, sum_chain, product_chain, sum_row, difference_row, product_row, minus_row, power_row, raise_row}
use Rattle.fold.specs.Folded.{is_constant, is_sum_chain, is_product_chain}
use Rattle.fold.specs.Folding.{is_sum}
use Rattle.fold.proofs.Origins.{kind_of}

record ByKind (a : Folded) : Type 0 where
  constantly : is_constant a ≡ eqb (kind_of a) 0
  summed : is_sum_chain a ≡ eqb (kind_of a) 1
  multiplied : is_product_chain a ≡ eqb (kind_of a) 2
  either : is_sum a ≡ ltb (kind_of a) 2

by_kind : (a : Folded) → ByKind a
unfolding kind_of
by_kind (constant c) = record { constantly = refl; summed = refl; multiplied = refl; either = refl }
by_kind (sum_chain f) = record { constantly = refl; summed = refl; multiplied = refl; either = refl }
by_kind (product_chain f) = record { constantly = refl; summed = refl; multiplied = refl; either = refl }
by_kind (sum_row s a b) = record { constantly = refl; summed = refl; multiplied = refl; either = refl }
by_kind (difference_row s a b) = record { constantly = refl; summed = refl; multiplied = refl; either = refl }
by_kind (product_row s a b) = record { constantly = refl; summed = refl; multiplied = refl; either = refl }
by_kind (minus_row s a) = record { constantly = refl; summed = refl; multiplied = refl; either = refl }
by_kind (power_row s a n) = record { constantly = refl; summed = refl; multiplied = refl; either = refl }
by_kind (raise_row s a b) = record { constantly = refl; summed = refl; multiplied = refl; either = refl }

module _ (a : Folded) where
  pub constant_test : is_constant a ≡ eqb (kind_of a) 0
  constant_test = (by_kind a).constantly

  pub sum-chain_test : is_sum_chain a ≡ eqb (kind_of a) 1
  sum-chain_test = (by_kind a).summed

  pub product-chain_test : is_product_chain a ≡ eqb (kind_of a) 2
  product-chain_test = (by_kind a).multiplied

  pub sum_test : is_sum a ≡ ltb (kind_of a) 2
  sum_test = (by_kind a).either
