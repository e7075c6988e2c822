-- What the tests of the folding rules see of an operand by its root row, and the chain that stands in a row.
use Rattle.std.specs.Prelude.{Bool, ◌&&◌, ◌||◌, List, ℕ, ◌+◌, eqb, ltb, take}
use Rattle.plan.specs.Measures.{element_count}
use Rattle.plan.specs.Row.{Row, kind, word_a, elements, first_element}
use Rattle.chain.specs.Answer.{given}
use Rattle.fold_rows.specs.Standing.{filled_with_ones}

-- The constant n; a constant or a sum chain; a constant or a product chain.
abbrev pub is_constant_row : ℕ → Row → Bool
is_constant_row n row = eqb (kind row) 0 && eqb (first_element row) n

abbrev pub is_sum_row : Row → Bool
is_sum_row row = ltb (kind row) 2

abbrev pub is_product_row : Row → Bool
is_product_row row = eqb (kind row) 0 || eqb (kind row) 2

-- The sum chain in a row, trimmed, and the product chain in a row, filled with ones.
abbrev pub sum_in : Row → List ℕ
sum_in row = given (elements row) (word_a row)

abbrev pub product_in : Row → List ℕ
product_in row = filled_with_ones element_count (take (word_a row + 1) (elements row))
