-- The number that a field of a line holds, if it holds one that is small enough.
use Rattle.std.specs.Prelude.{Bool, true, false, cond, ◌&&◌, ◌||◌, List, [], ◌∷◌, ℕ, leb, Option, Some, None}
use Rattle.formula.specs.Bytes.{digits_from}

-- Whether a field holds a number that is small enough, and the number; 0 if it doesn't.
pub record FieldNumber : Type 0 where
  pub ok : Bool
  pub value : ℕ

-- What an answer of the code says.
abbrev pub as_field_number : Option ℕ → FieldNumber
as_field_number None = record { ok = false; value = 0 }
as_field_number (Some v) = record { ok = true; value = v }

unfoldable pub all_digits : List ℕ → Bool
all_digits [] = true
all_digits (d ∷ ds) = (leb 48 d && leb d 57) && all_digits ds

abbrev pub is_empty : List ℕ → Bool
is_empty [] = true
is_empty (d ∷ ds) = false

-- "Numbers are as in the grammar": "A number is 0, or digits that don't begin with 0."
unfoldable pub is_number : List ℕ → Bool
is_number [] = false
is_number (d ∷ ds) = all_digits (d ∷ ds) && (is_empty ds || leb 49 d)

-- The number, if the field is one and it is `most` at most.
unfoldable pub number_up_to : ℕ → List ℕ → FieldNumber
number_up_to most s =
    cond (is_number s && leb (digits_from 0 s) most)
    (record { ok = true; value = digits_from 0 s })
    (record { ok = false; value = 0 })
