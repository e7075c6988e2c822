-- What the reader of a number in a field answers.
use Rattle.std.specs.Prelude.{true, false, ℕ}
use Rattle.table.specs.NumberField.{FieldNumber}

abbrev pub taken : ℕ → FieldNumber
taken v = record { ok = true; value = v }

abbrev pub not_taken : FieldNumber
not_taken = record { ok = false; value = 0 }
