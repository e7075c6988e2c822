-- The bytes that formulas are made of, the bytes of a quoted text, and the value of digits.
use Rattle.std.specs.Prelude.{List, [], ◌∷◌, ℕ, ◌+◌, ◌-◌, ◌*◌, ◌≤◌}
use Prim.Native.String.{String}
use Prim.Native.Char.{code}

abbrev pub open_bracket : ℕ
open_bracket = 40

abbrev pub close_bracket : ℕ
close_bracket = 41

abbrev pub star : ℕ
star = 42

abbrev pub plus_sign : ℕ
plus_sign = 43

abbrev pub minus_sign : ℕ
minus_sign = 45

abbrev pub caret : ℕ
caret = 94

abbrev pub letter_x : ℕ
letter_x = 120

-- The bytes of a quoted text.
unfoldable pub bytes : String → List ℕ
bytes String.[] = []
bytes (String.◌∷◌ c s) = code c ∷ bytes s

-- 0 to 9 are the bytes 48 to 57.
abbrev pub Digit : ℕ → Type 0
Digit d = (48 ≤ d) × (d ≤ 57)

-- The value of digits that follow digits of value v.
unfoldable pub digits_from : ℕ → List ℕ → ℕ
digits_from v [] = v
digits_from v (d ∷ ds) = digits_from (10 * v + (d - 48)) ds
