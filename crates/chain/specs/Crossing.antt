-- How the first element of a sum chain crosses the end of an era in one shift, by request One of document 02. The width w of words is a parameter; the box has
-- w = 64. The sum is taken in whole numbers, the library's ℤ: `le_z a b` and `lt_z a b` are its tests of a ≤ b and a < b.
use Rattle.std.specs.Prelude.{cond, List, [], ◌∷◌, ℕ, ◌^◌, ℤ, pos, negsuc, ◌+ℤ◌}
use Rattle.std.specs.Int.Signed.{le_z, lt_z}
use Rattle.word.specs.Signed.{signed}

-- "with f1 read as a signed number d": the step that a shift takes the first element by. A constant has none, and stays where it is.
abbrev pub signed_step : ℕ → List ℕ → ℤ
signed_step w [] = pos 0
signed_step w (a ∷ []) = pos 0
signed_step w (a ∷ b ∷ f) = signed w b

-- "+1 if f0 + d is 2^64 or more, -1 if it is below 0, else 0".
unfoldable pub crossed_by : ℕ → ℕ → ℤ → ℤ
crossed_by w a d = cond (le_z (pos (2 ^ w)) (pos a +ℤ d)) (pos 1) (cond (lt_z (pos a +ℤ d) (pos 0)) (negsuc 0) (pos 0))

-- "Each sum chain shift shall also say how its first element crossed"; "a constant .. says 0".
abbrev pub crossing : ℕ → List ℕ → ℤ
crossing w [] = pos 0
crossing w (a ∷ []) = pos 0
crossing w (a ∷ b ∷ f) = crossed_by w a (signed w b)
