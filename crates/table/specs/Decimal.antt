-- A number as the program prints it: its decimal digits, with no zero in front.
use Rattle.std.specs.Prelude.{cond, List, [], ◌∷◌, ◌++◌, ℕ, zero, suc, ◌+◌, ◌/◌, ◌%◌, ltb}

-- At most `most` digits of n, the last ones.
unfoldable pub last_digits : ℕ → ℕ → List ℕ
last_digits zero n = []
last_digits (suc most) n = cond (ltb n 10) ((48 + n) ∷ []) (last_digits most (n / 10) ++ (48 + n % 10) ∷ [])

-- A number has fewer digits than it counts, or one.
abbrev pub decimal : ℕ → List ℕ
decimal n = last_digits (suc n) n
