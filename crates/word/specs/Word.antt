-- Words modulo 2^w, and the arithmetic on them. The width w is a parameter of every definition; the box has w = 64.
-- Laws about these definitions are in proofs/.
use Rattle.std.specs.Prelude.{ℕ, ◌+◌, ◌-◌, ◌*◌, ◌%◌, ◌^◌}

-- "All values are words modulo 2^64": the word of a whole number.
abbrev pub word : ℕ → ℕ → ℕ
word w a = a % 2 ^ w

abbrev pub sum : ℕ → ℕ → ℕ → ℕ
sum w a b = (a + b) % 2 ^ w

-- The word that b added to gives a: a and the distance from b to the next multiple of 2^w.
abbrev pub difference : ℕ → ℕ → ℕ → ℕ
difference w a b = (a + (2 ^ w - b % 2 ^ w)) % 2 ^ w

-- The word that a added to gives 0.
abbrev pub negation : ℕ → ℕ → ℕ
negation w a = difference w 0 a

abbrev pub product : ℕ → ℕ → ℕ → ℕ
product w a b = (a * b) % 2 ^ w

-- "the n-fold product, and every n = 0 gives 1, 0^0 too".
abbrev pub power : ℕ → ℕ → ℕ → ℕ
power w b n = b ^ n % 2 ^ w
