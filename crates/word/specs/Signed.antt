-- Words read as signed numbers, and signed numbers as words, over the width w. Signed numbers are the library's ℤ.
-- Words themselves are in Word.antt; laws about these definitions are in proofs/SignedWords.antt.
use Rattle.std.specs.Prelude.{ℕ, suc, ◌-◌, ◌^◌, cond, ℤ, pos, negsuc, ◌-ℤ◌, nat_lt}

-- Half the number of words: 2^63 of 2^64.
abbrev pub half : ℕ → ℕ
half w = 2 ^ (w - 1)

-- "read as a signed number from -2^63 to 2^63 - 1": a word d below 2^63 is d, and any other is d - 2^64.
abbrev pub signed : ℕ → ℕ → ℤ
signed w d = cond (nat_lt d (half w)) (pos d) (pos d -ℤ pos (2 ^ w))

-- The word that reads as a signed number (two's complement): n, and 2^w - (n + 1) for -(n + 1).
abbrev pub word_of : ℕ → ℤ → ℕ
word_of w (pos n) = n
word_of w (negsuc n) = 2 ^ w - suc n
