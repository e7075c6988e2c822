-- Words read as signed numbers, over the width w: which number a word of the lower half is, and which a word of the upper half; their range and their words.
use Rattle.std.proofs.Common.{◌≡◌, ℕ, zero, suc, ◌+◌, ◌-◌, ◌^◌, ◌<◌, ◌≤◌, Bool, true, false, T, ltb, ℤ, pos, negsuc, ◌-ℤ◌, neg_ℤ, ◌≤ℤ◌, refl, not-suc-le-zero, pow-suc, arith, le→leb, pow_pos, ltb-false, ltb-true, le-ltb, lt-ltb}
use lib.Signed.{le_z}
use Rattle.word.specs.Signed.{half, signed, word_of}

-- There are twice as many words as half of them.
pub two_halves : (w : ℕ) → 0 < w → 2 ^ w ≡ half w + half w
two_halves zero some = absurd (not-suc-le-zero some)
two_halves (suc w) some = rw (pow-suc 2 w, one_less w) (omega arith)
  where
    one_less : (w : ℕ) → suc w - 1 ≡ w
    one_less w = omega arith

-- d - n, for d below n: `negsuc k` is -(k + 1).
pub below_minus : (d n : ℕ) → d < n → pos d -ℤ pos n ≡ negsuc (n - suc d)
below_minus d zero h = absurd (not-suc-le-zero h)
below_minus d (suc n) h = rw (lt-ltb d (suc n) h)

pub signed_low : (w d : ℕ) → d < half w → signed w d ≡ pos d
signed_low w d low = rw (lt-ltb d (half w) low)

pub signed_high : (w d : ℕ) → half w ≤ d → d < 2 ^ w → signed w d ≡ negsuc (2 ^ w - suc d)
signed_high w d high fits = rw (le-ltb d (half w) high) (below_minus d (2 ^ w) fits)

-- What holds of the number in either half holds of the word read as a signed number.
pub by_halves : (w d : ℕ) (P : ℤ → Type 0) → d < 2 ^ w
    → (d < half w → P (pos d)) → (half w ≤ d → P (negsuc (2 ^ w - suc d))) → P (signed w d)
by_halves w d P fits lower upper = split (ltb d (half w)) refl
  where
    split : (b : Bool) → ltb d (half w) ≡ b → P (signed w d)
    split true e = rw (signed_low w d (ltb-true d (half w) e)) (lower (ltb-true d (half w) e))
    split false e = rw (signed_high w d (ltb-false d (half w) e) fits) (upper (ltb-false d (half w) e))

-- "a signed number from -2^63 to 2^63 - 1", whatever the word.
pub signed_range : (w d : ℕ) → 0 < w → d < 2 ^ w → (neg_ℤ (pos (half w)) ≤ℤ signed w d) × (signed w d ≤ℤ pos (half w - 1))
signed_range w d some fits = by_halves w d (λ z. (neg_ℤ (pos (half w)) ≤ℤ z) × (z ≤ℤ pos (half w - 1))) fits
    (λ low. (record { le = under (half w) }, record { le = le→leb d (half w - 1) (omega arith) }))
    (λ high. (record { le = over (half w) (pow_pos (w - 1)) (two_halves w some) high }, record { le = tt }))
  where
    under : (n : ℕ) → T (le_z (neg_ℤ (pos n)) (pos d))
    under zero = le→leb 0 d (omega arith)
    under (suc n) = tt

    over : (n : ℕ) → 0 < n → 2 ^ w ≡ n + n → n ≤ d → T (le_z (neg_ℤ (pos n)) (negsuc (2 ^ w - suc d)))
    over zero positive twice high = absurd (not-suc-le-zero positive)
    over (suc n) positive twice high = le→leb (2 ^ w - suc d) n (omega arith)

-- The word of the number that a word is read as is that word.
pub signed_word : (w d : ℕ) → d < 2 ^ w → word_of w (signed w d) ≡ d
signed_word w d fits = by_halves w d (λ z. word_of w z ≡ d) fits (λ low. refl) (λ high. omega arith)
