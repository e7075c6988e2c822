-- The ring laws of words, over the width w: sum, difference, negation, product and power as specs/Word.antt defines them.
-- The odd bases, whose exponents may be reduced too, are in OddBase.antt.
use Rattle.std.proofs.Common.{◌≡◌, ℕ, zero, suc, ◌+◌, ◌-◌, ◌*◌, ◌%◌, ◌^◌, ◌<◌, sym, ap, ◌∙◌, mod-lt, mod-eq_of_lt, pow-suc, mul-zero, mul-suc, arith, pow_pos, pow-add}
use native.Mathlib.Nat.{mod-mod, mod-add-mod, add-mod-mod, zero-mod, pow-zero}
use Rattle.word.specs.Word.{word, sum, difference, negation, product, power}
use Rattle.word.proofs.Modulo.{mod-mul-mod, mul-mod-mod, pow-mod, undone, cancel, opposite_scales}

pub word_fits : (w a : ℕ) → word w a < 2 ^ w
word_fits w a = mod-lt a (pow_pos w)

pub word_of_word : (w a : ℕ) → a < 2 ^ w → word w a ≡ a
word_of_word w a h = mod-eq_of_lt h

-- ---- sums
pub sum_comm : (w a b : ℕ) → sum w a b ≡ sum w b a
sum_comm w a b = ap (λ z. z % 2 ^ w) (omega arith)

pub sum_assoc : (w a b c : ℕ) → sum w (sum w a b) c ≡ sum w a (sum w b c)
sum_assoc w a b c = rw (mod-add-mod, add-mod-mod) (ap (λ z. z % 2 ^ w) (omega arith))

pub sum-zero : (w a : ℕ) → sum w a 0 ≡ word w a
sum-zero w a = ap (λ z. z % 2 ^ w) (omega arith)

-- ---- cancellation, and differences: a - b is the one word that b added to gives a
pub sum_cancel : (w a b c : ℕ) → sum w a c ≡ sum w b c → word w a ≡ word w b
sum_cancel w a b c e = cancel (2 ^ w) a b c (pow_pos w) e

pub difference-sum : (w a b : ℕ) → sum w (difference w a b) b ≡ word w a
difference-sum w a b = mod-add-mod (a + (2 ^ w - b % 2 ^ w)) (2 ^ w) b ∙ undone (2 ^ w) a b (pow_pos w)

pub difference-unique : (w a b r : ℕ) → r < 2 ^ w → sum w r b ≡ word w a → r ≡ difference w a b
difference-unique w a b r h e =
    sym (word_of_word w r h)
    ∙ sum_cancel w r (difference w a b) b (e ∙ sym (difference-sum w a b))
    ∙ mod-mod (a + (2 ^ w - b % 2 ^ w)) (2 ^ w)

-- What the supplied wrapping difference promises of its result makes it this one.
pub difference-found : (w a b r : ℕ) → r < 2 ^ w → a < 2 ^ w → sum w r b ≡ a → r ≡ difference w a b
difference-found w a b r h fits e = difference-unique w a b r h (e ∙ sym (word_of_word w a fits))

pub difference-negation : (w a b : ℕ) → difference w a b ≡ sum w a (negation w b)
difference-negation w a b = sym (add-mod-mod a (0 + (2 ^ w - b % 2 ^ w)) (2 ^ w) ∙ ap (λ z. (a + z) % 2 ^ w) (omega arith))

pub negation-sum : (w a : ℕ) → sum w (negation w a) a ≡ 0
negation-sum w a = difference-sum w 0 a ∙ zero-mod (2 ^ w)

-- Minus is the product by 2^w - 1.
pub negation-product : (w a : ℕ) → negation w a ≡ product w (2 ^ w - 1) a
negation-product w a = ap (λ z. z % 2 ^ w) (omega arith) ∙ opposite_scales (2 ^ w) a (pow_pos w)

-- ---- products
pub product_comm : (w a b : ℕ) → product w a b ≡ product w b a
product_comm w a b = ap (λ z. z % 2 ^ w) (omega arith)

pub product_assoc : (w a b c : ℕ) → product w (product w a b) c ≡ product w a (product w b c)
product_assoc w a b c = rw (mod-mul-mod, mul-mod-mod) (ap (λ z. z % 2 ^ w) (omega arith))

pub product_one : (w a : ℕ) → product w a 1 ≡ word w a
product_one w a = ap (λ z. z % 2 ^ w) (omega arith)

pub product-zero : (w a : ℕ) → product w a 0 ≡ 0
product-zero w a = ap (λ z. z % 2 ^ w) (omega arith) ∙ zero-mod (2 ^ w)

pub product-sum : (w a b c : ℕ) → product w a (sum w b c) ≡ sum w (product w a b) (product w a c)
product-sum w a b c = rw (mul-mod-mod, mod-add-mod, add-mod-mod) (ap (λ z. z % 2 ^ w) (omega arith))

-- ---- powers
pub power_zero : (w b : ℕ) → power w b 0 ≡ word w 1
power_zero w b = ap (λ z. z % 2 ^ w) (pow-zero b)

pub power-next : (w b n : ℕ) → power w b (suc n) ≡ product w (power w b n) b
power-next w b n = ap (λ z. z % 2 ^ w) (pow-suc b n) ∙ sym (mod-mul-mod (b ^ n) b (2 ^ w))

pub power-sum : (w b n k : ℕ) → power w b (n + k) ≡ product w (power w b n) (power w b k)
power-sum w b n k = rw (mod-mul-mod, mul-mod-mod) (ap (λ z. z % 2 ^ w) (pow-add b n k))

-- the power of a product, and of a power, as whole numbers
pub pow_of_mul : (a b n : ℕ) → (a * b) ^ n ≡ a ^ n * b ^ n
pow_of_mul a b zero = rw (pow-zero (a * b), pow-zero a, pow-zero b)
pow_of_mul a b (suc n) = rw (pow-suc (a * b) n, pow-suc a n, pow-suc b n, pow_of_mul a b n) (omega arith)

pub pow_of_pow : (b n k : ℕ) → (b ^ n) ^ k ≡ b ^ (n * k)
pow_of_pow b n zero = rw (pow-zero (b ^ n), mul-zero n, pow-zero b)
pow_of_pow b n (suc k) = rw (pow-suc (b ^ n) k, mul-suc n k, pow-add b (n * k) n, pow_of_pow b n k)

pub power-product : (w a b n : ℕ) → power w (product w a b) n ≡ product w (power w a n) (power w b n)
power-product w a b n = rw (pow-mod, mod-mul-mod, mul-mod-mod) (ap (λ z. z % 2 ^ w) (pow_of_mul a b n))

pub power-power : (w b n k : ℕ) → power w (power w b n) k ≡ power w b (n * k)
power-power w b n k = rw pow-mod (ap (λ z. z % 2 ^ w) (pow_of_pow b n k))
