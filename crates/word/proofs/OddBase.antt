-- The odd_base fact: the powers of an odd base repeat with a period that divides 2^w, so the exponent may be taken modulo 2^w.
-- Even bases have no such law: 2 to the word 0 is 1, but 2 to the 2^64 is 0 modulo 2^64.
use Rattle.std.proofs.Common.{◌≡◌, ℕ, zero, suc, ◌+◌, ◌*◌, ◌/◌, ◌%◌, ◌^◌, sym, ap, ◌∙◌, mul_comm, pow-suc, div-add-mod', arith, pow-add}
use native.Mathlib.Nat.{add-mul-mod_self_right, pow-zero}
use Rattle.word.specs.Word.{word, power}
use Rattle.word.proofs.Modulo.{mod-mul-mod, pow_same}
use Rattle.word.proofs.Ring.{pow_of_pow}

-- b to the 2^w is one more than a multiple of 2^(w+1)
one_more : (b : ℕ) → b % 2 ≡ 1 → (w : ℕ) → (c : ℕ) × (b ^ (2 ^ w) ≡ 1 + c * (2 * 2 ^ w))
one_more b odd zero = (b / 2, rw (pow-suc b 0, pow-zero b) (omega arith))
one_more b odd (suc w) = next (one_more b odd w)
  where
    squared : (m c : ℕ) → (1 + c * (2 * m)) * (1 + c * (2 * m)) ≡ 1 + (c + c * c * m) * (2 * (m * 2))
    squared m c = omega arith

    doubled : b ^ (2 ^ suc w) ≡ b ^ (2 ^ w) * b ^ (2 ^ w)
    doubled = ap (λ z. b ^ z) (pow-suc 2 w ∙ omega arith) ∙ pow-add b (2 ^ w) (2 ^ w)

    next : (c : ℕ) × (b ^ (2 ^ w) ≡ 1 + c * (2 * 2 ^ w)) → (c : ℕ) × (b ^ (2 ^ suc w) ≡ 1 + c * (2 * 2 ^ suc w))
    next p = (p.0 + p.0 * p.0 * 2 ^ w, doubled ∙ rw (p.1, pow-suc 2 w) (squared (2 ^ w) p.0))

pub one_pow : (n : ℕ) → 1 ^ n ≡ 1
one_pow zero = pow-zero 1
one_pow (suc n) = rw (pow-suc 1 n, one_pow n)

period : (w b : ℕ) → b % 2 ≡ 1 → b ^ (2 ^ w) % 2 ^ w ≡ 1 % 2 ^ w
period w b odd = go (one_more b odd w)
  where
    go : (c : ℕ) × (b ^ (2 ^ w) ≡ 1 + c * (2 * 2 ^ w)) → b ^ (2 ^ w) % 2 ^ w ≡ 1 % 2 ^ w
    go p = ap (λ z. z % 2 ^ w) (p.1 ∙ omega arith) ∙ add-mul-mod_self_right 1 (p.0 * 2) (2 ^ w)

-- "Odd bases make this agree with modular exponents, since their powers repeat with a period that divides 2^62".
pub odd_base : (w b n : ℕ) → b % 2 ≡ 1 → power w b (word w n) ≡ power w b n
odd_base w b n odd =
    sym
    (ap (λ z. b ^ z % m) (sym (div-add-mod' n m) ∙ ap (λ z. z + n % m) (mul_comm (n / m) m))
    ∙ ap (λ z. z % m) (pow-add b (m * (n / m)) (n % m) ∙ ap (λ z. z * b ^ (n % m)) (sym (pow_of_pow b m (n / m))))
    ∙ sym (mod-mul-mod ((b ^ m) ^ (n / m)) (b ^ (n % m)) m)
    ∙ ap (λ z. (z * b ^ (n % m)) % m) (pow_same m (b ^ m) 1 (n / m) (period w b odd) ∙ ap (λ z. z % m) (one_pow (n / m)))
    ∙ mod-mul-mod 1 (b ^ (n % m)) m
    ∙ ap (λ z. z % m) (omega arith))
  where
    m : ℕ
    m = 2 ^ w
