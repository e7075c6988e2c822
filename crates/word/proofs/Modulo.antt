-- Remainders under sums, products and powers, for every modulus m: the laws that the ring of words rests on.
-- `outward` is the list for `simp`: it takes an inner remainder off wherever an outer one stands.
use Rattle.std.proofs.Common.{◌≡◌, ℕ, zero, suc, ◌+◌, ◌-◌, ◌*◌, ◌/◌, ◌%◌, ◌^◌, ◌<◌, sym, ap, ◌∙◌, not-suc-le-zero, mod-lt, mul_comm, pow-suc, div-add-mod', arith}
use native.Mathlib.Nat.{mod-mod, mod-add-mod, add-mod-mod, add-mod_right, mul-add-mod_self_right, mul-mod_left, zero-mod, pow-zero}

pub mod-mul-mod : (a b m : ℕ) → (a % m * b) % m ≡ (a * b) % m
mod-mul-mod a b m =
    sym (mul-add-mod_self_right (a / m * b) m (a % m * b))
    ∙ ap (λ z. z % m) (regroup ∙ ap (λ z. z * b) (div-add-mod' a m))
  where
    regroup : a / m * b * m + a % m * b ≡ (a / m * m + a % m) * b
    regroup = omega arith

pub mul-mod-mod : (a b m : ℕ) → (a * (b % m)) % m ≡ (a * b) % m
mul-mod-mod a b m = rw (mul_comm a (b % m), mul_comm a b) (mod-mul-mod b a m)

pub pow-mod : (b n m : ℕ) → (b % m) ^ n % m ≡ b ^ n % m
pow-mod b zero m = rw (pow-zero (b % m), pow-zero b)
pow-mod b (suc n) m =
    rw (pow-suc (b % m) n, pow-suc b n)
    (sym (mod-mul-mod ((b % m) ^ n) (b % m) m)
    ∙ ap (λ z. (z * (b % m)) % m) (pow-mod b n m)
    ∙ mod-mul-mod (b ^ n) (b % m) m
    ∙ mul-mod-mod (b ^ n) b m)

pub ruleset outward = (mod-mod, mod-add-mod, add-mod-mod, mod-mul-mod, mul-mod-mod, pow-mod)

-- What stands in a remainder may be put for what leaves the same remainder.
pub add_same : (m a b c d : ℕ) → a % m ≡ b % m → c % m ≡ d % m → (a + c) % m ≡ (b + d) % m
add_same m a b c d p q =
    sym (mod-add-mod a m c) ∙ ap (λ z. (z + c) % m) p ∙ mod-add-mod b m c
    ∙ sym (add-mod-mod b c m) ∙ ap (λ z. (b + z) % m) q ∙ add-mod-mod b d m

pub mul_same : (m a b c d : ℕ) → a % m ≡ b % m → c % m ≡ d % m → (a * c) % m ≡ (b * d) % m
mul_same m a b c d p q =
    sym (mod-mul-mod a c m) ∙ ap (λ z. (z * c) % m) p ∙ mod-mul-mod b c m
    ∙ sym (mul-mod-mod b c m) ∙ ap (λ z. (b * z) % m) q ∙ mul-mod-mod b d m

pub pow_same : (m a b n : ℕ) → a % m ≡ b % m → a ^ n % m ≡ b ^ n % m
pow_same m a b n p = sym (pow-mod a n m) ∙ ap (λ z. z ^ n % m) p ∙ pow-mod b n m

-- The distance from c to the next multiple of m undoes c.
pub undone : (m a c : ℕ) → 0 < m → (a + (m - c % m) + c) % m ≡ a % m
undone m a c pos =
    sym (add-mod-mod (a + (m - c % m)) c m)
    ∙ ap (λ z. z % m) (meet (c % m) (mod-lt c pos))
    ∙ add-mod_right a m
  where
    meet : (r : ℕ) → r < m → a + (m - r) + r ≡ a + m
    meet r h = omega arith

-- Cancellation.
pub cancel : (m a b c : ℕ) → 0 < m → (a + c) % m ≡ (b + c) % m → a % m ≡ b % m
cancel m a b c pos e = sym (back a) ∙ ap (λ z. (z + (m - c % m)) % m) e ∙ back b
  where
    back : (x : ℕ) → ((x + c) % m + (m - c % m)) % m ≡ x % m
    back x = mod-add-mod (x + c) m (m - c % m) ∙ ap (λ z. z % m) (omega arith) ∙ undone m x c pos

-- That distance is c taken m - 1 times: minus is a scaling.
pub opposite_scales : (m c : ℕ) → 0 < m → (m - c % m) % m ≡ ((m - 1) * c) % m
opposite_scales m c pos = cancel m (m - c % m) ((m - 1) * c) c pos (meets ∙ sym (mul-mod_left c m) ∙ ap (λ z. z % m) (whole m pos))
  where
    meets : (m - c % m + c) % m ≡ 0
    meets = ap (λ z. z % m) (omega arith) ∙ undone m 0 c pos ∙ zero-mod m

    whole : (n : ℕ) → 0 < n → c * n ≡ (n - 1) * c + c
    whole zero h = absurd (not-suc-le-zero h)
    whole (suc k) h = rw (suc-sub_one k) (omega arith)
      where
        suc-sub_one : (k : ℕ) → suc k - 1 ≡ k
        suc-sub_one k = omega arith
