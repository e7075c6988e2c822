-- One turn of the power by squaring: what is left to multiply stays the same, for every modulus m.
use Rattle.std.proofs.Common.{◌≡◌, ℕ, ◌+◌, ◌*◌, ◌/◌, ◌%◌, ◌^◌, sym, refl, ap, ◌∙◌, pow-suc, add-one, arith, pow-add}
use Rattle.word.proofs.Modulo.{mod-mul-mod, pow-mod, mul_same}
use Rattle.word.proofs.Ring.{pow_of_mul}

double : (s k : ℕ) → (s * s) ^ k ≡ s ^ (k + k)
double s k = pow_of_mul s s k ∙ sym (pow-add s k k)

-- the square taken half as often, modulo m
halved : (m s l : ℕ) → ((s * s) % m) ^ (l / 2) % m ≡ s ^ (l / 2 + l / 2) % m
halved m s l = pow-mod (s * s) (l / 2) m ∙ ap (λ z. z % m) (double s (l / 2))

-- A turn takes the product r, the square s and the exponent l to p, q and l / 2.
pub turn_even : (m r s l : ℕ) {q : ℕ} → (l % 2 ≡ 1 → ⊥) → q ≡ (s * s) % m → (r * q ^ (l / 2)) % m ≡ (r * s ^ l) % m
turn_even m r s l even squared =
    rw squared
    (mul_same m r r (((s * s) % m) ^ (l / 2)) (s ^ (l / 2 + l / 2)) refl (halved m s l)
    ∙ ap (λ z. (r * s ^ z) % m) (omega arith))

pub turn_odd : (m r s l : ℕ) {p q : ℕ} → l % 2 ≡ 1 → p ≡ (r * s) % m → q ≡ (s * s) % m → (p * q ^ (l / 2)) % m ≡ (r * s ^ l) % m
turn_odd m r s l odd taken squared =
    rw (taken, squared)
    (mod-mul-mod (r * s) (((s * s) % m) ^ (l / 2)) m
    ∙ mul_same m (r * s) (r * s) (((s * s) % m) ^ (l / 2)) (s ^ (l / 2 + l / 2)) refl (halved m s l)
    ∙ ap (λ z. z % m) (regroup (s ^ (l / 2 + l / 2)) ∙ ap (λ z. r * z) (sym one_factor)))
  where
    regroup : (p : ℕ) → r * s * p ≡ r * (p * s)
    regroup p = omega arith

    one_factor : s ^ l ≡ s ^ (l / 2 + l / 2) * s
    one_factor = ap (λ z. s ^ z) (omega arith ∙ add-one (l / 2 + l / 2)) ∙ pow-suc s (l / 2 + l / 2)
