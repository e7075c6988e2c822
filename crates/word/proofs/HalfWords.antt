-- The product of two words from their half words: with H the number of half words, the product modulo H * H.
use Rattle.std.proofs.Common.{◌≡◌, ℕ, ◌+◌, ◌*◌, ◌/◌, ◌%◌, ◌<◌, sym, ap, ◌∙◌, lt_of_le_of_lt, le_of_lt, mul-le-mul_left, mul-lt-mul_of_pos_right, div-add-mod', arith}
use native.Mathlib.Nat.{mod-add-mod, add-mod-mod, mul-add-mod_self_right}

pub halves_fit : (H : ℕ) {a b : ℕ} → 0 < H → a < H → b < H → a * b < H * H
halves_fit H {a} {b} pos p q = lt_of_le_of_lt (mul-le-mul_left a (le_of_lt q)) (mul-lt-mul_of_pos_right p pos)

-- A half word in the upper half: what lies above it falls out.
upper : (H x r : ℕ) → (x % H * H + r) % (H * H) ≡ (x * H + r) % (H * H)
upper H x r =
    sym
    (ap (λ z. (z * H + r) % (H * H)) (sym (div-add-mod' x H))
    ∙ ap (λ z. z % (H * H)) (omega arith)
    ∙ mul-add-mod_self_right (x / H) (H * H) (x % H * H + r))

pub from_halves : (H a b : ℕ)
    → ((a % H * (b / H) % H + a / H * (b % H) % H) % H * H + a % H * (b % H)) % (H * H) ≡ (a * b) % (H * H)
from_halves H a b =
    ap (λ z. (z * H + a % H * (b % H)) % (H * H))
    (mod-add-mod (a % H * (b / H)) H (a / H * (b % H) % H) ∙ add-mod-mod (a % H * (b / H)) (a / H * (b % H)) H)
    ∙ upper H (a % H * (b / H) + a / H * (b % H)) (a % H * (b % H))
    ∙ sym
    (ap (λ z. (z * b) % (H * H)) (sym (div-add-mod' a H))
    ∙ ap (λ z. ((a / H * H + a % H) * z) % (H * H)) (sym (div-add-mod' b H))
    ∙ ap (λ z. z % (H * H)) (omega arith)
    ∙ mul-add-mod_self_right (a / H * (b / H)) (H * H) ((a % H * (b / H) + a / H * (b % H)) * H + a % H * (b % H)))
