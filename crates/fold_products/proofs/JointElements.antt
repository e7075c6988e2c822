-- Product chains element by element: ones past the length change nothing.
use mathlib.Core.Path.{◌≡◌, refl, sym, ap, ap₂, ◌∙◌}
use mathlib.Core.List.{List, [], ◌∷◌, map}
use Prim.Native.Nat.{ℕ, zero, suc, ◌*◌, ◌≤◌}
use native.Mathlib.Nat.{one-mul, mul-one, mul_comm}
use lib.ListN.{length}
use Rattle.chain.specs.Chain.{value, rest, joined, words}
use Rattle.chain.specs.ProductChain.{joint_product, scaled_first, trimmed_product}
use Rattle.chain.proofs.Values.{rest-map}
use Rattle.chain.proofs.Calls.{length-joined}
use Rattle.fold_rows.specs.Standing.{filled_with_ones}
use Rattle.fold_operands.proofs.OnesTrimmed.{words-trimmed}

-- ---- filled with ones
joint_value : (f g : List ℕ) → value 1 (joint_product f g) ≡ value 1 f * value 1 g
unfolding joined
joint_value [] [] = refl
joint_value [] (b ∷ g) = refl
joint_value (a ∷ f) g = refl

joint_rest : (f g : List ℕ) → rest (joint_product f g) ≡ joint_product (rest f) (rest g)
unfolding joined
joint_rest [] g = rest-map (λ b. 1 * b) g
joint_rest (a ∷ f) g = refl

filled_joint : (n : ℕ) (f g : List ℕ) → joint_product (filled_with_ones n f) (filled_with_ones n g) ≡ filled_with_ones n (joint_product f g)
unfolding joined filled_with_ones
filled_joint zero f g = refl
filled_joint (suc n) f g =
    ap₂ {B = List ℕ} {C = List ℕ} ◌∷◌ (sym (joint_value f g)) (filled_joint n (rest f) (rest g) ∙ ap (filled_with_ones n) (sym (joint_rest f g)))

-- Chains filled with ones have the same product, trimmed.
pub filled-product : (f g : List ℕ) → length f ≤ 17 → length g ≤ 17
    → trimmed_product (words 64 (joint_product (filled_with_ones 17 f) (filled_with_ones 17 g))) ≡ trimmed_product (words 64 (joint_product f g))
filled-product f g p q = words-trimmed (joint_product f g) (length-joined ◌*◌ 1 17 f g p q) (filled_joint 17 f g)

-- ---- "C*P and P*C: f0 only": a constant is a product chain of one element
times_one : (f : List ℕ) → map (λ b. 1 * b) f ≡ f
times_one [] = refl
times_one (b ∷ f) = ap₂ {B = List ℕ} {C = List ℕ} ◌∷◌ (one-mul b) (times_one f)

joint_none : (f : List ℕ) → joint_product f [] ≡ f
unfolding joined
joint_none [] = refl
joint_none (a ∷ f) = ap₂ {B = List ℕ} {C = List ℕ} ◌∷◌ (mul-one a) (joint_none f)

pub constant_joint : (c : ℕ) (f : List ℕ) → scaled_first c f ≡ joint_product (c ∷ []) f
unfolding joined
constant_joint c f = ap {B = List ℕ} (λ g. (c * value 1 f) ∷ g) (sym (times_one (rest f)))

pub joint_constant : (c : ℕ) (f : List ℕ) → scaled_first c f ≡ joint_product f (c ∷ [])
unfolding joined
joint_constant c [] = ap {B = List ℕ} (λ z. z ∷ []) (mul_comm c 1)
joint_constant c (a ∷ f) = ap₂ {B = List ℕ} {C = List ℕ} ◌∷◌ (mul_comm c a) (sym (joint_none f))
