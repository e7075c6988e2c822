-- Product chains: value, shift, product, power, trimming, and a constant raised to a sum chain.
-- Two different product chains may agree at every index, so there is no canonical form here.
use Rattle.std.specs.Prelude.{cond, List, [], ◌∷◌, map, ℕ, ◌*◌, ◌^◌, eqb}
use Rattle.chain.specs.Chain as Chain

-- The value of a product chain after i shifts.
abbrev pub product_at : List ℕ → ℕ → ℕ
product_at f i = Chain.value_at ◌*◌ 1 f i

abbrev pub product_shift : List ℕ → List ℕ
product_shift f = Chain.shift ◌*◌ f

-- "P*P: element by element, filled with ones."
abbrev pub joint_product : List ℕ → List ℕ → List ℕ
joint_product f g = Chain.joined ◌*◌ 1 f g

-- "C*P and P*C: f0 only."
abbrev pub scaled_first : ℕ → List ℕ → List ℕ
scaled_first c f = (c * Chain.value 1 f) ∷ Chain.rest f

-- "P^n: every element to the n."
abbrev pub power_of_each : List ℕ → ℕ → List ℕ
power_of_each f n = map (λ a. a ^ n) f

-- "C by S becomes a product chain with elements C^fj."
abbrev pub raised : ℕ → List ℕ → List ℕ
raised c f = map (λ a. c ^ a) f

-- "A product chain with f0 = 0 is the constant 0"; otherwise trailing ones are dropped.
abbrev pub trimmed_product : List ℕ → List ℕ
trimmed_product f = cond (eqb (Chain.value 1 f) 0) (0 ∷ []) (Chain.trimmed 1 f)
