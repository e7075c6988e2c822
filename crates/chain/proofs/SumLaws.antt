-- Sum chains: the value after i shifts of a sum, a difference, a scaling, a product and a power, at every index.
-- Whole numbers, but for the difference and the reduction, which speak modulo 2^w.
use mathlib.Core.Path.{◌≡◌, refl, sym, ap, ap₂, ◌∙◌}
use mathlib.Core.List.{List, [], ◌∷◌, map}
use Prim.Native.Nat.{ℕ, zero, suc, ◌+◌, ◌-◌, ◌*◌, ◌%◌, ◌^◌}
use native.Mathlib.Nat.{add-zero, mul-zero, mul-add, mod-mod, pow-zero, pow-suc}
use native.Mathlib.Omega.{arith}
use Rattle.word.proofs.Modulo.{add_same}
use Rattle.chain.specs.Chain.{value, rest, shift, joined, words}
use Rattle.chain.specs.SumChain.{sum_at, sum_shift, sum, difference, scaled, times, product_by, product, power}
use Rattle.word.specs.Word as Word
use Rattle.word.proofs.Ring as Ring
use Rattle.chain.proofs.Values as Values

pub sum-now : (f : List ℕ) → sum_at f 0 ≡ value 0 f
sum-now f = Values.value-now ◌+◌ 0 add-zero f

pub sum-next : (f : List ℕ) (i : ℕ) → sum_at f (suc i) ≡ sum_at f i + sum_at (rest f) i
sum-next f i = Values.value-next ◌+◌ 0 add-zero f i

pub sum-shift : (f : List ℕ) (i : ℕ) → sum_at (sum_shift f) i ≡ sum_at f (suc i)
sum-shift f i = Values.value-shift ◌+◌ 0 add-zero f i

pub sum-none : (i : ℕ) → sum_at [] i ≡ 0
sum-none i = Values.value_none ◌+◌ 0 add-zero i

pub sum-constant : (a i : ℕ) → sum_at (a ∷ []) i ≡ a
sum-constant a i = Values.value-constant ◌+◌ 0 add-zero a i

-- ---- sum and scaling
pub value-sum : (f g : List ℕ) (i : ℕ) → sum_at (sum f g) i ≡ sum_at f i + sum_at g i
value-sum f g i = Values.value-joined ◌+◌ 0 add-zero swap f g i
  where
    swap : (a b c d : ℕ) → (a + b) + (c + d) ≡ (a + c) + (b + d)
    swap a b c d = omega arith

pub value-scaled : (c : ℕ) (f : List ℕ) (i : ℕ) → sum_at (scaled c f) i ≡ c * sum_at f i
value-scaled c f i = Values.value_mapped ◌+◌ ◌+◌ 0 0 add-zero add-zero (λ a. c * a) (mul-zero c) (mul-add c) f i

-- ---- reduction: "All values are words modulo 2^64"
pub value-words : (w : ℕ) (f : List ℕ) (i : ℕ) → sum_at (words w f) i % 2 ^ w ≡ sum_at f i % 2 ^ w
value-words w f i = Values.value_reduced ◌+◌ 0 add-zero (2 ^ w) (add_same (2 ^ w)) (λ a. mod-mod a (2 ^ w)) f i

-- ---- difference: elementwise it is the sum with the other chain scaled by 2^w - 1, modulo 2^w
pub minus_is : (w a b : ℕ) → Word.difference w a b ≡ (a + (2 ^ w - 1) * b) % 2 ^ w
minus_is w a b =
    Ring.difference-negation w a b
    ∙ ap (λ z. (a + z) % 2 ^ w) (Ring.negation-product w b)
    ∙ native.Mathlib.Nat.add-mod-mod a ((2 ^ w - 1) * b) (2 ^ w)

pub difference_as_sum : (w : ℕ) (f g : List ℕ) → difference w f g ≡ words w (sum f (scaled (2 ^ w - 1) g))
unfolding joined
difference_as_sum w [] g = filled g
  where
    filled : (g : List ℕ) → map (λ b. Word.difference w 0 b) g ≡ words w (map (λ b. 0 + b) (scaled (2 ^ w - 1) g))
    filled [] = refl
    filled (b ∷ g) = ap₂ {B = List ℕ} {C = List ℕ} ◌∷◌ (minus_is w 0 b) (filled g)
difference_as_sum w (a ∷ f) g =
    ap₂ {B = List ℕ} {C = List ℕ} ◌∷◌
    (minus_is w a (value 0 g) ∙ ap (λ z. (a + z) % 2 ^ w) (sym (Values.value-map (λ b. (2 ^ w - 1) * b) 0 0 (mul-zero (2 ^ w - 1)) g)))
    (difference_as_sum w f (rest g) ∙ ap (λ h. words w (sum f h)) (sym (Values.rest-map (λ b. (2 ^ w - 1) * b) g)))

pub value-difference : (w : ℕ) (f g : List ℕ) (i : ℕ) → sum_at (difference w f g) i % 2 ^ w ≡ Word.difference w (sum_at f i) (sum_at g i)
value-difference w f g i =
    ap (λ h. sum_at h i % 2 ^ w) (difference_as_sum w f g)
    ∙ value-words w (sum f (scaled (2 ^ w - 1) g)) i
    ∙ ap (λ z. z % 2 ^ w) (value-sum f (scaled (2 ^ w - 1) g) i ∙ ap (λ z. sum_at f i + z) (value-scaled (2 ^ w - 1) g i))
    ∙ sym (minus_is w (sum_at f i) (sum_at g i))

-- ---- product: "document 000's rule"
-- The rule itself, as 01 writes it.
pub product_rule : (a b : ℕ) (f g : List ℕ)
    → product (a ∷ f) (b ∷ g) ≡ (a * b) ∷ sum (product (a ∷ f) g) (product f (sum_shift (b ∷ g)))
unfolding product_by times
product_rule a b f g = refl

-- A product's first element, and one with no element, however the second chain is shifted.
module _ (step : List ℕ → List ℕ) where
  pub product_by_none : (f : List ℕ) → product_by step f [] ≡ []
  unfolding product_by times
  product_by_none [] = refl
  product_by_none (a ∷ f) = refl

  pub product_by_value : (f g : List ℕ) → value 0 (product_by step f g) ≡ value 0 f * value 0 g
  unfolding product_by times
  product_by_value [] g = omega arith
  product_by_value (a ∷ f) [] = omega arith
  product_by_value (a ∷ f) (b ∷ g) = refl

pub product-none : (f : List ℕ) → product f [] ≡ []
product-none f = product_by_none sum_shift f

pub product_value : (f g : List ℕ) → value 0 (product f g) ≡ value 0 f * value 0 g
product_value f g = product_by_value sum_shift f g

pub product-rest : (f g : List ℕ) (i : ℕ)
    → sum_at (rest (product f g)) i ≡ sum_at (product f (rest g)) i + sum_at (product (rest f) (sum_shift g)) i
unfolding product_by times shift
product-rest [] g i = rw (sum-none i)
product-rest (a ∷ f) [] i = rw (sum-none i, product-none f) (rw (sum-none i))
product-rest (a ∷ f) (b ∷ g) i = value-sum (product (a ∷ f) g) (product f (sum_shift (b ∷ g))) i

pub value-product : (f g : List ℕ) (i : ℕ) → sum_at (product f g) i ≡ sum_at f i * sum_at g i
value-product f g zero = sum-now (product f g) ∙ product_value f g ∙ sym (ap₂ ◌*◌ (sum-now f) (sum-now g))
value-product f g (suc i) =
    sum-next (product f g) i
    ∙ ap₂ ◌+◌ (value-product f g i)
    (product-rest f g i
    ∙ ap₂ ◌+◌ (value-product f (rest g) i)
    (value-product (rest f) (sum_shift g) i ∙ ap (λ z. sum_at (rest f) i * z) (sum-shift g i ∙ sum-next g i)))
    ∙ spread (sum_at f i) (sum_at g i) (sum_at (rest f) i) (sum_at (rest g) i)
    ∙ sym (ap₂ ◌*◌ (sum-next f i) (sum-next g i))
  where
    spread : (x y u v : ℕ) → x * y + (x * v + u * (y + v)) ≡ (x + u) * (y + v)
    spread x y u v = omega arith

pub value-power : (f : List ℕ) (n i : ℕ) → sum_at (power f n) i ≡ sum_at f i ^ n
unfolding power
value-power f zero i = sum-constant 1 i ∙ sym (pow-zero (sum_at f i))
value-power f (suc n) i =
    value-product (power f n) f i ∙ ap (λ z. z * sum_at f i) (value-power f n i) ∙ sym (pow-suc (sum_at f i) n)
