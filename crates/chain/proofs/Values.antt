-- The value of a chain after i shifts, for any operation with a unit: what a map, a join and a first element do to it.
-- Sum chains and product chains cite these laws at + and 0, * and 1.
use mathlib.Core.Path.{◌≡◌, refl, sym, ap, ap₂, ◌∙◌}
use mathlib.Core.List.{List, [], ◌∷◌, map}
use Prim.Native.Nat.{ℕ, zero, suc, ◌%◌}
use Rattle.chain.specs.Chain.{value, rest, shift, meeting, shift_from_top, shifted, value_at, joined}

pub rest-map : (h : ℕ → ℕ) (f : List ℕ) → rest (map h f) ≡ map h (rest f)
rest-map h [] = refl
rest-map h (a ∷ f) = refl

pub value-map : (h : ℕ → ℕ) (unit there : ℕ) → h unit ≡ there → (f : List ℕ) → value there (map h f) ≡ h (value unit f)
value-map h unit there e [] = sym e
value-map h unit there e (a ∷ f) = refl

pub shift_rest : (◌⊙◌ : ℕ → ℕ → ℕ) (f : List ℕ) → rest (shift ◌⊙◌ f) ≡ shift ◌⊙◌ (rest f)
unfolding shift
shift_rest ◌⊙◌ [] = refl
shift_rest ◌⊙◌ (a ∷ []) = refl
shift_rest ◌⊙◌ (a ∷ b ∷ f) = refl

pub from_top_rest : (◌⊙◌ : ℕ → ℕ → ℕ) (f : List ℕ) → rest (shift_from_top ◌⊙◌ f) ≡ shift_from_top ◌⊙◌ (rest f)
unfolding shift_from_top meeting
from_top_rest ◌⊙◌ [] = refl
from_top_rest ◌⊙◌ (a ∷ f) = go (shift_from_top ◌⊙◌ f)
  where
    go : (g : List ℕ) → rest (meeting ◌⊙◌ a g) ≡ g
    go [] = refl
    go (b ∷ g) = refl

module _ (◌⊙◌ : ℕ → ℕ → ℕ) (unit : ℕ) (right-unit : (a : ℕ) → ◌⊙◌ a unit ≡ a) where
  pub shift-value : (f : List ℕ) → value unit (shift ◌⊙◌ f) ≡ ◌⊙◌ (value unit f) (value unit (rest f))
  unfolding shift
  shift-value [] = sym (right-unit unit)
  shift-value (a ∷ []) = sym (right-unit a)
  shift-value (a ∷ b ∷ f) = refl

  pub value-now : (f : List ℕ) → value_at ◌⊙◌ unit f 0 ≡ value unit f
  unfolding value_at shifted
  value-now f = refl

  pub value-shift : (f : List ℕ) (i : ℕ) → value_at ◌⊙◌ unit (shift ◌⊙◌ f) i ≡ value_at ◌⊙◌ unit f (suc i)
  unfolding value_at shifted
  value-shift f i = refl

  -- The step law, which carries every other one: the value at i + 1 is the value at i, ⊙ the rest's value at i.
  pub value-next : (f : List ℕ) (i : ℕ) → value_at ◌⊙◌ unit f (suc i) ≡ ◌⊙◌ (value_at ◌⊙◌ unit f i) (value_at ◌⊙◌ unit (rest f) i)
  unfolding value_at shifted
  value-next f zero = shift-value f
  value-next f (suc i) = value-next (shift ◌⊙◌ f) i ∙ ap (λ g. ◌⊙◌ (value_at ◌⊙◌ unit (shift ◌⊙◌ f) i) (value_at ◌⊙◌ unit g i)) (shift_rest ◌⊙◌ f)

  -- A chain with no element, and one with a single element, keep their value.
  pub value_none : (i : ℕ) → value_at ◌⊙◌ unit [] i ≡ unit
  value_none zero = value-now []
  value_none (suc i) = value-next [] i ∙ ap₂ ◌⊙◌ (value_none i) (value_none i) ∙ right-unit unit

  pub value-constant : (a i : ℕ) → value_at ◌⊙◌ unit (a ∷ []) i ≡ a
  value-constant a zero = value-now (a ∷ [])
  value-constant a (suc i) = value-next (a ∷ []) i ∙ ap₂ ◌⊙◌ (value-constant a i) (value_none i) ∙ right-unit a

  -- Chains with the same first element and rests of the same values have the same values.
  pub value-cons : (a : ℕ) (f g : List ℕ) → ((i : ℕ) → value_at ◌⊙◌ unit f i ≡ value_at ◌⊙◌ unit g i)
      → (i : ℕ) → value_at ◌⊙◌ unit (a ∷ f) i ≡ value_at ◌⊙◌ unit (a ∷ g) i
  value-cons a f g same zero = value-now (a ∷ f) ∙ sym (value-now (a ∷ g))
  value-cons a f g same (suc i) =
      value-next (a ∷ f) i ∙ ap₂ ◌⊙◌ (value-cons a f g same i) (same i) ∙ sym (value-next (a ∷ g) i)

  -- ⊙ on the first element alone is ⊙ on the value.
  pub value-first : ((a b c : ℕ) → ◌⊙◌ (◌⊙◌ a b) c ≡ ◌⊙◌ a (◌⊙◌ b c)) → (c : ℕ) (f : List ℕ) (i : ℕ)
      → value_at ◌⊙◌ unit (◌⊙◌ c (value unit f) ∷ rest f) i ≡ ◌⊙◌ c (value_at ◌⊙◌ unit f i)
  value-first assoc c f zero = value-now (◌⊙◌ c (value unit f) ∷ rest f) ∙ ap (λ z. ◌⊙◌ c z) (sym (value-now f))
  value-first assoc c f (suc i) =
      value-next (◌⊙◌ c (value unit f) ∷ rest f) i
      ∙ ap (λ z. ◌⊙◌ z (value_at ◌⊙◌ unit (rest f) i)) (value-first assoc c f i)
      ∙ assoc c (value_at ◌⊙◌ unit f i) (value_at ◌⊙◌ unit (rest f) i)
      ∙ ap (λ z. ◌⊙◌ c z) (sym (value-next f i))

  -- The join of two chains: ⊙ of the values.
  pub joined-value : (f g : List ℕ) → value unit (joined ◌⊙◌ unit f g) ≡ ◌⊙◌ (value unit f) (value unit g)
  unfolding joined
  joined-value [] [] = sym (right-unit unit)
  joined-value [] (b ∷ g) = refl
  joined-value (a ∷ f) g = refl

  pub joined-rest : (f g : List ℕ) → rest (joined ◌⊙◌ unit f g) ≡ joined ◌⊙◌ unit (rest f) (rest g)
  unfolding joined
  joined-rest [] g = rest-map (λ b. ◌⊙◌ unit b) g
  joined-rest (a ∷ f) g = refl

  pub value-joined : ((a b c d : ℕ) → ◌⊙◌ (◌⊙◌ a b) (◌⊙◌ c d) ≡ ◌⊙◌ (◌⊙◌ a c) (◌⊙◌ b d)) → (f g : List ℕ) (i : ℕ)
      → value_at ◌⊙◌ unit (joined ◌⊙◌ unit f g) i ≡ ◌⊙◌ (value_at ◌⊙◌ unit f i) (value_at ◌⊙◌ unit g i)
  value-joined swap f g zero =
      value-now (joined ◌⊙◌ unit f g) ∙ joined-value f g ∙ ap₂ ◌⊙◌ (sym (value-now f)) (sym (value-now g))
  value-joined swap f g (suc i) =
      value-next (joined ◌⊙◌ unit f g) i
      ∙ ap₂ ◌⊙◌ (value-joined swap f g i) (ap (λ h. value_at ◌⊙◌ unit h i) (joined-rest f g) ∙ value-joined swap (rest f) (rest g) i)
      ∙ swap (value_at ◌⊙◌ unit f i) (value_at ◌⊙◌ unit g i) (value_at ◌⊙◌ unit (rest f) i) (value_at ◌⊙◌ unit (rest g) i)
      ∙ ap₂ ◌⊙◌ (sym (value-next f i)) (sym (value-next g i))

  -- Elements taken modulo m: the value modulo m stays.
  pub value_reduced : (m : ℕ) → ((a b c d : ℕ) → a % m ≡ b % m → c % m ≡ d % m → ◌⊙◌ a c % m ≡ ◌⊙◌ b d % m)
      → ((a : ℕ) → a % m % m ≡ a % m) → (f : List ℕ) (i : ℕ)
      → value_at ◌⊙◌ unit (map (λ a. a % m) f) i % m ≡ value_at ◌⊙◌ unit f i % m
  value_reduced m same twice f zero =
      ap (λ z. z % m) (value-now (map (λ a. a % m) f)) ∙ go f ∙ ap (λ z. z % m) (sym (value-now f))
    where
      go : (f : List ℕ) → value unit (map (λ a. a % m) f) % m ≡ value unit f % m
      go [] = refl
      go (a ∷ f) = twice a
  value_reduced m same twice f (suc i) =
      ap (λ z. z % m) (value-next (map (λ a. a % m) f) i)
      ∙ same
      (value_at ◌⊙◌ unit (map (λ a. a % m) f) i) (value_at ◌⊙◌ unit f i)
      (value_at ◌⊙◌ unit (rest (map (λ a. a % m) f)) i) (value_at ◌⊙◌ unit (rest f) i)
      (value_reduced m same twice f i)
      (ap (λ h. value_at ◌⊙◌ unit h i % m) (rest-map (λ a. a % m) f) ∙ value_reduced m same twice (rest f) i)
      ∙ ap (λ z. z % m) (sym (value-next f i))

-- A map that takes ⊙ to ⊛ and the unit to the unit takes the value to the value.
pub value_mapped : (◌⊙◌ ◌⊛◌ : ℕ → ℕ → ℕ) (unit there : ℕ) → ((a : ℕ) → ◌⊙◌ a unit ≡ a) → ((a : ℕ) → ◌⊛◌ a there ≡ a)
    → (h : ℕ → ℕ) → h unit ≡ there → ((a b : ℕ) → h (◌⊙◌ a b) ≡ ◌⊛◌ (h a) (h b))
    → (f : List ℕ) (i : ℕ) → value_at ◌⊛◌ there (map h f) i ≡ h (value_at ◌⊙◌ unit f i)
value_mapped ◌⊙◌ ◌⊛◌ unit there left right h e hom f zero =
    value-now ◌⊛◌ there right (map h f) ∙ value-map h unit there e f ∙ ap h (sym (value-now ◌⊙◌ unit left f))
value_mapped ◌⊙◌ ◌⊛◌ unit there left right h e hom f (suc i) =
    value-next ◌⊛◌ there right (map h f) i
    ∙ ap₂ ◌⊛◌
    (value_mapped ◌⊙◌ ◌⊛◌ unit there left right h e hom f i)
    (ap (λ g. value_at ◌⊛◌ there g i) (rest-map h f) ∙ value_mapped ◌⊙◌ ◌⊛◌ unit there left right h e hom (rest f) i)
    ∙ sym (hom (value_at ◌⊙◌ unit f i) (value_at ◌⊙◌ unit (rest f) i))
    ∙ ap h (sym (value-next ◌⊙◌ unit left f i))
