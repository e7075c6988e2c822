-- Trimming: it changes no value, goes from the last element down, and a sum chain's shift keeps the trimmed length.
use mathlib.Core.Path.{◌≡◌, refl, sym, ap, ◌∙◌}
use mathlib.Core.Bool.{Bool, true, false, cond}
use mathlib.Core.List.{List, [], ◌∷◌}
use Prim.Native.Nat.{ℕ, zero, suc, ◌+◌, ◌-◌, ◌*◌, ◌%◌, ◌^◌, ◌<◌, ◌≤◌}
use native.Mathlib.Nat.{add-zero, mul-one, zero-mul, add-mod-mod, le_of_suc-le-suc, not-suc-le-zero}
use native.Mathlib.Omega.{arith}
use lib.Dec.{eqb}
use lib.ListN.{length, get_or, take}
use borrow.Author.Tests.{eqb-true, eq-eqb, ne_eqb}
use Rattle.std.specs.Prelude.{MatchOption, Option, Some, None}
use Rattle.std.specs.Option.{unwrap_or}
use Rattle.chain.specs.Chain.{value, rest, shift, meeting, shift_from_top, value_at, words, with_last, without_trailing, trimmed, row}
use Rattle.chain.specs.SumChain.{sum_at, sum_shift}
use Rattle.chain.specs.ProductChain.{product_at, trimmed_product}
use Rattle.chain.proofs.Values as Values

-- ---- values, for any operation with a unit
module _ (◌⊙◌ : ℕ → ℕ → ℕ) (unit : ℕ) (right-unit : (a : ℕ) → ◌⊙◌ a unit ≡ a) where
  with_last_lem : (a : ℕ) (f : List ℕ) (i : ℕ) → value_at ◌⊙◌ unit (with_last unit a f) i ≡ value_at ◌⊙◌ unit (a ∷ f) i
  unfolding with_last
  with_last_lem a [] i = go (eqb a unit) refl
    where
      go : (t : Bool) → eqb a unit ≡ t → value_at ◌⊙◌ unit (cond t [] (a ∷ [])) i ≡ value_at ◌⊙◌ unit (a ∷ []) i
      go true e =
          Values.value_none ◌⊙◌ unit right-unit i ∙ sym (eqb-true a unit e) ∙ sym (Values.value-constant ◌⊙◌ unit right-unit a i)
      go false e = refl
  with_last_lem a (b ∷ f) i = refl

  without_trailing_lem : (f : List ℕ) (i : ℕ) → value_at ◌⊙◌ unit (without_trailing unit f) i ≡ value_at ◌⊙◌ unit f i
  unfolding without_trailing
  without_trailing_lem [] i = refl
  without_trailing_lem (a ∷ f) i =
      with_last_lem a (without_trailing unit f) i ∙ Values.value-cons ◌⊙◌ unit right-unit a (without_trailing unit f) f (without_trailing_lem f) i

  pub value-trimmed : (f : List ℕ) (i : ℕ) → value_at ◌⊙◌ unit (trimmed unit f) i ≡ value_at ◌⊙◌ unit f i
  unfolding trimmed without_trailing
  value-trimmed [] i = Values.value-constant ◌⊙◌ unit right-unit unit i ∙ sym (Values.value_none ◌⊙◌ unit right-unit i)
  value-trimmed (a ∷ f) i = Values.value-cons ◌⊙◌ unit right-unit a (without_trailing unit f) f (without_trailing_lem f) i

pub value-trimmed-sum : (f : List ℕ) (i : ℕ) → sum_at (trimmed 0 f) i ≡ sum_at f i
value-trimmed-sum f i = value-trimmed ◌+◌ 0 add-zero f i

-- "A product chain with f0 = 0 is the constant 0."
product-zero : (f : List ℕ) → value 1 f ≡ 0 → (i : ℕ) → product_at f i ≡ 0
product-zero f e zero = Values.value-now ◌*◌ 1 mul-one f ∙ e
product-zero f e (suc i) =
    Values.value-next ◌*◌ 1 mul-one f i ∙ ap (λ z. z * product_at (rest f) i) (product-zero f e i) ∙ zero-mul (product_at (rest f) i)

pub value-trimmed-product : (f : List ℕ) (i : ℕ) → product_at (trimmed_product f) i ≡ product_at f i
value-trimmed-product f i = go (eqb (value 1 f) 0) refl
  where
    go : (t : Bool) → eqb (value 1 f) 0 ≡ t → product_at (cond t (0 ∷ []) (trimmed 1 f)) i ≡ product_at f i
    go true e = Values.value-constant ◌*◌ 1 mul-one 0 i ∙ sym (product-zero f (eqb-true (value 1 f) 0 e) i)
    go false e = value-trimmed ◌*◌ 1 mul-one f i

-- ---- rows: n elements, filled with zeros
row_with_last : (n a : ℕ) (f : List ℕ) → row n (with_last 0 a f) ≡ row n (a ∷ f)
unfolding with_last row
row_with_last n a [] = go n (eqb a 0) refl
  where
    go : (n : ℕ) (t : Bool) → eqb a 0 ≡ t → row n (cond t [] (a ∷ [])) ≡ row n (a ∷ [])
    go zero t e = refl
    go (suc n) true e = ap (λ z. z ∷ row n []) (sym (eqb-true a 0 e))
    go (suc n) false e = refl
row_with_last n a (b ∷ f) = refl

row_cons : (n a : ℕ) (f g : List ℕ) → ((k : ℕ) → row k f ≡ row k g) → row n (a ∷ f) ≡ row n (a ∷ g)
unfolding row
row_cons zero a f g same = refl
row_cons (suc n) a f g same = ap {B = List ℕ} (λ h. a ∷ h) (same n)

row_without_trailing : (f : List ℕ) (n : ℕ) → row n (without_trailing 0 f) ≡ row n f
unfolding without_trailing
row_without_trailing [] n = refl
row_without_trailing (a ∷ f) n = row_with_last n a (without_trailing 0 f) ∙ row_cons n a (without_trailing 0 f) f (row_without_trailing f)

-- Trimming drops nothing that a row holds.
pub row-trimmed : (n : ℕ) (f : List ℕ) → row n (trimmed 0 f) ≡ row n f
unfolding row trimmed
row-trimmed zero f = refl
row-trimmed (suc n) f = ap {B = List ℕ} (λ h. value 0 f ∷ h) (row_without_trailing (rest f) n)

without_trailing_zeros : (n : ℕ) → without_trailing 0 (row n []) ≡ []
unfolding row without_trailing with_last
without_trailing_zeros zero = refl
without_trailing_zeros (suc n) = ap (λ h. with_last 0 0 h) (without_trailing_zeros n)

without_trailing_row : (n : ℕ) (f : List ℕ) → length f ≤ n → without_trailing 0 (row n f) ≡ without_trailing 0 f
unfolding row without_trailing
without_trailing_row n [] h = without_trailing_zeros n
without_trailing_row zero (a ∷ f) h = absurd (not-suc-le-zero h)
without_trailing_row (suc n) (a ∷ f) h = ap (λ g. with_last 0 a g) (without_trailing_row n f (le_of_suc-le-suc h))

-- A row that holds the whole chain trims to the trimmed chain.
pub trimmed-row : (n : ℕ) (f : List ℕ) → length f ≤ suc n → trimmed 0 (row (suc n) f) ≡ trimmed 0 f
unfolding row trimmed without_trailing
trimmed-row n [] h = ap {B = List ℕ} (λ g. 0 ∷ g) (without_trailing_zeros n)
trimmed-row n (a ∷ f) h = ap {B = List ℕ} (λ g. a ∷ g) (without_trailing_row n f (le_of_suc-le-suc h))

pub length-row : (n : ℕ) (f : List ℕ) → length (row n f) ≡ n
unfolding row
length-row zero f = refl
length-row (suc n) f = ap suc (length-row n (rest f))

-- ---- the length
length_with_last : (unit a : ℕ) (f : List ℕ) → length (with_last unit a f) ≤ suc (length f)
unfolding with_last
length_with_last unit a [] = go (eqb a unit)
  where
    go : (t : Bool) → length (cond t [] (a ∷ [])) ≤ 1
    go true = omega arith
    go false = omega arith
length_with_last unit a (b ∷ f) = omega arith

pub length_without_trailing : (unit : ℕ) (f : List ℕ) → length (without_trailing unit f) ≤ length f
unfolding without_trailing
length_without_trailing unit [] = omega arith
length_without_trailing unit (a ∷ f) = omega (arith, length_with_last unit a (without_trailing unit f), length_without_trailing unit f)

pub length-trimmed : (unit : ℕ) (f : List ℕ) (n : ℕ) → length f ≤ suc n → length (trimmed unit f) ≤ suc n
unfolding trimmed without_trailing
length-trimmed unit [] n h = omega arith
length-trimmed unit (a ∷ f) n h = omega (arith, length_without_trailing unit f)

pub length-trimmed_some : (unit : ℕ) (f : List ℕ) → 0 < length (trimmed unit f)
unfolding trimmed
length-trimmed_some unit f = omega arith

-- Trimming takes the first elements, as many as it leaves.
take_with_last : (unit a : ℕ) (f g : List ℕ) → take (length g) f ≡ g → take (length (with_last unit a g)) (a ∷ f) ≡ with_last unit a g
unfolding with_last
take_with_last unit a f [] e = go (eqb a unit)
  where
    go : (t : Bool) → take (length (cond t [] (a ∷ []))) (a ∷ f) ≡ cond t [] (a ∷ [])
    go true = refl
    go false = refl
take_with_last unit a f (b ∷ g) e = ap {B = List ℕ} (λ h. a ∷ h) e

take_without_trailing : (unit : ℕ) (f : List ℕ) → take (length (without_trailing unit f)) f ≡ without_trailing unit f
unfolding without_trailing
take_without_trailing unit [] = refl
take_without_trailing unit (a ∷ f) = take_with_last unit a f (without_trailing unit f) (take_without_trailing unit f)

pub take-trimmed : (unit : ℕ) (f : List ℕ) → 0 < length f → take (length (trimmed unit f)) f ≡ trimmed unit f
unfolding trimmed
take-trimmed unit [] h = absurd (not-suc-le-zero h)
take-trimmed unit (a ∷ f) h = ap {B = List ℕ} (λ g. a ∷ g) (take_without_trailing unit f)

-- ---- trimming twice trims once
twice_with_last : (unit a : ℕ) (f : List ℕ) → without_trailing unit f ≡ f → without_trailing unit (with_last unit a f) ≡ with_last unit a f
unfolding without_trailing with_last
twice_with_last unit a [] same = go (eqb a unit) refl
  where
    go : (t : Bool) → eqb a unit ≡ t → without_trailing unit (cond t [] (a ∷ [])) ≡ cond t [] (a ∷ [])
    go true e = refl
    go false e = ap (λ t. cond t [] (a ∷ [])) e
twice_with_last unit a (b ∷ f) same = ap (with_last unit a) same

twice_without_trailing : (unit : ℕ) (f : List ℕ) → without_trailing unit (without_trailing unit f) ≡ without_trailing unit f
unfolding without_trailing
twice_without_trailing unit [] = refl
twice_without_trailing unit (a ∷ f) = twice_with_last unit a (without_trailing unit f) (twice_without_trailing unit f)

pub trimmed_twice : (unit : ℕ) (f : List ℕ) → trimmed unit (trimmed unit f) ≡ trimmed unit f
unfolding trimmed
trimmed_twice unit f = ap {B = List ℕ} (λ g. value unit f ∷ g) (twice_without_trailing unit (rest f))

-- ---- the length by the last element that is not the unit
module _ (unit : ℕ) where
  all_dropped : (g : List ℕ) → ((k : ℕ) → k < length g → get_or g k 0 ≡ unit) → without_trailing unit g ≡ []
  unfolding without_trailing with_last
  all_dropped [] e = refl
  all_dropped (a ∷ g) e =
      ap (λ f. with_last unit a f) (all_dropped g (λ k h. e (suc k) (omega arith)))
      ∙ ap {B = List ℕ} (λ b. cond b [] (a ∷ [])) (eq-eqb a unit (e 0 (omega arith)))

  longer : (a : ℕ) (f : List ℕ) (n : ℕ) → length f ≡ suc n → length (with_last unit a f) ≡ suc (suc n)
  unfolding with_last
  longer a [] n e = absurd (omega arith)
  longer a (b ∷ f) n e = ap suc e

  kept_to : (g : List ℕ) (last : ℕ) → last < length g → (get_or g last 0 ≡ unit → ⊥)
      → ((k : ℕ) → last < k → k < length g → get_or g k 0 ≡ unit) → length (without_trailing unit g) ≡ suc last
  unfolding without_trailing with_last
  kept_to [] last h other e = absurd (not-suc-le-zero h)
  kept_to (a ∷ g) zero h other e =
      ap (λ f. length (with_last unit a f)) (all_dropped g (λ k l. e (suc k) (omega arith) (omega arith)))
      ∙ ap (λ b. length (cond b [] (a ∷ []))) (ne_eqb a unit other)
  kept_to (a ∷ g) (suc last) h other e =
      longer a (without_trailing unit g) last (kept_to g last (le_of_suc-le-suc h) other (λ k l m. e (suc k) (omega arith) (omega arith)))

  pub trimmed_to : (f : List ℕ) (last : ℕ) → last < length f → (get_or f last 0 ≡ unit → ⊥)
      → ((k : ℕ) → last < k → k < length f → get_or f k 0 ≡ unit) → length (trimmed unit f) ≡ suc last
  unfolding trimmed
  trimmed_to [] last h other e = absurd (not-suc-le-zero h)
  trimmed_to (a ∷ f) zero h other e = ap (λ g. suc (length g)) (all_dropped f (λ k l. e (suc k) (omega arith) (omega arith)))
  trimmed_to (a ∷ f) (suc last) h other e =
      ap suc (kept_to f last (le_of_suc-le-suc h) other (λ k l m. e (suc k) (omega arith) (omega arith)))

  pub trimmed_to_one : (f : List ℕ) → ((k : ℕ) → k < length f → get_or f k 0 ≡ unit) → length (trimmed unit f) ≡ 1
  unfolding trimmed without_trailing
  trimmed_to_one [] e = refl
  trimmed_to_one (a ∷ f) e = ap (λ g. suc (length g)) (all_dropped f (λ k l. e (suc k) (omega arith)))

  -- What looking from the end of n elements finds: that all are the unit, or the last one that is not.
  abbrev pub IsLastOther : ℕ → List ℕ → Option ℕ → Type 0
  IsLastOther n f found =
      MatchOption found ((k : ℕ) → k < n → get_or f k 0 ≡ unit)
      (λ last. (last < n) × (get_or f last 0 ≡ unit → ⊥) × ((k : ℕ) → last < k → k < n → get_or f k 0 ≡ unit))

  pub by_last_other : (n : ℕ) (f : List ℕ) (found : Option ℕ) → length f ≡ n → IsLastOther n f found → unwrap_or found 0 ≡ length (trimmed unit f) - 1
  by_last_other n f None long all = omega (arith, trimmed_to_one f (λ k h. all k (omega arith)))
  by_last_other n f (Some last) long is = omega (arith, trimmed_to f last (omega arith) is.1 (λ k h l. is.2 k h (omega arith)))

-- ---- a shift keeps the trimmed length, from either end: the last element that is not 0 stays
module _ (w : ℕ) where
  none_left : (a : ℕ) (f : List ℕ) → length (without_trailing 0 (words w (a ∷ f))) ≡ 0 → a % 2 ^ w ≡ 0
  unfolding without_trailing with_last
  none_left a f e = go (without_trailing 0 (words w f)) (eqb (a % 2 ^ w) 0) refl e
    where
      go : (g : List ℕ) (t : Bool) → eqb (a % 2 ^ w) 0 ≡ t → length (with_last 0 (a % 2 ^ w) g) ≡ 0 → a % 2 ^ w ≡ 0
      go [] true p q = eqb-true (a % 2 ^ w) 0 p
      go [] false p q = absurd (impossible (ap (λ t. length (cond t [] ((a % 2 ^ w) ∷ []))) (sym p) ∙ q))
        where
          impossible : ◌≡◌ {A = ℕ} 1 0 → ⊥
          impossible e = omega arith
      go (b ∷ g) t p q = absurd (impossible q)
        where
          impossible : suc (suc (length g)) ≡ 0 → ⊥
          impossible e = omega arith

  pub same_with_last : (a b : ℕ) (f g : List ℕ) → length f ≡ length g → (length f ≡ 0 → a ≡ b) → length (with_last 0 a f) ≡ length (with_last 0 b g)
  unfolding with_last
  same_with_last a b [] [] e same = ap (λ z. length (with_last 0 z [])) (same refl)
  same_with_last a b [] (y ∷ g) e same = absurd (impossible e)
    where
      impossible : 0 ≡ suc (length g) → ⊥
      impossible e = omega arith
  same_with_last a b (x ∷ f) [] e same = absurd (impossible e)
    where
      impossible : suc (length f) ≡ 0 → ⊥
      impossible e = omega arith
  same_with_last a b (x ∷ f) (y ∷ g) e same = ap suc e

  module _ (◌⊙◌ : ℕ → ℕ → ℕ) (right_zero : (a b : ℕ) → b % 2 ^ w ≡ 0 → ◌⊙◌ a b % 2 ^ w ≡ a % 2 ^ w) where
    pub shift-length : (f : List ℕ) → length (without_trailing 0 (words w (shift ◌⊙◌ f))) ≡ length (without_trailing 0 (words w f))
    unfolding shift without_trailing
    shift-length [] = refl
    shift-length (a ∷ []) = refl
    shift-length (a ∷ b ∷ f) =
        same_with_last (◌⊙◌ a b % 2 ^ w) (a % 2 ^ w) (without_trailing 0 (words w (shift ◌⊙◌ (b ∷ f)))) (without_trailing 0 (words w (b ∷ f)))
        (shift-length (b ∷ f))
        (λ e. right_zero a b (none_left b f (sym (shift-length (b ∷ f)) ∙ e)))

    pub from_top_length : (f : List ℕ) → length (without_trailing 0 (words w (shift_from_top ◌⊙◌ f))) ≡ length (without_trailing 0 (words w f))
    unfolding shift_from_top meeting without_trailing
    from_top_length [] = refl
    from_top_length (a ∷ f) = go (shift_from_top ◌⊙◌ f) (from_top_length f)
      where
        go : (g : List ℕ) → length (without_trailing 0 (words w g)) ≡ length (without_trailing 0 (words w f))
            → length (without_trailing 0 (words w (meeting ◌⊙◌ a g))) ≡ length (with_last 0 (a % 2 ^ w) (without_trailing 0 (words w f)))
        go [] e = same_with_last (a % 2 ^ w) (a % 2 ^ w) [] (without_trailing 0 (words w f)) e (λ _. refl)
        go (b ∷ g) e =
            same_with_last (◌⊙◌ a b % 2 ^ w) (a % 2 ^ w) (without_trailing 0 (words w (b ∷ g))) (without_trailing 0 (words w f)) e
            (λ none. right_zero a b (none_left b g none))

  -- The first element always stays, so a chain's trimmed length is that of its rest.
  pub trimmed-length : (f g : List ℕ) → length (without_trailing 0 (words w (rest f))) ≡ length (without_trailing 0 (words w (rest g)))
      → length (trimmed 0 (words w f)) ≡ length (trimmed 0 (words w g))
  unfolding trimmed
  trimmed-length f g e =
      ap (λ h. suc (length (without_trailing 0 h))) (Values.rest-map (λ a. a % 2 ^ w) f)
      ∙ ap suc e
      ∙ ap (λ h. suc (length (without_trailing 0 h))) (sym (Values.rest-map (λ a. a % 2 ^ w) g))

  module _ (◌⊙◌ : ℕ → ℕ → ℕ) (right_zero : (a b : ℕ) → b % 2 ^ w ≡ 0 → ◌⊙◌ a b % 2 ^ w ≡ a % 2 ^ w) where
    pub bottom_keeps_length : (f : List ℕ) → length (trimmed 0 (words w (shift ◌⊙◌ f))) ≡ length (trimmed 0 (words w f))
    bottom_keeps_length f =
        trimmed-length (shift ◌⊙◌ f) f
        (ap (λ g. length (without_trailing 0 (words w g))) (Values.shift_rest ◌⊙◌ f) ∙ shift-length ◌⊙◌ right_zero (rest f))

    pub top_keeps_length : (f : List ℕ) → length (trimmed 0 (words w (shift_from_top ◌⊙◌ f))) ≡ length (trimmed 0 (words w f))
    top_keeps_length f =
        trimmed-length (shift_from_top ◌⊙◌ f) f
        (ap (λ g. length (without_trailing 0 (words w g))) (Values.from_top_rest ◌⊙◌ f) ∙ from_top_length ◌⊙◌ right_zero (rest f))

  pub plus-zero : (a b : ℕ) → b % 2 ^ w ≡ 0 → (a + b) % 2 ^ w ≡ a % 2 ^ w
  plus-zero a b e = sym (add-mod-mod a b (2 ^ w)) ∙ ap (λ z. (a + z) % 2 ^ w) e ∙ ap (λ z. z % 2 ^ w) (add-zero a)

  pub shift_keeps_length : (f : List ℕ) → length (trimmed 0 (words w (sum_shift f))) ≡ length (trimmed 0 (words w f))
  shift_keeps_length f = bottom_keeps_length ◌+◌ plus-zero f
