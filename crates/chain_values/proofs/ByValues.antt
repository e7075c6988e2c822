-- Passes by values: with sums a sum chain becomes its values at 0, 1, .., with differences values become the chain through them. So a product
-- and a power may be worked out on values, which decide the elements (canonicity). Over the width, and for lists of any length.
use mathlib.Core.Path.{◌≡◌, refl, sym, ap, ap₂, ◌∙◌}
use mathlib.Core.List.{List, [], ◌∷◌, map}
use Prim.Native.Nat.{ℕ, zero, suc, ◌+◌, ◌-◌, ◌*◌, ◌%◌, ◌^◌, ◌<◌, ◌≤◌}
use native.Mathlib.Nat.{add_comm, mod-mod, le_of_suc-le-suc, not-suc-le-zero}
use native.Mathlib.Omega.{arith}
use lib.ListN.{length, get_or, length-map}
use lib.Pow.{pow_pos}
use mir.Syntax.{w64}
use mir.Val.{Fits}
use Rattle.word.specs.Word as Word
use Rattle.word.proofs.Modulo.{add_same, mul_same, pow_same}
use Rattle.word.proofs.Ring.{word_fits, sum_comm, difference-sum}
use Rattle.chain.specs.Chain.{shift, words, row}
use Rattle.chain.specs.SumChain.{sum_at, sum_shift, product, power}
use Rattle.chain.proofs.Rows.{entry_value, row-whole, words-whole}
use Rattle.chain.proofs.SumLaws.{sum-now, sum-next, sum-shift, value-words, value-product, value-power}
use Rattle.chain.proofs.Canonical.{value_row, same_row}
use Rattle.chain_arrays.specs.Operations.{Product, worked, word_by_word}
use Rattle.chain_arrays.proofs.Paired.{entry_paired, length-paired}
use Rattle.chain_values.specs.Passes.{behind, passes}
use Rattle.chain_values.proofs.Passing.{length-behind, length-passes, entry_behind}

module _ (w : ℕ) where
  -- ---- sums: the words behind the first are the shifted chain, and so on
  behind-shift : (a : ℕ) (f : List ℕ) → behind (Word.sum w) a f ≡ row (length f) (words w (sum_shift (a ∷ f)))
  unfolding behind shift row
  behind-shift a [] = refl
  behind-shift a (b ∷ f) = ap₂ {B = List ℕ} {C = List ℕ} ◌∷◌ (sum_comm w b a) (behind-shift b f)

  value-behind : (a : ℕ) (f : List ℕ) (i : ℕ) → i < length f → sum_at (behind (Word.sum w) a f) i % 2 ^ w ≡ sum_at (a ∷ f) (suc i) % 2 ^ w
  value-behind a f i h =
      ap (λ g. sum_at g i % 2 ^ w) (behind-shift a f)
      ∙ ap (λ z. z % 2 ^ w) (value_row (length f) (words w (sum_shift (a ∷ f))) i h)
      ∙ value-words w (sum_shift (a ∷ f)) i
      ∙ ap (λ z. z % 2 ^ w) (sum-shift (a ∷ f) i)

  pub values-found : (n : ℕ) (f : List ℕ) (i : ℕ) → i < length f → i ≤ n → get_or (passes (Word.sum w) n f) i 0 % 2 ^ w ≡ sum_at f i % 2 ^ w
  unfolding passes
  values-found zero f zero h k = ap (λ z. z % 2 ^ w) (entry_value f ∙ sym (sum-now f))
  values-found zero f (suc i) h k = absurd (not-suc-le-zero k)
  values-found (suc n) [] i h k = absurd (not-suc-le-zero h)
  values-found (suc n) (a ∷ f) zero h k = ap (λ z. z % 2 ^ w) (sym (sum-now (a ∷ f)))
  values-found (suc n) (a ∷ f) (suc i) h k =
      values-found n (behind (Word.sum w) a f) i (rw (length-behind (Word.sum w) a f) (le_of_suc-le-suc h)) (le_of_suc-le-suc k)
      ∙ value-behind a f i (le_of_suc-le-suc h)

  -- ---- differences: the chain through the values
  difference_undone : (a b : ℕ) → (a + Word.difference w b a) % 2 ^ w ≡ b % 2 ^ w
  difference_undone a b = ap (λ z. z % 2 ^ w) (add_comm a (Word.difference w b a)) ∙ difference-sum w b a

  pub value_through : (i n : ℕ) (v : List ℕ) → i < length v → i ≤ n → sum_at (passes (Word.difference w) n v) i % 2 ^ w ≡ get_or v i 0 % 2 ^ w
  unfolding passes
  value_through zero n [] h k = absurd (not-suc-le-zero h)
  value_through zero zero (a ∷ v) h k = ap (λ z. z % 2 ^ w) (sum-now (a ∷ v))
  value_through zero (suc n) (a ∷ v) h k = ap (λ z. z % 2 ^ w) (sum-now (passes (Word.difference w) (suc n) (a ∷ v)))
  value_through (suc i) n [] h k = absurd (not-suc-le-zero h)
  value_through (suc i) zero (a ∷ v) h k = absurd (not-suc-le-zero k)
  value_through (suc i) (suc n) (a ∷ v) h k =
      ap (λ z. z % 2 ^ w) (sum-next (a ∷ later) i)
      ∙ add_same (2 ^ w) (sum_at (a ∷ later) i) (get_or (a ∷ v) i 0) (sum_at later i) (get_or gaps i 0)
      (value_through i (suc n) (a ∷ v) (omega (arith, h)) (omega (arith, k)))
      (value_through i n gaps (rw (length-behind (Word.difference w) a v) (le_of_suc-le-suc h)) (le_of_suc-le-suc k))
      ∙ ap (λ z. (get_or (a ∷ v) i 0 + z) % 2 ^ w) (entry_behind (Word.difference w) a v i (le_of_suc-le-suc h))
      ∙ difference_undone (get_or (a ∷ v) i 0) (get_or v i 0)
    where
      gaps : List ℕ
      gaps = behind (Word.difference w) a v

      later : List ℕ
      later = passes (Word.difference w) n gaps

  behind_fits : (a : ℕ) (v : List ℕ) (i : ℕ) → get_or (behind (Word.difference w) a v) i 0 < 2 ^ w
  unfolding behind
  behind_fits a [] i = pow_pos w
  behind_fits a (b ∷ v) zero = word_fits w (b + (2 ^ w - a % 2 ^ w))
  behind_fits a (b ∷ v) (suc i) = behind_fits b v i

  passes_fit : (n : ℕ) (v : List ℕ) → ((i : ℕ) → get_or v i 0 < 2 ^ w) → (i : ℕ) → get_or (passes (Word.difference w) n v) i 0 < 2 ^ w
  unfolding passes
  passes_fit zero v fits i = fits i
  passes_fit (suc n) [] fits i = pow_pos w
  passes_fit (suc n) (a ∷ v) fits zero = fits 0
  passes_fit (suc n) (a ∷ v) fits (suc i) = passes_fit n (behind (Word.difference w) a v) (behind_fits a v) i

  -- Words that are the chain through the values of h are h's first elements.
  pub through_values : (n : ℕ) (h v : List ℕ) {r : List ℕ} → length v ≡ suc n → ((i : ℕ) → get_or v i 0 < 2 ^ w)
      → r ≡ passes (Word.difference w) n v → ((i : ℕ) → i < suc n → get_or v i 0 % 2 ^ w ≡ sum_at h i % 2 ^ w) → r ≡ row (suc n) (words w h)
  through_values n h v {r} long fits e same =
      e
      ∙ sym (row-whole (suc n) (passes (Word.difference w) n v) (length-passes (Word.difference w) n v ∙ long))
      ∙ ap (λ l. row (suc n) l) (sym (words-whole w (passes (Word.difference w) n v) (passes_fit n v fits)))
      ∙ same_row w (suc n) (passes (Word.difference w) n v) h
      (λ i k. value_through i n v (rw long k) (le_of_suc-le-suc k) ∙ same i k)

-- ---- products and powers of 17 values
module _ (f : List ℕ) (long : length f ≡ 17) {v : List ℕ} (values : v ≡ passes (Word.sum 64) 16 f) where
  value_at : (i : ℕ) → i < 17 → get_or v i 0 % 2 ^ 64 ≡ sum_at f i % 2 ^ 64
  value_at i h = ap (λ l. get_or l i 0 % 2 ^ 64) values ∙ values-found 64 16 f i (rw long h) (le_of_suc-le-suc h)

  length-values : length v ≡ 17
  length-values = ap length values ∙ length-passes (Word.sum 64) 16 f ∙ long

  pub power_by_values : (n : ℕ) {p r : List ℕ} → p ≡ map (λ a. Word.power 64 a n) v → r ≡ passes (Word.difference 64) 16 p
      → r ≡ row 17 (words 64 (power f n))
  power_by_values n {p} e q =
      through_values 64 16 (power f n) p (ap length e ∙ length-map v (λ a. Word.power 64 a n) ∙ length-values) (λ i. rw e (powers_fit v i)) q powers
    where
      powers_fit : (v : List ℕ) (i : ℕ) → get_or (map (λ a. Word.power 64 a n) v) i 0 < 2 ^ 64
      powers_fit [] i = omega arith
      powers_fit (a ∷ v) zero = word_fits 64 (a ^ n)
      powers_fit (a ∷ v) (suc i) = powers_fit v i

      entry : (v : List ℕ) (i : ℕ) → i < length v → get_or (map (λ a. Word.power 64 a n) v) i 0 ≡ get_or v i 0 ^ n % 2 ^ 64
      entry [] i h = absurd (not-suc-le-zero h)
      entry (a ∷ v) zero h = refl
      entry (a ∷ v) (suc i) h = entry v i (le_of_suc-le-suc h)

      powers : (i : ℕ) → i < 17 → get_or p i 0 % 2 ^ 64 ≡ sum_at (power f n) i % 2 ^ 64
      powers i h =
          ap (λ l. get_or l i 0 % 2 ^ 64) e
          ∙ ap (λ z. z % 2 ^ 64) (entry v i (rw length-values h))
          ∙ mod-mod (get_or v i 0 ^ n) (2 ^ 64)
          ∙ pow_same (2 ^ 64) (get_or v i 0) (sum_at f i) n (value_at i h)
          ∙ ap (λ z. z % 2 ^ 64) (sym (value-power f n i))

pub product_by_values : (f g : List ℕ) → length f ≡ 17 → length g ≡ 17 → {u v p r : List ℕ} → ((i : ℕ) → Fits w64 (get_or p i 0))
    → u ≡ passes (Word.sum 64) 16 f → v ≡ passes (Word.sum 64) 16 g
    → p ≡ word_by_word Product u v → r ≡ passes (Word.difference 64) 16 p → r ≡ row 17 (words 64 (product f g))
product_by_values f g f-long g-long {u} {v} {p} fits e-u e-v e q =
    through_values 64 16 (product f g) p
    (ap length e ∙ length-paired (worked Product) 17 u v (length-values f f-long e-u) (length-values g g-long e-v)) (λ i. (fits i).fits) q products
  where
    products : (i : ℕ) → i < 17 → get_or p i 0 % 2 ^ 64 ≡ sum_at (product f g) i % 2 ^ 64
    products i h =
        ap (λ l. get_or l i 0 % 2 ^ 64) e
        ∙ ap (λ z. z % 2 ^ 64) (entry_paired (worked Product) u v i (rw (length-values f f-long e-u) h) (rw (length-values g g-long e-v) h))
        ∙ mod-mod (get_or u i 0 * get_or v i 0) (2 ^ 64)
        ∙ mul_same (2 ^ 64) (get_or u i 0) (sum_at f i) (get_or v i 0) (sum_at g i) (value_at f f-long e-u i h) (value_at g g-long e-v i h)
        ∙ ap (λ z. z % 2 ^ 64) (sym (value-product f g i))
