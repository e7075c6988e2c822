-- What the public calls compute on rows of 17 words is what their outcomes say on trimmed chains.
use mathlib.Core.Path.{◌≡◌, sym, ap, ap₂, ◌∙◌}
use mathlib.Core.List.{List, [], ◌∷◌}
use Prim.Native.Nat.{ℕ, zero, suc, ◌+◌, ◌-◌, ◌*◌, ◌%◌, ◌^◌, ◌<◌, ◌≤◌, suc-le-suc}
use native.Mathlib.Nat.{not-suc-le-zero, le_of_suc-le-suc}
use native.Mathlib.Numerals.{add-one}
use native.Mathlib.Omega.{arith}
use lib.ListN.{length, get_or, take, length-take, length-map}
use Rattle.chain.specs.Chain.{value, rest, joined, words, trimmed, row}
use Rattle.chain.specs.SumChain.{sum_at, sum_shift, sum, difference, scaled, times, product_by, product}
use Rattle.chain.specs.Answer.{given}
use Rattle.chain.proofs.SumLaws.{value-sum, value-scaled, value-product, sum-shift, difference_as_sum}
use Rattle.chain.proofs.Trimming.{value-trimmed-sum, trimmed-row, length-row, length-trimmed}
use Rattle.chain.proofs.Canonical.{same_row}
use Rattle.chain.proofs.Rows.{row-whole}
use Rattle.chain.proofs.Shifting.{length_shift}

-- ---- lengths
pub length-joined : (◌⊙◌ : ℕ → ℕ → ℕ) (unit n : ℕ) (f g : List ℕ) → length f ≤ n → length g ≤ n → length (joined ◌⊙◌ unit f g) ≤ n
unfolding joined
length-joined ◌⊙◌ unit n [] g p q = rw (length-map g (λ b. ◌⊙◌ unit b)) q
length-joined ◌⊙◌ unit zero (a ∷ f) g p q = absurd (not-suc-le-zero p)
length-joined ◌⊙◌ unit (suc n) (a ∷ f) g p q =
    suc-le-suc (length-joined ◌⊙◌ unit n f (rest g) (omega arith) (shorter g q))
  where
    shorter : (g : List ℕ) → length g ≤ suc n → length (rest g) ≤ n
    shorter [] h = omega arith
    shorter (b ∷ g) h = omega arith

-- A product's length, for every shift that keeps the length.
module _ (step : List ℕ → List ℕ) (keeps : (g : List ℕ) → length (step g) ≡ length g) where
  length-times : (a : ℕ) (below : List ℕ → List ℕ) (k : ℕ) → ((l : ℕ) (g : List ℕ) → length g ≤ suc l → length (below g) ≤ k + l)
      → (g : List ℕ) (l : ℕ) → length g ≤ suc l → length (times step a below g) ≤ suc k + l
  unfolding times
  length-times a below k short [] l h = omega arith
  length-times a below k short (b ∷ g) l h =
      next (length-joined ◌+◌ 0 (k + l) (times step a below g) (below (step (b ∷ g))) (earlier g (length-times a below k short g) l h) (short l (step (b ∷ g)) (rw (keeps (b ∷ g)) h)))
    where
      next : {n : ℕ} → n ≤ k + l → suc n ≤ suc k + l
      next p = omega arith

      earlier : (g : List ℕ) → ((l : ℕ) → length g ≤ suc l → length (times step a below g) ≤ suc k + l)
          → (l : ℕ) → length (b ∷ g) ≤ suc l → length (times step a below g) ≤ k + l
      earlier [] again l h = omega arith
      earlier (c ∷ g) again zero h = absurd (not-suc-le-zero (le_of_suc-le-suc h))
      earlier (c ∷ g) again (suc l) h = omega (arith, again l (le_of_suc-le-suc h))

  pub length-product_by : (f g : List ℕ) (k l : ℕ) → length f ≤ k → length g ≤ suc l → length (product_by step f g) ≤ k + l
  unfolding product_by
  length-product_by [] g k l p q = omega arith
  length-product_by (a ∷ f) g zero l p q = absurd (not-suc-le-zero p)
  length-product_by (a ∷ f) g (suc k) l p q =
      length-times a (product_by step f) k (λ n h. length-product_by f h k n (le_of_suc-le-suc p)) g l q

pub length-product : (f g : List ℕ) (k l : ℕ) → length f ≤ k → length g ≤ suc l → length (product f g) ≤ k + l
length-product f g k l p q = length-product_by sum_shift (length_shift ◌+◌) f g k l p q

-- ---- the arguments: an array's first k + 1 words, with zeros past them
module _ (f : List ℕ) (k : ℕ) (long : length f ≡ 17) where
  pub length-kept : length (take (k + 1) f) ≤ 17
  length-kept = rw (length-take (k + 1) f) (omega arith)

  pub kept-trimmed : trimmed 0 (row 17 (take (k + 1) f)) ≡ given f k
  kept-trimmed = trimmed-row 16 (take (k + 1) f) length-kept

  pub kept-length : {e : List ℕ} {n : ℕ} → n ≡ length (trimmed 0 e) - 1 → e ≡ row 17 (take (k + 1) f) → n ≡ length (given f k) - 1
  kept-length p q = p ∙ ap (λ c. length (trimmed 0 c) - 1) q ∙ ap (λ c. length c - 1) kept-trimmed

  pub length-given : length (given f k) ≤ 17
  length-given = length-trimmed 0 (take (k + 1) f) 16 length-kept

  pub kept-value : (i : ℕ) → sum_at (row 17 (take (k + 1) f)) i ≡ sum_at (given f k) i
  kept-value i = sym (value-trimmed-sum (row 17 (take (k + 1) f)) i) ∙ ap (λ g. sum_at g i) kept-trimmed

pub kept-first : (f : List ℕ) (k : ℕ) → get_or f 0 0 ≡ value 0 (given f k)
unfolding trimmed
kept-first [] k = ap (λ n. value 0 (take n [])) (sym (add-one k))
kept-first (a ∷ f) k = ap (λ n. value 0 (take n (a ∷ f))) (sym (add-one k))

-- ---- the results: 17 words with the right values trim to the outcome
pub trimmed_as : (w : ℕ) (h there : List ℕ) → length there ≤ 17 → ((i : ℕ) → i < 17 → sum_at h i % 2 ^ w ≡ sum_at there i % 2 ^ w)
    → trimmed 0 (row 17 (words w h)) ≡ trimmed 0 (words w there)
trimmed_as w h there short same =
    ap (λ g. trimmed 0 g) (same_row w 17 h there same) ∙ trimmed-row 16 (words w there) (rw (length-map there (λ a. a % 2 ^ w)) short)

-- Chains of the same values, the later ones of 17 words at most: sums and differences trim to the same.
module _ (w : ℕ) (f f' g g' : List ℕ) (same-f : (i : ℕ) → sum_at f i ≡ sum_at f' i) (same-g : (i : ℕ) → sum_at g i ≡ sum_at g' i)
    (short-f : length f' ≤ 17) (short-g : length g' ≤ 17) where
  pub sum_as : trimmed 0 (row 17 (words w (sum f g))) ≡ trimmed 0 (words w (sum f' g'))
  sum_as =
      trimmed_as w (sum f g) (sum f' g') (length-joined ◌+◌ 0 17 f' g' short-f short-g)
      (λ i h. ap (λ z. z % 2 ^ w) (value-sum f g i ∙ ap₂ ◌+◌ (same-f i) (same-g i) ∙ sym (value-sum f' g' i)))

  pub difference_as : trimmed 0 (row 17 (difference w f g)) ≡ trimmed 0 (difference w f' g')
  difference_as =
      ap (λ h. trimmed 0 (row 17 h)) (difference_as_sum w f g)
      ∙ trimmed_as w (sum f (scaled (2 ^ w - 1) g)) (sum f' (scaled (2 ^ w - 1) g'))
      (length-joined ◌+◌ 0 17 f' (scaled (2 ^ w - 1) g') short-f (rw (length-map g' (λ a. (2 ^ w - 1) * a)) short-g))
      (λ i h. ap (λ z. z % 2 ^ w)
      (value-sum f (scaled (2 ^ w - 1) g) i
      ∙ ap₂ ◌+◌ (same-f i) (value-scaled (2 ^ w - 1) g i ∙ ap (λ z. (2 ^ w - 1) * z) (same-g i) ∙ sym (value-scaled (2 ^ w - 1) g' i))
      ∙ sym (value-sum f' (scaled (2 ^ w - 1) g') i)))
      ∙ ap (λ h. trimmed 0 h) (sym (difference_as_sum w f' g'))

module _ (w : ℕ) (f : List ℕ) (k : ℕ) (f-long : length f ≡ 17) (g : List ℕ) (l : ℕ) (g-long : length g ≡ 17) where
  pub sum_trims : trimmed 0 (row 17 (words w (sum (row 17 (take (k + 1) f)) (row 17 (take (l + 1) g))))) ≡ trimmed 0 (words w (sum (given f k) (given g l)))
  sum_trims =
      sum_as w (row 17 (take (k + 1) f)) (given f k) (row 17 (take (l + 1) g)) (given g l) (kept-value f k f-long) (kept-value g l g-long)
      (length-given f k f-long) (length-given g l g-long)

  pub difference_trims : trimmed 0 (row 17 (difference w (row 17 (take (k + 1) f)) (row 17 (take (l + 1) g)))) ≡ trimmed 0 (difference w (given f k) (given g l))
  difference_trims =
      difference_as w (row 17 (take (k + 1) f)) (given f k) (row 17 (take (l + 1) g)) (given g l) (kept-value f k f-long) (kept-value g l g-long)
      (length-given f k f-long) (length-given g l g-long)

  pub product_trims : (length (given f k) - 1) + (length (given g l) - 1) ≤ 16
      → trimmed 0 (row 17 (words w (product (row 17 (take (k + 1) f)) (row 17 (take (l + 1) g))))) ≡ trimmed 0 (words w (product (given f k) (given g l)))
  product_trims short =
      trimmed_as w (product (row 17 (take (k + 1) f)) (row 17 (take (l + 1) g))) (product (given f k) (given g l))
      (omega (arith, length-product (given f k) (given g l) (length (given f k)) (length (given g l) - 1) (omega arith) (omega arith)))
      (λ i h. ap (λ z. z % 2 ^ w)
      (value-product (row 17 (take (k + 1) f)) (row 17 (take (l + 1) g)) i
      ∙ ap₂ ◌*◌ (kept-value f k f-long i) (kept-value g l g-long i)
      ∙ sym (value-product (given f k) (given g l) i)))

pub shift_trims : (w : ℕ) (f : List ℕ) (k : ℕ) → length f ≡ 17
    → trimmed 0 (words w (sum_shift (row 17 (take (k + 1) f)))) ≡ trimmed 0 (words w (sum_shift (given f k)))
shift_trims w f k long =
    ap (λ g. trimmed 0 g) (sym (row-whole 17 (words w (sum_shift (row 17 (take (k + 1) f)))) whole))
    ∙ trimmed_as w (sum_shift (row 17 (take (k + 1) f))) (sum_shift (given f k)) (rw (length_shift ◌+◌ (given f k)) (length-given f k long))
    (λ i h. ap (λ z. z % 2 ^ w)
    (sum-shift (row 17 (take (k + 1) f)) i ∙ kept-value f k long (suc i) ∙ sym (sum-shift (given f k) i)))
  where
    whole : length (words w (sum_shift (row 17 (take (k + 1) f)))) ≡ 17
    whole = length-map (sum_shift (row 17 (take (k + 1) f))) (λ a. a % 2 ^ w) ∙ length_shift ◌+◌ (row 17 (take (k + 1) f)) ∙ length-row 17 (take (k + 1) f)
