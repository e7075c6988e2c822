-- Rows: what an array of n words holds of a chain, entry by entry, and what a loop that fills one has written so far.
use mathlib.Core.Path.{◌≡◌, refl, sym, ap, ap₂, ◌∙◌}
use mathlib.Core.List.{List, [], ◌∷◌, ◌++◌, map}
use Prim.Native.Nat.{ℕ, zero, suc, ◌+◌, ◌%◌, ◌^◌, ◌<◌, ◌≤◌}
use native.Mathlib.Nat.{zero-mod, mod-eq_of_lt, le_of_suc-le-suc, not-suc-le-zero}
use native.Mathlib.Numerals.{add-one}
use native.Mathlib.Omega.{arith}
use lib.ListN.{length, get_or, take, drop, set}
use lib.Seq.{take-nil}
use Rattle.chain.specs.Chain.{value, rest, words, row}

-- ---- entries
pub entry_rest : (f : List ℕ) (i : ℕ) → get_or (rest f) i 0 ≡ get_or f (suc i) 0
entry_rest [] i = refl
entry_rest (a ∷ f) i = refl

pub entry_value : (f : List ℕ) → get_or f 0 0 ≡ value 0 f
entry_value [] = refl
entry_value (a ∷ f) = refl

pub entry_row : (n : ℕ) (f : List ℕ) (i : ℕ) → i < n → get_or (row n f) i 0 ≡ get_or f i 0
unfolding row
entry_row zero f i h = absurd (not-suc-le-zero h)
entry_row (suc n) f zero h = sym (entry_value f)
entry_row (suc n) f (suc i) h = entry_row n (rest f) i (le_of_suc-le-suc h) ∙ entry_rest f i

pub entry_map : (h : ℕ → ℕ) → h 0 ≡ 0 → (f : List ℕ) (i : ℕ) → get_or (map h f) i 0 ≡ h (get_or f i 0)
entry_map h e [] i = sym e
entry_map h e (a ∷ f) zero = refl
entry_map h e (a ∷ f) (suc i) = entry_map h e f i

pub entry_words : (w : ℕ) (f : List ℕ) (i : ℕ) → get_or (words w f) i 0 ≡ get_or f i 0 % 2 ^ w
entry_words w f i = entry_map (λ a. a % 2 ^ w) (zero-mod (2 ^ w)) f i

-- ---- a whole array is its own row
row_of_length : (f : List ℕ) → row (length f) f ≡ f
unfolding row
row_of_length [] = refl
row_of_length (a ∷ f) = ap {B = List ℕ} (λ g. a ∷ g) (row_of_length f)

pub row-whole : (n : ℕ) (f : List ℕ) → length f ≡ n → row n f ≡ f
row-whole n f e = ap (λ k. row k f) (sym e) ∙ row_of_length f

pub row-take : (n : ℕ) (f : List ℕ) → row n (take n f) ≡ row n f
unfolding row
row-take zero f = refl
row-take (suc n) [] = refl
row-take (suc n) (a ∷ f) = ap {B = List ℕ} (λ g. a ∷ g) (row-take n f)

-- Elements below 2^w are words already.
pub words-whole : (w : ℕ) (f : List ℕ) → ((i : ℕ) → get_or f i 0 < 2 ^ w) → words w f ≡ f
words-whole w [] fits = refl
words-whole w (a ∷ f) fits = ap₂ {B = List ℕ} {C = List ℕ} ◌∷◌ (mod-eq_of_lt (fits 0)) (words-whole w f (λ i. fits (suc i)))

-- n elements laid over the first n words of an array of zeros.
pub row-laid : (n m : ℕ) (f : List ℕ) → length f ≡ m → m ≤ n → f ++ drop m (row n []) ≡ row n f
unfolding row
row-laid n zero [] e h = refl
row-laid n (suc m) [] e h = absurd (omega arith)
row-laid n zero (a ∷ f) e h = absurd (omega arith)
row-laid zero (suc m) (a ∷ f) e h = absurd (not-suc-le-zero h)
row-laid (suc n) (suc m) (a ∷ f) e h = ap {B = List ℕ} (λ g. a ∷ g) (row-laid n m f (omega arith) (le_of_suc-le-suc h))

-- ---- a loop that fills an array of zeros: after i turns it holds the first i elements of h
store : (n i : ℕ) (h : List ℕ) → i < n → set (row n (take i h)) i (get_or h i 0) ≡ row n (take (suc i) h)
unfolding row
store zero i h p = absurd (not-suc-le-zero p)
store (suc n) zero [] p = refl
store (suc n) zero (a ∷ h) p = refl
store (suc n) (suc i) [] p =
    ap {B = List ℕ} (λ g. 0 ∷ g) (ap (λ g. set (row n g) i 0) (sym (take-nil i)) ∙ store n i [] (le_of_suc-le-suc p))
store (suc n) (suc i) (a ∷ h) p = ap {B = List ℕ} (λ g. a ∷ g) (store n i h (le_of_suc-le-suc p))

pub row_store : (n i : ℕ) (h : List ℕ) {r : List ℕ} {v : ℕ} → i < n → r ≡ row n (take i h) → v ≡ get_or h i 0
    → set r i v ≡ row n (take (i + 1) h)
row_store n i h p e q = ap₂ (λ l x. set l i x) e q ∙ store n i h p ∙ ap (λ k. row n (take k h)) (sym (add-one i))

pub row-filled : (n : ℕ) (h : List ℕ) {r : List ℕ} (i : ℕ) → r ≡ row n (take i h) → i ≡ n → r ≡ row n h
row-filled n h i e q = e ∙ ap (λ k. row n (take k h)) q ∙ row-take n h

-- Where h has n elements, they are all there are.
pub array_filled : (n : ℕ) (h : List ℕ) {r : List ℕ} (i : ℕ) → length h ≡ n → r ≡ row n (take i h) → i ≡ n → r ≡ h
array_filled n h i long e q = row-filled n h i e q ∙ row-whole n h long
