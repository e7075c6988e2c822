-- Product chains as 17 words: ones past the length change nothing of what is trimmed.
use mathlib.Core.Path.{◌≡◌, refl, sym, ap, ap₂, ◌∙◌}
use mathlib.Core.Bool.{cond}
use mathlib.Core.List.{List, [], ◌∷◌, map}
use Prim.Native.Nat.{ℕ, zero, suc, ◌%◌, ◌^◌, ◌≤◌}
use native.Mathlib.Nat.{not-suc-le-zero, le_of_suc-le-suc}
use native.Mathlib.Omega.{arith}
use lib.Dec.{eqb}
use lib.ListN.{length, length-map}
use Rattle.chain.specs.Chain.{value, rest, words, with_last, without_trailing, trimmed}
use Rattle.chain.specs.ProductChain.{trimmed_product}
use Rattle.chain.proofs.Values.{value-map, rest-map}
use Rattle.fold_rows.specs.Standing.{filled_with_ones}

-- ---- ones behind a chain are dropped
only_ones : (n : ℕ) → without_trailing 1 (filled_with_ones n []) ≡ []
unfolding filled_with_ones without_trailing with_last
only_ones zero = refl
only_ones (suc n) = ap (λ f. with_last 1 1 f) (only_ones n)

ones_dropped : (n : ℕ) (f : List ℕ) → length f ≤ n → without_trailing 1 (filled_with_ones n f) ≡ without_trailing 1 f
unfolding filled_with_ones without_trailing
ones_dropped n [] h = only_ones n
ones_dropped zero (a ∷ f) h = absurd (not-suc-le-zero h)
ones_dropped (suc n) (a ∷ f) h = ap (λ g. with_last 1 a g) (ones_dropped n f (le_of_suc-le-suc h))

shorter : (n : ℕ) (f : List ℕ) → length f ≤ suc n → length (rest f) ≤ n
shorter n [] h = omega arith
shorter n (a ∷ f) h = le_of_suc-le-suc h

pub filled-trimmed : (n : ℕ) (f : List ℕ) → length f ≤ suc n → trimmed_product (filled_with_ones (suc n) f) ≡ trimmed_product f
unfolding filled_with_ones trimmed
filled-trimmed n f h =
    ap {B = List ℕ} (λ g. cond (eqb (value 1 f) 0) (0 ∷ []) (value 1 f ∷ g)) (ones_dropped n (rest f) (shorter n f h))

-- ---- a map that takes 1 to 1 keeps the ones
pub map-filled : (h : ℕ → ℕ) → h 1 ≡ 1 → (n : ℕ) (f : List ℕ) → map h (filled_with_ones n f) ≡ filled_with_ones n (map h f)
unfolding filled_with_ones
map-filled h e zero f = refl
map-filled h e (suc n) f =
    ap₂ {B = List ℕ} {C = List ℕ} ◌∷◌ (sym (value-map h 1 1 e f)) (map-filled h e n (rest f) ∙ ap (filled_with_ones n) (sym (rest-map h f)))

pub short-map : (h : ℕ → ℕ) (f : List ℕ) → length f ≤ 17 → length (map h f) ≤ 17
short-map h f short = rw (length-map f h) short

-- What 17 words filled with ones trim to.
pub words-trimmed : {g : List ℕ} (f : List ℕ) → length f ≤ 17 → g ≡ filled_with_ones 17 f
    → trimmed_product (words 64 g) ≡ trimmed_product (words 64 f)
words-trimmed f most e =
    ap (λ g. trimmed_product (words 64 g)) e
    ∙ ap (λ g. trimmed_product g) (map-filled (λ a. a % 2 ^ 64) (omega arith) 17 f)
    ∙ filled-trimmed 16 (words 64 f) (rw (length-map f (λ a. a % 2 ^ 64)) most)
