-- A rule of a table, proved at all of its entries by one test that is computed, one entry after the other.
use mathlib.Core.Path.{◌∙◌, subst, sym}
use mathlib.Core.Bool.{Bool, true, false, ◌&&◌}
use mathlib.Core.List.{List, [], ◌∷◌}
use Prim.Native.Nat.{ℕ, zero, suc, ◌+◌, ◌<◌}
use native.Mathlib.Nat.{add-zero, zero-add, add-suc, suc-add, le_of_suc-le-suc, not-suc-le-zero}
use lib.Dec.{T}
use lib.ListN.{length, get_or}

left_holds : (a b : Bool) → T (a && b) → T a
left_holds true b t = tt
left_holds false b t = t

right_holds : (a b : Bool) → T (a && b) → T b
right_holds true b t = t
right_holds false b t = absurd t

-- The test passes at each entry of the list and its place, counted from i.
abbrev pub every : (ℕ → ℕ → Bool) → ℕ → List ℕ → Bool
every test i [] = true
every test i (x ∷ xs) = test i x && every test (suc i) xs

from : (test : ℕ → ℕ → Bool) (xs : List ℕ) (i : ℕ) → T (every test i xs) → (k : ℕ) → k < length xs → T (test (i + k) (get_or xs k 0))
from test [] i t k h = absurd (not-suc-le-zero h)
from test (x ∷ xs) i t zero h = subst (λ (m : ℕ). T (test m x)) (sym (add-zero i)) (left_holds (test i x) (every test (suc i) xs) t)
from test (x ∷ xs) i t (suc k) h =
    subst (λ (m : ℕ). T (test m (get_or xs k 0))) (suc-add i k ∙ sym (add-suc i k))
    (from test xs (suc i) (right_holds (test i x) (every test (suc i) xs) t) k (le_of_suc-le-suc h))

-- So it passes at any one entry.
pub at_entry : (test : ℕ → ℕ → Bool) (xs : List ℕ) → T (every test 0 xs) → (k : ℕ) → k < length xs → T (test k (get_or xs k 0))
at_entry test xs t k h = subst (λ (m : ℕ). T (test m (get_or xs k 0))) (zero-add k) (from test xs 0 t k h)
