-- The marks of a text in parts, and marks whose places rise.
use mathlib.Core.Path.{◌≡◌, refl, sym, ap, ◌∙◌}
use mathlib.Core.List.{List, [], ◌∷◌, ◌++◌}
use Prim.Native.Nat.{ℕ, suc, ◌+◌, ◌≤◌}
use native.Mathlib.Nat.{le_refl, le_trans}
use native.Mathlib.Omega.{arith}
use lib.ListN.{length}
use Rattle.formula.specs.Marks.{Mark, mark, marked}

pub marked_append : (at : ℕ) (s r : List ℕ) → marked at (s ++ r) ≡ marked at s ++ marked (at + length s) r
unfolding marked
marked_append at [] r = ap (λ n. marked n r) (omega arith)
marked_append at (c ∷ s) r = ap (λ m. mark at c ∷ m) (marked_append (suc at) s r ∙ ap (λ n. marked (suc at) s ++ marked n r) (omega arith))

-- One byte more, at the place after them.
pub marked_next : (at : ℕ) (s : List ℕ) (c : ℕ) {next : ℕ} → next ≡ at + length s → marked at (s ++ c ∷ []) ≡ marked at s ++ mark next c ∷ []
unfolding marked
marked_next at s c e = marked_append at s (c ∷ []) ∙ ap (λ n. marked at s ++ mark n c ∷ []) (sym e)

-- `Rising at end marks`: the places of the marks rise, from `at` on, and are below `end`.
pub data Rising : ℕ → ℕ → List Mark → Type 0 where
  no_mark : {at end : ℕ} → at ≤ end → Rising at end []
  next-mark : {at end p c : ℕ} {m : List Mark} → at ≤ p → Rising (suc p) end m → Rising at end (mark p c ∷ m)

pub rising_within : {at from end upto : ℕ} {m : List Mark} → at ≤ from → upto ≤ end → Rising from upto m → Rising at end m
rising_within low high (no_mark h) = no_mark (le_trans low (le_trans h high))
rising_within low high (next-mark h R) = next-mark (le_trans low h) (rising_within (omega arith) high R)

pub rising_upto : {at end : ℕ} {m : List Mark} → Rising at end m → at ≤ end
rising_upto (no_mark h) = h
rising_upto (next-mark h R) = omega (arith, rising_upto R)

-- The marks before one of them, and behind it.
pub rising_parts : {at end p : ℕ} (m : List Mark) (c : ℕ) (k : List Mark) → Rising at end (m ++ mark p c ∷ k) → Rising at p m × Rising (suc p) end k
rising_parts [] c k (next-mark h R) = (no_mark h, R)
rising_parts (mark q d ∷ m) c k (next-mark h R) = let (before, behind) = rising_parts m c k R in (next-mark h before, behind)

pub marked_rises : (at : ℕ) (s : List ℕ) {end : ℕ} → at + length s ≤ end → Rising at end (marked at s)
unfolding marked
marked_rises at [] {end} h = no_mark {at = at} {end = end} (omega arith)
marked_rises at (c ∷ s) h = next-mark (le_refl at) (marked_rises (suc at) s (le_trans (omega arith) h))

pub marked-length : (at : ℕ) (s : List ℕ) → length (marked at s) ≡ length s
unfolding marked
marked-length at [] = refl
marked-length at (c ∷ s) = ap suc (marked-length (suc at) s)
