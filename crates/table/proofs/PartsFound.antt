-- What stands before and after the first byte of a kind, found by its place.
use mathlib.Core.Path.{◌≡◌, refl, sym, ap, ◌∙◌}
use mathlib.Core.Bool.{Bool, true, false, cond}
use mathlib.Core.List.{List, [], ◌∷◌}
use Prim.Native.Nat.{ℕ, suc, ◌+◌, ◌-◌, ◌≤◌}
use native.Mathlib.Omega.{arith}
use lib.Dec.{eqb}
use lib.ListN.{length, take, drop, length-drop}
use lib.Seq.{drop-drop}
use Rattle.table.specs.NumberField.{is_empty}
use Rattle.table.specs.Parts.{before, after}

-- ---- the parts by their lengths
pub before_shorter : (b : ℕ) (s : List ℕ) → length (before b s) ≤ length s
unfolding before
before_shorter b [] = omega arith
before_shorter b (c ∷ s) = go (eqb c b) (before_shorter b s)
  where
    go : (t : Bool) → length (before b s) ≤ length s → length (cond t [] (c ∷ before b s)) ≤ suc (length s)
    go true h = omega arith
    go false h = omega arith

pub before-taken : (b : ℕ) (s : List ℕ) → take (length (before b s)) s ≡ before b s
unfolding before
before-taken b [] = refl
before-taken b (c ∷ s) = go (eqb c b) (before-taken b s)
  where
    go : (t : Bool) → take (length (before b s)) s ≡ before b s
        → take (length (cond t [] (c ∷ before b s))) (c ∷ s) ≡ cond t [] (c ∷ before b s)
    go true e = refl
    go false e = ap (λ r. c ∷ r) e

pub after_dropped : (b : ℕ) (s : List ℕ) → drop (suc (length (before b s))) s ≡ after b s
unfolding before after
after_dropped b [] = refl
after_dropped b (c ∷ s) = go (eqb c b) (after_dropped b s)
  where
    go : (t : Bool) → drop (suc (length (before b s))) s ≡ after b s
        → drop (suc (length (cond t [] (c ∷ before b s)))) (c ∷ s) ≡ cond t s (after b s)
    go true e = refl
    go false e = e

-- ---- the same in a list from a place on
module _ (b : ℕ) (l : List ℕ) (from : ℕ) (inside : from ≤ length l) where
  pub found_inside : from + length (before b (drop from l)) ≤ length l
  found_inside = omega (arith, before_shorter b (drop from l), length-drop from l)

  pub found_after : drop (from + length (before b (drop from l)) + 1) l ≡ after b (drop from l)
  found_after =
      ap (λ n. drop n l) apart
      ∙ sym (drop-drop (suc (length (before b (drop from l)))) from l)
      ∙ after_dropped b (drop from l)
    where
      apart : from + length (before b (drop from l)) + 1 ≡ from + suc (length (before b (drop from l)))
      apart = omega arith

  pub found_part : (to : ℕ) → to ≡ from + length (before b (drop from l)) → take (to - from) (drop from l) ≡ before b (drop from l)
  found_part to e = ap (λ n. take n (drop from l)) size ∙ before-taken b (drop from l)
    where
      size : to - from ≡ length (before b (drop from l))
      size = omega arith

-- ---- a part that is empty
pub empty_none : (s : List ℕ) → length s ≡ 0 → is_empty s ≡ true
empty_none [] e = refl
empty_none (c ∷ s) e = absurd (omega arith)

pub empty_some : (s : List ℕ) → (length s ≡ 0 → ⊥) → is_empty s ≡ false
empty_some [] h = absurd (h refl)
empty_some (c ∷ s) h = refl
