-- Rows moved down by one, one after the other: what the loop leaves, and that a folded tree then stands one row further down.
use mathlib.Core.Path.{◌≡◌, ap, ◌∙◌}
use mathlib.Core.List.{List}
use Prim.Native.Nat.{ℕ, suc, ◌+◌, ◌-◌, ◌≤◌}
use native.Mathlib.Omega.{arith}
use Rattle.plan.specs.Plan.{row}
use Rattle.fold_rows.specs.Standing.{with_row, lowered, moved_down}

pub moved_none : (first : ℕ) (p : List ℕ) → p ≡ moved_down first (first - first) p
unfolding moved_down
moved_none first p = ap (λ n. moved_down first n p) none
  where
    none : 0 ≡ first - first
    none = omega arith

pub moved-next : (first r : ℕ) (p : List ℕ) {q new : List ℕ} → first ≤ r → q ≡ moved_down first (r - first) p
    → new ≡ with_row q (r - 1) (lowered (row q r)) → new ≡ moved_down first (r + 1 - first) p
unfolding moved_down
moved-next first r p h e n =
    n
    ∙ ap (λ q. with_row q (r - 1) (lowered (row q r))) e
    ∙ ap (λ k. with_row (moved_down first (r - first) p) (k - 1) (lowered (row (moved_down first (r - first) p) k))) place
    ∙ ap (λ k. moved_down first k p) next
  where
    place : r ≡ first + (r - first)
    place = omega arith

    next : suc (r - first) ≡ r + 1 - first
    next = omega arith
