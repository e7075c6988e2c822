-- `move_down` moves row after row. Invariant: the rows passed are moved.
use mathlib.Core.Path.{◌≡◌}
use Prim.Native.Nat.{◌-◌}
use Rattle.fold_rows.specs.Standing.{moved_down}
use Rattle.fold_rows.proofs.moved_rows.move_down.Given as goal

abbrev pub invariant-loop-r : goal.invariant-loop-r
invariant-loop-r l = l.plan ≡ moved_down l.first (l.r - l.first) l.initial.plan
