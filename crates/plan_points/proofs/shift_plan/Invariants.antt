-- `shift_plan` shifts row after row. Invariant: the rows passed are shifted, the others wait.
use Rattle.std.proofs.Common.{◌≡◌, ◌≤◌, length}
use Rattle.plan.specs.Measures.{most_rows}
use Rattle.plan.proofs.Keeping.{shifted_to}
use Rattle.plan_points.proofs.shift_plan.Given as goal

abbrev pub invariant-loop-r : goal.invariant-loop-r
invariant-loop-r l = (length l.plan ≡ length l.initial.plan) × (l.plan ≡ shifted_to 64 l.r l.initial.plan) × (l.count ≤ most_rows)
