-- `root_value` works out row after row. Invariant: the values of the rows passed stand in front.
use Rattle.std.proofs.Common.{◌≡◌, ◌≤◌, [], take}
use Rattle.plan.specs.Measures.{most_rows}
use Rattle.plan.specs.Plan.{first_rows}
use Rattle.plan.specs.Points.{values_from}
use Rattle.plan_points.proofs.root_value.Given as goal

abbrev pub invariant-loop-r : goal.invariant-loop-r
invariant-loop-r l = (take l.r l.values ≡ values_from 64 [] (first_rows l.r l.plan)) × (l.count ≤ most_rows)
