-- `plan_cost` adds the rows' costs. Invariant: the cost of the rows passed, at most 128 each.
use Rattle.std.proofs.Common.{◌≡◌, ◌*◌, ◌≤◌}
use Rattle.plan.specs.Measures.{most_rows}
use Rattle.plan.specs.Plan.{first_rows, cost_of}
use Rattle.plan_costs.proofs.plan_cost.Given as goal

abbrev pub invariant-loop-r : goal.invariant-loop-r
invariant-loop-r l = (l.r ≤ l.count) × (l.total ≤ 128 * l.r) × (l.total ≡ cost_of (first_rows l.r l.plan)) × (l.count ≤ most_rows)
