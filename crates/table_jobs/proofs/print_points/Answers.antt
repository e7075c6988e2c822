-- `print_points` fills, and writes the points.
use native.Mathlib.Omega.{arith}
use Rattle.table_progress.proofs.AllPoints.{points-printed}
use Rattle.table_jobs.proofs.print_points.Goals as goal

pub write_points-requires : goal.write_points-requires
write_points-requires c = omega arith

pub shape_of-plan : goal.shape_of-plan
shape_of-plan c = omega arith

pub shape_of-table : goal.shape_of-table
shape_of-table c = omega arith

pub shape_of-out : goal.shape_of-out
shape_of-out c = omega arith

pub returns : goal.returns
returns c =
    let so =
    points-printed c.args.plan.now c.args.table.now _ c.requires.plan_value (omega arith) (omega arith)
    c.fill.ensures.table_after c.fill.ensures.plan_after c.write_points.ensures in
    record { wrote = so.0; plan_after = so.1.0; table_after = so.1.1 }
