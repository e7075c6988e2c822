use native.Mathlib.Omega.{arith}
use Rattle.fold_rows.proofs.Moved.{moved_none, moved-next}
use Rattle.fold_rows.proofs.moved_rows.move_down.Goals as goal

pub loop-r-init : goal.loop-r-init
loop-r-init c = moved_none c.args.first c.args.plan.now

pub loop-r-preserved : goal.loop-r-preserved
loop-r-preserved c = moved-next c.args.first c.loop-r.r c.args.plan.now (omega arith) c.loop-r.invariant c.move_row.ensures
