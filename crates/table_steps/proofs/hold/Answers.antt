-- `hold` copies the bytes behind those that are held, all of them or as many as there is room for.
use native.Mathlib.Omega.{arith}
use Rattle.table_progress.proofs.Holding.{held_more}
use Rattle.table_steps.proofs.hold.Goals as goal

pub returns : goal.returns
returns c =
    let args = c.args in
    let so = held_more args.held args.line.now args.more.now (omega arith) (omega arith) c.min-taken.ensures c.copy_from_slice.ensures.after in
    record { value = so.0; line_after = so.1 }
