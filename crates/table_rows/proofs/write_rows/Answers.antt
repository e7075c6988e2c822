use Rattle.std.proofs.Common.{rules, ◌≡◌, ap, arith}
use Rattle.plan.specs.Plan.{row_count}
use Rattle.plan.proofs.Accepting.{accepted}
use Rattle.plan.proofs.SoundLaws.{sound-count}
use Rattle.table_fields.proofs.Joining.{none_written, wrote_same}
use Rattle.table_progress.specs.Printed.{rows_print}
use Rattle.table_progress.proofs.RowLines.{row_next}
use Rattle.table_rows.proofs.write_rows.Goals as goal

pub bounds-plan-0 : goal.bounds-plan-0
bounds-plan-0 c = omega (arith, (accepted c.args.plan.now c.requires.plan_value).0)

pub loop-r-init : goal.loop-r-init
unfolding rows_print
loop-r-init c = record { room = omega arith; written = none_written _ }

pub write_row-requires-clause-room : goal.write_row-requires-clause-room
write_row-requires-clause-room c =
    let p = c.args.plan.now in
    omega (arith, sound-count p (accepted p c.requires.plan_value).1)

pub loop-r-preserved : goal.loop-r-preserved
loop-r-preserved c = record {
  room = omega arith;
  written = row_next c.args.formula.now c.args.plan.now c.loop-r.r (omega arith) c.loop-r.invariant.written c.write_row.ensures.wrote;
}

pub returns : goal.returns
returns c =
    let all : c.loop-r.r ≡ row_count c.args.plan.now = omega arith in
    let whole = wrote_same (ap (rows_print c.args.formula.now c.args.plan.now) all) c.loop-r.invariant.written.wrote in search rules
