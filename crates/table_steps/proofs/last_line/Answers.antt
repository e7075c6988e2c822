-- `last_line` ends the line under way, if bytes are held of it, and leaves room for what the end of the input prints.
use mathlib.Core.Path.{◌≡◌}
use Prim.Native.Nat.{◌-◌}
use native.Mathlib.Omega.{arith}
use lib.ListN.{length}
use Rattle.table_progress.specs.Runs.{lent}
use Rattle.table_progress.proofs.StepsTaken.{last_none, last_fits, last_some}
use Rattle.table_steps.proofs.last_line.Goals as goal

pub returns-then-progress-eq0 : goal.returns-then-progress-eq0
returns-then-progress-eq0 c = let args = c.args in
    let b = lent args.line.now args.defaults.now args.plan.now args.table.now args.out.now in record { out_after = last_none args.tool args.progress b c.if-progress-eq0.true; wrote_in_bounds = omega arith }

pub returns : goal.returns
returns c =
    let ended = c.end_line in
    let done = ended.ensures in
    let args = c.args in
    let b = lent args.line.now args.defaults.now args.plan.now args.table.now args.out.now in
    let room = length args.out.now - 67 in
    let some : args.progress.held ≡ 0 → ⊥ = λ e. omega arith in
    let inside = c.requires.held_in_bounds in
    let fits = last_fits args.tool args.progress b some inside room (omega arith)
    (done.progress_value, (done.wrote, (done.defaults_after, (done.plan_after, done.table_after)))) ended.auto.out in
    record {
      out_after = last_some args.tool args.progress b some inside room (omega arith)
          (done.progress_value, (done.wrote, (done.defaults_after, (done.plan_after, done.table_after)))) ended.auto.out;
      wrote_in_bounds = omega (arith, fits, c.requires.most_printed_in_bounds);
    }
