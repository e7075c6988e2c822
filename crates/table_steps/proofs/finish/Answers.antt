-- `finish` tests the buffers and the progress, ends the line under way, and prints what the end of the input prints behind it.
use mathlib.Core.Path.{refl, sym, ◌∙◌}
use mathlib.Core.List.{[]}
use native.Mathlib.Omega.{arith}
use Rattle.table_progress.proofs.Holding.{rear_fits}
use Rattle.table_progress.proofs.Readiness.{is-ready}
use Rattle.table_progress.specs.Runs.{lent}
use Rattle.table_progress.proofs.StepsTaken.{end_refused, end-done}
use Rattle.table_steps.proofs.finish.Goals as goal

pub overflow_add-result : goal.overflow_add-result
overflow_add-result c =
    let last = c.last_line-done in
    omega (
      arith,
      last.auto.out,
      rear_fits last.new.out last.result.wrote (omega (arith, last.ensures.wrote_in_bounds, last.auto.out)) (c.end_input-more.ensures 0 0 []) c.end_input-more.auto.out,
    )

pub returns-then-not-is_ready : goal.returns-then-not-is_ready
returns-then-not-is_ready c =
    let args = c.args in
    let b = lent args.line.now args.defaults.now args.plan.now args.table.now args.out.now in
    end_refused args.tool args.progress b refl (sym c.is_ready.ensures ∙ c.if-not-is_ready.true)

pub last_line-done-requires : goal.last_line-done-requires
last_line-done-requires c =
    let args = c.args in
    let b = lent args.line.now args.defaults.now args.plan.now args.table.now args.out.now in
    let room = is-ready args.progress b (sym c.is_ready.ensures ∙ c.if-not-is_ready.false) in
    record {
      held_in_bounds = omega (arith, room.held, room.line);
      in_bounds = room.defaults;
      kept_bound = room.kept;
      number_bound = room.number;
      plan_length_in_bounds = room.plan;
      in_bounds_2 = room.table;
      most_printed_in_bounds = room.out;
    }

pub returns : goal.returns
returns c =
    let last = c.last_line-done in
    let reached = last.result.progress in
    let args = c.args in
    let b = lent args.line.now args.defaults.now args.plan.now args.table.now args.out.now in
    end-done args.tool args.progress b (sym c.is_ready.ensures ∙ c.if-not-is_ready.false) (omega (arith, last.ensures.wrote_in_bounds, last.auto.out))
    last.ensures.out_after (c.end_input-more.ensures reached.number reached.kept last.new.defaults) c.ended.ensures
