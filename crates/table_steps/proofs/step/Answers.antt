-- `step` tests the buffers and the progress, holds the bytes up to the line feed, and ends the line if there is one.
use mathlib.Core.Path.{refl, sym, ◌∙◌}
use native.Mathlib.Omega.{arith}
use lib.Seq.{length-take-le}
use Rattle.table.proofs.PartsFound.{found_inside}
use Rattle.table_progress.proofs.Holding.{held_at_most}
use Rattle.table_progress.specs.Runs.{lent}
use Rattle.table_progress.proofs.Readiness.{is-ready}
use Rattle.table_progress.proofs.StepsTaken.{step-refused, step-within-line, step-whole-line}
use Rattle.table_steps.proofs.step.Goals as goal

pub returns-then-not-is_ready : goal.returns-then-not-is_ready
returns-then-not-is_ready c =
    let args = c.args in
    let b = lent args.line.now args.defaults.now args.plan.now args.table.now args.out.now in
    step-refused args.tool args.progress b args.input.now refl (sym c.is_ready.ensures ∙ c.if-not-is_ready.true)

pub slice_bounds-hold-end : goal.slice_bounds-hold-end
slice_bounds-hold-end c =
    let input = c.args.input.now in
    sym (length-take-le c.find-end.result input (omega (arith, c.find-end.ensures, found_inside 10 input 0 (omega arith))))

pub overflow_add-result : goal.overflow_add-result
overflow_add-result c = omega (arith, c.find-end.ensures, found_inside 10 c.args.input.now 0 (omega arith))

pub hold-held-requires : goal.hold-held-requires
hold-held-requires c =
    let args = c.args in
    let b = lent args.line.now args.defaults.now args.plan.now args.table.now args.out.now in
    let room = is-ready args.progress b (sym c.is_ready.ensures ∙ c.if-not-is_ready.false) in
    record { in_bounds = room.line; held_bound = room.held }

pub slice_bounds-end_line-end : goal.slice_bounds-end_line-end
slice_bounds-end_line-end c =
    let args = c.args in
    let b = lent args.line.now args.defaults.now args.plan.now args.table.now args.out.now in
    let room = is-ready args.progress b (sym c.is_ready.ensures ∙ c.if-not-is_ready.false) in
    let holding = c.hold-held.ensures in
    omega (arith, room.line, held_at_most args.progress.held args.line.now _ (holding.value, holding.line_after))

pub returns-then-end-input : goal.returns-then-end-input
returns-then-end-input c =
    let found = c.find-end in
    let args = c.args in
    let b = lent args.line.now args.defaults.now args.plan.now args.table.now args.out.now in
    step-within-line args.tool args.progress b args.input.now (sym c.is_ready.ensures ∙ c.if-not-is_ready.false) found.result found.ensures
    (c.hold-held.ensures.value, c.hold-held.ensures.line_after) c.if-end-input.true

pub end_line-done-requires : goal.end_line-done-requires
end_line-done-requires c =
    let args = c.args in
    let b = lent args.line.now args.defaults.now args.plan.now args.table.now args.out.now in
    let room = is-ready args.progress b (sym c.is_ready.ensures ∙ c.if-not-is_ready.false) in
    record {
      in_bounds = room.defaults;
      kept_bound = room.kept;
      number_bound = room.number;
      plan_length_in_bounds = room.plan;
      in_bounds_2 = room.table;
      in_bounds_3 = omega (arith, room.out);
    }

pub returns : goal.returns
returns c =
    let found = c.find-end in
    let done = c.end_line-done.ensures in
    let args = c.args in
    let b = lent args.line.now args.defaults.now args.plan.now args.table.now args.out.now in
    step-whole-line args.tool args.progress b args.input.now (sym c.is_ready.ensures ∙ c.if-not-is_ready.false) found.result found.ensures
    (c.hold-held.ensures.value, c.hold-held.ensures.line_after) c.if-end-input.false
    (done.progress_value, (done.wrote, (done.defaults_after, (done.plan_after, done.table_after))))
