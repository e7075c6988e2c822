-- `is_sound` judges word 0, the rows that it counts, and the words after them.
use Rattle.std.proofs.Common.{sym, ap, ◌∙◌, arith}
use borrow.Author.Tests.{le-leb, lt-leb}
use Rattle.plan.specs.Measures.{plan_length, most_rows, row_start}
use Rattle.plan.specs.Row.{all_zero}
use Rattle.plan.specs.Plan.{row_count, sound}
use Rattle.plan.proofs.RowLaws.{part, slice-part}
use Rattle.plan_sound.proofs.is_sound.Goals.{then-count-eq0-via-then-count-eq0, then-count-eq0-via-else-count-eq0+then-count-gt-MOST_ROWS}
use Rattle.plan_sound.proofs.is_sound.Goals as goal

pub returns-then-count-eq0 : goal.returns-then-count-eq0
unfolding sound
returns-then-count-eq0 c =
    let plan = c.args.plan.now in
    elim c.then-count-eq0.branch [
      | then-count-eq0-via-then-count-eq0 w ↦ rw w.if-count-eq0.true
      | then-count-eq0-via-else-count-eq0+then-count-gt-MOST_ROWS w ↦ rw (le-leb 1 (row_count plan) (omega arith), lt-leb (row_count plan) most_rows (omega arith))
    ]

pub returns-then-rows_are_sound : goal.returns-then-rows_are_sound
unfolding sound
returns-then-rows_are_sound c =
    let plan = c.args.plan.now in
    rw (
      le-leb 1 (row_count plan) (omega arith),
      le-leb (row_count plan) most_rows (omega arith),
      sym c.rows_are_sound.ensures ∙ c.if-rows_are_sound.true,
    ) (c.all_zero.ensures ∙ ap (λ at. all_zero (part at plan_length plan)) c.start-end.ensures
    ∙ ap all_zero (sym (slice-part (row_start (row_count plan)) plan_length plan)))

pub returns-else-rows_are_sound : goal.returns-else-rows_are_sound
unfolding sound
returns-else-rows_are_sound c =
    let plan = c.args.plan.now in
    rw (
      le-leb 1 (row_count plan) (omega arith),
      le-leb (row_count plan) most_rows (omega arith),
      sym c.rows_are_sound.ensures ∙ c.if-rows_are_sound.false,
      c.if-rows_are_sound.false,
    )
