-- `row_is_sound` judges row r: the table first, then the base of a raise, then the span.
use Rattle.std.proofs.Common.{sym, ap, ◌∙◌}
use Rattle.plan.specs.Row.{keeps_table, sound_span}
use Rattle.plan.proofs.SoundLaws.{table_broken, base_broken, span_left}
use Rattle.plan_sound.proofs.row_is_sound.Goals as goal

pub returns-then-not-keeps_table : goal.returns-then-not-keeps_table
returns-then-not-keeps_table c =
    let args = c.args in
    sym (table_broken args.plan.now args.r
    (ap (keeps_table args.r) (sym c.row-words.ensures.result_value) ∙ sym c.keeps_table.ensures ∙ c.if-not-keeps_table.true))

pub returns-then-base_is_sound : goal.returns-then-base_is_sound
returns-then-base_is_sound c =
    let args = c.args in
    c.span_is_sound.ensures
    ∙ ap sound_span c.row-words.ensures.result_value
    ∙ sym (span_left args.plan.now args.r
    (ap (keeps_table args.r) (sym c.row-words.ensures.result_value) ∙ sym c.keeps_table.ensures ∙ c.if-not-keeps_table.false)
    (sym c.base_is_sound.ensures ∙ c.if-base_is_sound.true))

pub returns-else-base_is_sound : goal.returns-else-base_is_sound
returns-else-base_is_sound c =
    let args = c.args in
    c.if-base_is_sound.false
    ∙ sym (base_broken args.plan.now args.r
    (ap (keeps_table args.r) (sym c.row-words.ensures.result_value) ∙ sym c.keeps_table.ensures ∙ c.if-not-keeps_table.false)
    (sym c.base_is_sound.ensures ∙ c.if-base_is_sound.false))
