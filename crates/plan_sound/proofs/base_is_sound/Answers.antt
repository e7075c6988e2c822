-- `base_is_sound` judges the base of a raise, which is an earlier row, and lets other rows pass.
use Rattle.std.proofs.Common.{sym, ap, ◌∙◌}
use Rattle.plan.specs.Row.{odd_constant}
use Rattle.plan.proofs.SoundLaws.{raise-sound}
use Rattle.plan_sound.proofs.base_is_sound.Goals as goal

pub returns-else-words-ne-RAISE : goal.returns-else-words-ne-RAISE
returns-else-words-ne-RAISE c =
    let args = c.args in
    c.odd_constant.ensures
    ∙ ap odd_constant c.row.ensures.result_value
    ∙ sym (raise-sound args.plan.now args.r c.row-words.ensures.result_value c.requires.r_value c.if-words-ne-RAISE.false)
