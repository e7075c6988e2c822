-- `sound` judges the plan among the words that are lent.
use Rattle.std.proofs.Common.{sym, ap, ◌∙◌, length}
use borrow.Author.Tests.{le-ltb}
use Rattle.plan.specs.Measures.{plan_length}
use Rattle.plan.specs.Plan.{sound}
use Rattle.plan.proofs.Lent.{lent_sound}
use Rattle.plan_sound.proofs.sound.Goals as goal

pub returns-then-is_sound : goal.returns-then-is_sound
returns-then-is_sound c =
    let plan = c.args.plan.now in
    let whole = c.in-Some.ensures.cases in
    rw (le-ltb (length plan) plan_length whole.enough, sym (lent_sound plan) ∙ ap sound (sym whole.same) ∙ sym c.is_sound.ensures ∙ c.if-is_sound.true)

pub returns-else-is_sound : goal.returns-else-is_sound
returns-else-is_sound c =
    let plan = c.args.plan.now in
    let whole = c.in-Some.ensures.cases in
    rw (le-ltb (length plan) plan_length whole.enough, sym (lent_sound plan) ∙ ap sound (sym whole.same) ∙ sym c.is_sound.ensures ∙ c.if-is_sound.false)
