-- `fill` refuses, or fills as many points as room and budget allow, by the plan among the words that are lent.
use Rattle.std.proofs.Common.{◌++◌, drop, ap, ◌∙◌}
use Rattle.std.proofs.lemmas.Result.{err_from_is_err_and}
use Rattle.plan.specs.declared.Refusal.TheVariants.{TooShort}
use Rattle.plan.specs.Measures.{plan_length}
use Rattle.plan.proofs.Accepting.{accepted, found_sound, too_short, fill_refuses, fill_done, lent_fill}
use Rattle.plan_fill.proofs.fill.Goals as goal

pub returns-in_default : goal.returns-in_default
returns-in_default c =
    let args = c.args in
    let told = fill_refuses args.plan.now args.table.now args.budget TooShort (too_short args.plan.now c.in_default.ensures.cases) in
    record { value = told.0; table_after = told.1; plan_after = told.2 }

pub returns-in_err-sound : goal.returns-in_err-sound
returns-in_err-sound c =
    let args = c.args in
    let whole = c.in-Some.ensures.cases in
    let refused = err_from_is_err_and c.from_residual.result c.from_residual.ensures.1 in
    let told = fill_refuses c.in-Some.words.now args.table.now args.budget _ c.in_err-sound.ensures in
    let alike = lent_fill 64 args.plan.now args.table.now args.budget whole.enough whole.same in
    record {
      value = rw (refused.1, refused.2) told.0 ∙ alike.0;
      table_after = told.1 ∙ alike.1;
      plan_after = ap (λ q. q ++ drop plan_length args.plan.now) told.2 ∙ alike.2;
    }

pub fill_sound-filled-requires : goal.fill_sound-filled-requires
fill_sound-filled-requires c = (accepted c.in-Some.words.now (found_sound c.in-Some.words.now c.in_ok-sound.ensures)).1

pub returns : goal.returns
returns c =
    let args = c.args in
    let words = c.in-Some.words.now in
    let whole = c.in-Some.ensures.cases in
    let filled = c.fill_sound-filled.ensures in
    let done = fill_done words args.table.now args.budget (found_sound words c.in_ok-sound.ensures) filled.points filled.spent filled.table_after filled.plan_after in
    let alike = lent_fill 64 args.plan.now args.table.now args.budget whole.enough whole.same in
    record {
      value = done.0 ∙ alike.0;
      table_after = done.1 ∙ alike.1;
      plan_after = ap (λ q. q ++ drop plan_length args.plan.now) done.2 ∙ alike.2;
    }
