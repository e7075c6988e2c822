-- `fill_eras` refuses, or fills as many points as room and budget allow and answers the crossings over them, by the plan among the words that are lent.
use Rattle.std.proofs.Common.{◌++◌, drop, sym, ap, ◌∙◌}
use Rattle.std.proofs.lemmas.Result.{err_from_is_err_and}
use Rattle.plan.specs.declared.Refusal.TheVariants.{TooShort}
use Rattle.plan.specs.Measures.{plan_length}
use Rattle.plan.proofs.Accepting.{accepted, fill_done}
use Rattle.plan.proofs.Counting.{eras_counted}
use Rattle.plan.proofs.EraLaws.{eras_accepted, eras_short, eras_refuses, eras_done, lent_fill_eras}
use Rattle.plan_eras.proofs.fill_eras.Goals as goal

pub returns-in_default : goal.returns-in_default
returns-in_default c =
    let args = c.args in
    let told = eras_refuses args.plan.now args.table.now args.budget TooShort (eras_short args.plan.now c.in_default.ensures.cases) in
    record { value = told.0; table_after = told.1; plan_after = told.2 }

pub returns-in_err-eras_refusal : goal.returns-in_err-eras_refusal
returns-in_err-eras_refusal c =
    let args = c.args in
    let whole = c.in-Some.ensures.cases in
    let refused = err_from_is_err_and c.from_residual.result c.from_residual.ensures.1 in
    let told = eras_refuses c.in-Some.words.now args.table.now args.budget _ c.in_err-eras_refusal.ensures in
    let alike = lent_fill_eras 64 args.plan.now args.table.now args.budget whole.enough whole.same in
    record {
      value = rw (refused.1, refused.2) told.0 ∙ alike.0;
      table_after = told.1 ∙ alike.1;
      plan_after = ap (λ q. q ++ drop plan_length args.plan.now) told.2 ∙ alike.2;
    }

pub fill_sound-requires : goal.fill_sound-requires
fill_sound-requires c = (accepted c.in-Some.words.now (eras_accepted c.in-Some.words.now (sym c.in_ok-eras_refusal.ensures)).0).1

pub returns : goal.returns
returns c =
    let args = c.args in
    let words = c.in-Some.words.now in
    let whole = c.in-Some.ensures.cases in
    let good = sym c.in_ok-eras_refusal.ensures in
    let filled = c.fill_sound.ensures in
    let counted = c.fill_sound.result in
    let done =
    eras_done words args.table.now args.budget good
    (fill_done words args.table.now args.budget (eras_accepted words good).0 filled.points filled.spent filled.table_after filled.plan_after)
    (filled.sum ∙ sym (eras_counted 64 counted.points words)) in
    let alike = lent_fill_eras 64 args.plan.now args.table.now args.budget whole.enough whole.same in
    record {
      value = done.0 ∙ alike.0;
      table_after = done.1 ∙ alike.1;
      plan_after = ap (λ q. q ++ drop plan_length args.plan.now) done.2 ∙ alike.2;
    }
