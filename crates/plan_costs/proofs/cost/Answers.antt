-- `cost` answers the refusal, or the cost of the plan among the words that are lent.
use Rattle.std.proofs.Common.{ap, ◌∙◌}
use Rattle.std.proofs.lemmas.Result.{err_from_is_err_and}
use Rattle.plan.specs.Filling.{cost_answer}
use Rattle.plan.proofs.Accepting.{accepted, found_sound, cost_refused, cost-accepted, lent_cost_answer}
use Rattle.plan_costs.proofs.cost.Goals as goal

pub returns-in_err-sound : goal.returns-in_err-sound
returns-in_err-sound c =
    let whole = c.in-Some.ensures.cases in
    let refused = err_from_is_err_and c.from_residual.result c.from_residual.ensures.1 in
    rw (refused.1, refused.2)
    (cost_refused c.in-Some.words.now _ c.in_err-sound.ensures ∙ ap cost_answer whole.same ∙ lent_cost_answer c.args.plan.now whole.enough)

pub plan_cost-requires : goal.plan_cost-requires
plan_cost-requires c =
    let fine = accepted c.in-Some.words.now (found_sound c.in-Some.words.now c.in_ok-sound.ensures) in
    record { plan_length_in_bounds = fine.0; plan_value = fine.1 }

pub returns : goal.returns
returns c =
    let words = c.in-Some.words.now in
    let whole = c.in-Some.ensures.cases in
    cost-accepted words (found_sound words c.in_ok-sound.ensures) c.plan_cost.ensures.value
    ∙ ap cost_answer whole.same
    ∙ lent_cost_answer c.args.plan.now whole.enough
