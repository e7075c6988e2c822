use Rattle.std.proofs.Common.{◌≡◌, ◌+◌, length, refl, ap, ◌∙◌, arith}
use Rattle.plan.specs.Plan.{row_count}
use Rattle.plan.proofs.SoundLaws.{sound-count, row_facts}
use Rattle.plan.proofs.Keeping.{shifted_to, none-shifted, all-shifted, length_to, waiting, step-put}
use Rattle.plan_points.proofs.shift_plan.Goals as goal

pub loop-r-init : goal.loop-r-init
loop-r-init c = (refl, none-shifted 64 c.args.plan.now, (sound-count c.args.plan.now c.requires.plan_value).1)

pub shift_row-requires : goal.shift_row-requires
shift_row-requires c =
    let plan = c.args.plan.now in
    let facts = row_facts plan c.loop-r.r c.requires.plan_length_in_bounds c.requires.plan_value (omega arith) (waiting 64 c.loop-r.r plan c.loop-r.invariant.1 c.start-at.ensures) in
    record { row_len = facts.words; row_bound = facts.a_few; row_bound_2 = facts.chain }

pub loop-r-preserved : goal.loop-r-preserved
loop-r-preserved c =
    let plan = c.args.plan.now in
    let next = step-put 64 c.loop-r.r plan c.loop-r.invariant.1 c.start-at.ensures c.shift_row.ensures in
    (ap length next ∙ length_to 64 (c.loop-r.r + 1) plan, next, c.loop-r.invariant.2)

pub returns : goal.returns
returns c =
    let plan = c.args.plan.now in
    let same : c.loop-r.r ≡ row_count plan = omega arith in
    c.loop-r.invariant.1 ∙ ap (λ n. shifted_to 64 n plan) same ∙ all-shifted 64 plan
