use Rattle.std.proofs.Common.{refl, sym, ap, ap₂, ◌∙◌, set, arith, rules}
use Rattle.plan.specs.Plan.{sound}
use Rattle.plan.specs.Points.{root_value, shifted_plan}
use Rattle.plan.specs.Filling.{plan_after, point_values}
use Rattle.plan.proofs.Counting.{counted_over}
use Rattle.plan.proofs.Keeping.{sound-after}
use Rattle.plan.proofs.Sharing.{after_next, points_store}
use Rattle.plan.proofs.Counting.{counts_on, counted}
use Rattle.plan_points.proofs.write_points.Goals as goal

pub loop-word-init : goal.loop-word-init
unfolding plan_after point_values counted_over
loop-word-init g c = (refl, refl, refl)

pub root_value-requires : goal.root_value-requires
root_value-requires g c = record { plan_length_in_bounds = search rules; plan_value = ap sound c.loop-word.invariant.0 ∙ sound-after 64 c.loop-word.word-index c.args.plan.now ∙ c.requires }

pub count-sum-requires : goal.count-sum-requires
count-sum-requires g c = ap sound c.loop-word.invariant.0 ∙ sound-after 64 c.loop-word.word-index c.args.plan.now ∙ c.requires

pub shift_plan-requires : goal.shift_plan-requires
shift_plan-requires g c = record { plan_length_in_bounds = search rules; plan_value = ap sound c.loop-word.invariant.0 ∙ sound-after 64 c.loop-word.word-index c.args.plan.now ∙ c.requires }

pub overflow_add-sum : goal.overflow_add-sum
overflow_add-sum g c =
    let turn = c.loop-word in
    counts_on g.C.Count.counted (g.met.C.Count.at_most_one) turn.word-index c.args.plan.now turn.sum-bits c.count-sum.result (omega (arith, c.well_formed.1.0.1))
    turn.invariant.2 (record { sfits = c.count-sum.type_inv }) (c.count-sum.ensures ∙ ap g.C.Count.counted turn.invariant.0)

pub loop-word-preserved : goal.loop-word-preserved
loop-word-preserved g c =
    let turn = c.loop-word in
    let plan = c.args.plan.now in (
      c.shift_plan.ensures ∙ ap (shifted_plan 64) turn.invariant.0 ∙ sym (after_next 64 turn.word-index plan),
      ap₂ (λ l x. set l turn.word-index x) turn.invariant.1 (c.root_value.ensures ∙ ap (root_value 64) turn.invariant.0)
          ∙ points_store 64 turn.word-index plan c.args.table.now (omega arith),
      counted g.C.Count.counted (g.met.C.Count.at_most_one) turn.word-index plan turn.sum-bits c.count-sum.result (omega (arith, c.well_formed.1.0.1))
          turn.invariant.2 (record { sfits = c.count-sum.type_inv }) (c.count-sum.ensures ∙ ap g.C.Count.counted turn.invariant.0),
    )
