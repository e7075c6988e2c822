use Rattle.std.proofs.Common.{refl, ap, ◌∙◌, arith}
use Rattle.plan.specs.Plan.{rows_from}
use Rattle.plan.specs.Points.{row_value, values_from}
use Rattle.plan.proofs.SoundLaws.{sound-count, row_facts}
use Rattle.plan.proofs.Later.{values_store, root_stored}
use Rattle.plan_points.proofs.root_value.Goals as goal

pub loop-r-init : goal.loop-r-init
unfolding rows_from values_from
loop-r-init c = (refl, (sound-count c.args.plan.now c.requires.plan_value).1)

pub row_value-requires : goal.row_value-requires
row_value-requires c =
    let facts = row_facts c.args.plan.now c.loop-r.r (omega arith) c.requires.plan_value (omega arith) c.row.ensures.result_value in
    record { row_len = facts.words; row_in_bounds = omega (arith, facts.a_few); row_in_bounds_2 = omega (arith, facts.b_few) }

pub loop-r-preserved : goal.loop-r-preserved
loop-r-preserved c =
    let values = c.loop-r.values in (
      values_store 64 c.loop-r.r c.args.plan.now values c.requires.plan_value (omega arith) (omega arith) c.loop-r.invariant.0
          (c.row_value.ensures ∙ ap (row_value 64 values) c.row.ensures.result_value),
      c.loop-r.invariant.1,
    )

pub overflow_sub-result : goal.overflow_sub-result
overflow_sub-result c = omega (arith, sound-count c.args.plan.now c.requires.plan_value)

pub returns : goal.returns
returns c = root_stored 64 c.loop-r.r c.args.plan.now c.loop-r.values (sound-count c.args.plan.now c.requires.plan_value).0 (omega arith) c.loop-r.invariant.0
