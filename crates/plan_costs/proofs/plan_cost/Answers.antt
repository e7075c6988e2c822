use Rattle.plan.proofs.SoundLaws.{sound-count, row_facts}
use mathlib.Core.Path.{◌≡◌, refl, ap, ap₂, ◌∙◌}
use Prim.Native.Nat.{◌+◌}
use native.Mathlib.Omega.{arith}
use Rattle.plan.specs.Plan.{row_count, rows_from, first_rows, cost_of}
use Rattle.plan.specs.Row.{row_cost}
use Rattle.plan.proofs.RowLaws.{cost-next}
use Rattle.plan_costs.proofs.plan_cost.Goals as goal

pub loop-r-init : goal.loop-r-init
unfolding rows_from cost_of
loop-r-init c = (omega arith, omega arith, refl, (sound-count c.args.plan.now c.requires.plan_value).1)

pub row_cost-total-requires : goal.row_cost-total-requires
row_cost-total-requires c = let facts = row_facts c.args.plan.now (c.loop-r.r) c.requires.plan_length_in_bounds c.requires.plan_value (omega arith) c.row.ensures.result_value in record { row_len = facts.words; row_bound = facts.known; bound = facts.exponent }

pub overflow_add-total : goal.overflow_add-total
overflow_add-total c =
    omega (
      arith,
      c.row_cost-total.ensures,
      (row_facts c.args.plan.now c.loop-r.r c.requires.plan_length_in_bounds c.requires.plan_value (omega arith) c.row.ensures.result_value).cost,
    )

pub loop-r-preserved : goal.loop-r-preserved
loop-r-preserved c = let plan = c.args.plan.now in (omega arith, omega (arith, c.row_cost-total.ensures, (row_facts plan (c.loop-r.r) c.requires.plan_length_in_bounds c.requires.plan_value (omega arith) c.row.ensures.result_value).cost), ap₂ ◌+◌ c.loop-r.invariant.2 (c.row_cost-total.ensures ∙ ap (λ x. row_cost x) c.row.ensures.result_value) ∙ cost-next (c.loop-r.r) plan, omega arith)

pub returns : goal.returns
returns c = let plan = c.args.plan.now in
    let turn = c.loop-r in
    let same : turn.r ≡ row_count plan = omega arith in record { value = turn.invariant.2 ∙ ap (λ n. cost_of (first_rows n plan)) same; upper_bound = omega arith }
