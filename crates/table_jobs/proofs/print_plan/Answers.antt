-- `print_plan` writes the job's line, and behind it the points or the rows.
use Rattle.std.proofs.Common.{◌≡◌, ℕ, List, Result, Ok, Err, refl, ap, ◌∙◌}
use Rattle.std.specs.Result.{result_unwrap_or}
use native.Mathlib.Omega.{arith}
use Rattle.plan.specs.declared.Refusal.{Refusal}
use Rattle.plan.specs.Plan.{cost, refusal}
use Rattle.plan.specs.Answers.{CostAnswer, as_cost_answer}
use Rattle.plan.specs.Filling.{cost_answer}
use Rattle.plan.proofs.Accepting.{accepted}
use Rattle.table_progress.proofs.AllPoints.{plan-printed}
use Rattle.table_jobs.proofs.print_plan.Goals as goal

as_told : (r : Result ℕ Refusal) → result_unwrap_or r 0 ≡ (as_cost_answer r).cost
as_told (Ok n) = refl
as_told (Err e) = refl

-- A plan that is not refused has its cost.
cost_told : (p : List ℕ) (r : Result ℕ Refusal) {n : ℕ} → refusal p ≡ 0 → as_cost_answer r ≡ cost_answer p → n ≡ result_unwrap_or r 0 → n ≡ cost p
cost_told p r none told read = read ∙ as_told r ∙ ap (λ (a : CostAnswer). a.cost) told ∙ rw none

pub bounds-plan-0 : goal.bounds-plan-0
bounds-plan-0 c =
    omega (arith, (accepted c.args.plan.now c.requires.plan_value).0)

pub write_job_line-at-requires : goal.write_job_line-at-requires
write_job_line-at-requires c = omega arith

pub print_points-requires : goal.print_points-requires
print_points-requires c = record { plan_value = c.requires.plan_value; table_len_bound = omega arith; table_in_bounds = omega arith }

pub write_rows-requires : goal.write_rows-requires
write_rows-requires c = record { plan_value = c.requires.plan_value; texts_within = c.requires.texts_within; most_rows_in_bounds = omega arith }

pub returns-in-Tables : goal.returns-in-Tables
returns-in-Tables c =
    plan-printed c.args.n c.args.formula.now c.args.plan.now c.args.table.now
    (cost_told c.args.plan.now c.cost.result c.requires.plan_value c.cost.ensures c.unwrap_or-cost.ensures) c.write_job_line-at.ensures.wrote c.in-Tables.is
    c.print_points.ensures.wrote c.print_points.ensures.plan_after c.print_points.ensures.table_after

pub returns-in-Reasons : goal.returns-in-Reasons
returns-in-Reasons c =
    plan-printed c.args.n c.args.formula.now c.args.plan.now c.args.table.now
    (cost_told c.args.plan.now c.cost.result c.requires.plan_value c.cost.ensures c.unwrap_or-cost.ensures) c.write_job_line-at.ensures.wrote c.in-Reasons.is c.write_rows.ensures refl refl
