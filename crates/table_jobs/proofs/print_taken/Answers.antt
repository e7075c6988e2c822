-- `print_taken` goes by what compiling answers, and then prints the plan.
use mathlib.Core.Path.{refl}
use native.Mathlib.Omega.{arith}
use lib.Seq.{length-take-le}
use Rattle.std.proofs.Common.{Ok}
use Rattle.formula.proofs.Refused.{refused-some}
use Rattle.table.specs.Judged.{as_job_line}
use Rattle.table_progress.proofs.Jobs.{formula_refused, formula_sound, formula_texts, formula_printed}
use Rattle.table_jobs.proofs.print_taken.Goals as goal

pub returns-in-Err : goal.returns-in-Err
returns-in-Err c =
    let start = c.args in
    formula_refused start.tool start.n (as_job_line (Ok start.job)) start.formula.now start.plan.now start.table.now start.out.now
    refl c.requires.plan_len c.in-Err.ensures (refused-some c.in-Err.refusal) (rw (c.number.ensures, c.place.ensures) at c.write_no_line.ensures)

pub print_plan-requires : goal.print_plan-requires
print_plan-requires c = let start = c.args in record {
  plan_value = formula_sound start.tool start.n (as_job_line (Ok start.job)) start.formula.now start.plan.now start.table.now start.out.now
      c.requires.plan_len c.in_default.ensures refl;
  texts_within = formula_texts start.tool start.n (as_job_line (Ok start.job)) start.formula.now start.plan.now start.table.now start.out.now
      c.requires.plan_len c.in_default.ensures refl;
  table_len_bound = omega (arith, length-take-le start.job.count start.table.now (omega arith));
  in_bounds = omega arith;
}

pub returns : goal.returns
returns c =
    let start = c.args in
    formula_printed start.tool start.n (as_job_line (Ok start.job)) start.formula.now start.plan.now start.table.now start.out.now
    c.requires.plan_len c.in_default.ensures refl refl c.requires.count_in_bounds c.print_plan.ensures
