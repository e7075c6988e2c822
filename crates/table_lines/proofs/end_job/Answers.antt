-- `end_job` judges the line, picks its formula, and prints the job in the plan's own words and the table's first 4,096.
use mathlib.Core.Path.{refl, ◌∙◌}
use native.Mathlib.Omega.{arith}
use lib.Seq.{length-take-le}
use Rattle.plan.specs.Measures.{plan_length}
use Rattle.table_progress.proofs.LinesEnded.{few-points, job_ended}
use Rattle.table_lines.proofs.end_job.Goals as goal

pub print_job-wrote-requires : goal.print_job-wrote-requires
print_job-wrote-requires c = let args = c.args in
    let table = length-take-le 4096 args.table.now (omega arith) in
    let few = few-points args.line.now args.defaults.now (c.by_place.ensures ∙ c.judge_job.ensures) in record {
      plan_len = length-take-le plan_length args.plan.now (omega arith);
      count_in_bounds = omega (arith, table, few);
      table_len_bound = omega (arith, table);
      in_bounds = omega arith;
    }

pub returns : goal.returns
returns c =
    let args = c.args in
    let so =
    job_ended args.tool args.progress.number args.line.now args.defaults.now args.plan.now args.table.now args.out.now (omega arith)
    (c.by_place.ensures ∙ c.judge_job.ensures) c.pick.ensures c.print_job-wrote.ensures in
    record { progress_value = refl; wrote = so.0; plan_after = so.1.0; table_after = so.1.1 }
