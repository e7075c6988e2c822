-- `print_job` goes by the line's judgement.
use mathlib.Core.Path.{refl}
use Rattle.std.proofs.Common.{Err}
use Rattle.table_jobs.specs.Placed.{placed_job_line}
use Rattle.table_progress.proofs.Jobs.{line_refused}
use Rattle.table_jobs.proofs.print_job.Goals as goal

pub returns-in-Err : goal.returns-in-Err
returns-in-Err c =
    let start = c.args in
    rw c.in-Err.is (line_refused start.tool start.n (placed_job_line (Err c.in-Err.place)) start.formula.now start.plan.now start.table.now start.out.now refl c.write_no_line.ensures)

pub returns-in-Ok : goal.returns-in-Ok
returns-in-Ok c = rw c.in-Ok.is c.print_taken.ensures
