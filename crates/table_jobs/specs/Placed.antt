-- A judged job line as it is handed to printing: a refusal by its place alone, which may be any.
use Rattle.std.specs.Prelude.{ℕ, Result, Ok, Err}
use Rattle.table.specs.Judged.{JobLine, as_job_line, job_refused}
use Rattle.table.specs.declared.Job.{Job}

abbrev pub placed_job_line : Result Job ℕ → JobLine
placed_job_line (Ok job) = as_job_line (Ok job)
placed_job_line (Err place) = job_refused place
