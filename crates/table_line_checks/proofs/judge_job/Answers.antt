-- `judge_job` judges the line's own shape, then the numbers that are picked.
use mathlib.Core.Path.{sym, ◌∙◌}
use Rattle.table.proofs.NumbersJudged.{job_misshapen, job_numbers}
use Rattle.table_line_checks.proofs.judge_job.Goals as goal

pub returns-then-is_misshapen : goal.returns-then-is_misshapen
returns-then-is_misshapen c =
    let args = c.args in
    job_misshapen args.line.now args.defaults.now (sym c.is_misshapen.ensures ∙ c.if-is_misshapen.true)

pub returns : goal.returns
returns c =
    let args = c.args in
    let shaped = sym c.is_misshapen.ensures ∙ c.if-is_misshapen.false in
    c.judge_numbers.ensures ∙ rw (c.pick-start.ensures, c.pick-step.ensures, c.pick-count.ensures)
    (job_numbers args.line.now args.defaults.now shaped)
