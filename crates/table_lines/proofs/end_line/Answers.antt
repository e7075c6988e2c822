-- `end_line` goes by the line that was awaited.
use mathlib.Core.Path.{◌∙◌}
use Rattle.table_progress.proofs.LinesEnded.{ended_header, ended-defaults, ended_job, ended-nothing}
use Rattle.table_lines.proofs.end_line.Goals as goal

pub returns-in-Header : goal.returns-in-Header
returns-in-Header c =
    let args = c.args in
    let done = c.end_header.ensures in
    let so = ended_header args.tool args.progress args.line.now args.defaults.now args.plan.now args.table.now args.out.now c.in-Header.is (done.progress_value, done.wrote) in
    record { progress_value = so.0; wrote = so.1.0; defaults_after = so.1.1.0; plan_after = so.1.1.1.0; table_after = so.1.1.1.1 }

pub returns-in-Defaults : goal.returns-in-Defaults
returns-in-Defaults c =
    let args = c.args in
    let done = c.end_defaults.ensures in
    let so = ended-defaults args.tool args.progress args.line.now args.defaults.now args.plan.now args.table.now args.out.now c.in-Defaults.is (done.progress_value, (done.wrote, done.defaults_after)) in
    record { progress_value = so.0; wrote = so.1.0; defaults_after = so.1.1.0; plan_after = so.1.1.1.0; table_after = so.1.1.1.1 }

pub returns-in-Job : goal.returns-in-Job
returns-in-Job c =
    let args = c.args in
    let done = c.end_job.ensures in
    let so = ended_job args.tool args.progress args.line.now args.defaults.now args.plan.now args.table.now args.out.now c.in-Job.is (done.wrote, (done.plan_after, done.table_after)) in
    record { progress_value = done.progress_value ∙ so.0; wrote = so.1.0; defaults_after = so.1.1.0; plan_after = so.1.1.1.0; table_after = so.1.1.1.1 }

pub returns-in-Nothing : goal.returns-in-Nothing
returns-in-Nothing c =
    let args = c.args in
    let so = ended-nothing args.tool args.progress args.line.now args.defaults.now args.plan.now args.table.now args.out.now c.in-Nothing.is c.ended.ensures in
    record { progress_value = so.0; wrote = so.1.0; defaults_after = so.1.1.0; plan_after = so.1.1.1.0; table_after = so.1.1.1.1 }
