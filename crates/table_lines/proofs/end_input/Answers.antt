-- `end_input` prints a refusal where the header or the defaults line is still awaited.
use Rattle.std.proofs.Common.{inl, inr}
use Rattle.table_progress.proofs.LinesEnded.{end_header, end-defaults, end_job, end-nothing}
use Rattle.table_lines.proofs.end_input.Goals as goal

pub returns-in-Header : goal.returns-in-Header
returns-in-Header c =
    let args = c.args in
    end_header args.out.now c.in-Header.is c.print_bad_header.ensures

pub returns-in-Defaults : goal.returns-in-Defaults
returns-in-Defaults c =
    let args = c.args in
    end-defaults args.out.now c.in-Defaults.is c.print_bad_line.ensures

pub returns-in-Job : goal.returns-in-Job
returns-in-Job c = elim c.in-Job.is [ inl job ↦ end_job c.args.out.now job | inr nothing ↦ end-nothing c.args.out.now nothing ]
