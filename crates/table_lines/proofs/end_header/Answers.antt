-- `end_header` takes the header line, or ends the run.
use mathlib.Core.Path.{sym, ◌∙◌}
use Rattle.table_progress.proofs.LinesEnded.{header_taken, header_refused}
use Rattle.table_lines.proofs.end_header.Goals as goal

pub returns-then-not-is_header : goal.returns-then-not-is_header
returns-then-not-is_header c =
    let args = c.args in
    let so =
    header_refused args.line.now args.out.now (sym c.is_header.ensures ∙ c.if-not-is_header.true)
    c.ended.ensures c.print_bad_header.ensures in
    record { progress_value = so.0; wrote = so.1 }

pub returns : goal.returns
returns c =
    let args = c.args in
    let so = header_taken args.line.now args.out.now (sym c.is_header.ensures ∙ c.if-not-is_header.false) in
    record { progress_value = rw c.ended-2.ensures so.0; wrote = so.1 }
