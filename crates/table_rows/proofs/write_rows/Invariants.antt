-- `write_rows` writes what one row prints after the other. Invariant: what the first r rows print stands in the buffer, 1,164 bytes each at most.
use Rattle.std.proofs.Common.{◌+◌, ◌*◌, ◌≤◌}
use Rattle.table_fields.specs.Writer.{Writes}
use Rattle.table_progress.specs.Printed.{rows_print}
use Rattle.table_rows.proofs.write_rows.Given as goal

abbrev pub invariant-loop-r : goal.invariant-loop-r
invariant-loop-r l = record {
  room : l.writer.at ≤ l.initial.writer.at + 1164 * l.r;
  written : Writes l.initial.writer (rows_print l.formula l.plan l.r) l.writer;
}
