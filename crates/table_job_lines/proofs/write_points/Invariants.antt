-- `write_points` writes one line after the other. Invariant: the lines of the first i words stand in the buffer, 42 bytes each at most.
use Rattle.std.proofs.Common.{◌+◌, ◌*◌, ◌≤◌, take}
use Rattle.table_fields.specs.Writer.{Writes}
use Rattle.table.specs.Lines.{point_lines}
use Rattle.table_job_lines.proofs.write_points.Given as goal

abbrev pub invariant-loop-i : goal.invariant-loop-i
invariant-loop-i l = record {
  room : l.writer.at ≤ l.initial.writer.at + 42 * l.i;
  written : Writes l.initial.writer (point_lines 0 (take l.i l.table)) l.writer;
}
