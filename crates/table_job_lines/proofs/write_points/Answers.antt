use Rattle.std.proofs.Common.{arith}
use Rattle.table_fields.proofs.Joining.{none_written}
use Rattle.table.specs.Lines.{point_lines}
use Rattle.table_progress.proofs.PointLines.{point_next}
use Rattle.table_job_lines.proofs.write_points.Goals as goal

pub loop-i-init : goal.loop-i-init
unfolding point_lines
loop-i-init c = record { room = omega arith; written = none_written _ }

pub loop-i-preserved : goal.loop-i-preserved
loop-i-preserved c = record {
  room = omega arith;
  written = point_next c.args.table.now c.loop-i.i (omega arith) (omega arith) c.loop-i.invariant.written c.write_point.ensures.wrote;
}
