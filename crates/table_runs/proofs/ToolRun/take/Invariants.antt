-- `take` takes steps while input is left: each one that is done uses a byte at least.
use Rattle.std.proofs.Common.{length}
use Rattle.table_runs.proofs.ToolRun.take.Given as goal

abbrev pub decreases-loop-left : goal.decreases-loop-left
decreases-loop-left g l = length l.left
