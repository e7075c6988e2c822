-- `judge_empty` looks at each field. Invariant: no field passed is empty.
use Rattle.std.proofs.Common.{◌+◌}
use Rattle.table.proofs.PartsJudged.{NoneEmpty}
use Rattle.table_line_checks.proofs.judge_empty.Given as goal

abbrev pub invariant-loop-i : goal.invariant-loop-i
invariant-loop-i l = NoneEmpty l.line (l.i + 1)
