-- `is_header` is the library's test of the two texts.
use Rattle.std.proofs.Common.{ap, ◌∙◌}
use lib.Dec.{eqb}
use lib.Pointwise.{pointwise}
use Rattle.table.specs.Judged.{header_line}
use Rattle.table.proofs.PartsJudged.{same_pointwise}
use Rattle.table_line_checks.proofs.is_header.Goals as goal

pub returns : goal.returns
returns c =
    c.eq.ensures ∙ ap (pointwise eqb c.args.line.now) c.as_slice.ensures ∙ same_pointwise c.args.line.now header_line
