-- `write_line` writes the word and then the three numbers.
use Rattle.std.proofs.Common.{rules, arith}
use Rattle.table_fields.proofs.Joining.{joined}
use Rattle.table_job_lines.proofs.write_line.Goals as goal

pub returns-clause-wrote : goal.returns-clause-wrote
returns-clause-wrote c =
    let whole = joined (omega arith) c.text.ensures.wrote c.write_numbers.ensures.wrote.wrote in search rules
