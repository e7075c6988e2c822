-- `write_numbers` writes three fields and the end of the line.
use Rattle.std.proofs.Common.{arith}
use Rattle.table_fields.proofs.Joining.{both_written}
use Rattle.table_job_lines.proofs.write_numbers.Goals as goal

pub returns-clause-wrote : goal.returns-clause-wrote
returns-clause-wrote c =
    both_written (omega arith)
    (both_written (omega arith) (both_written (omega arith) c.write_field.ensures.wrote c.write_field-2.ensures.wrote) c.write_field-3.ensures.wrote)
    c.byte.ensures
