-- `write_numbers` writes `row` and four fields.
use Rattle.std.proofs.Common.{arith}
use Rattle.table_fields.proofs.Joining.{both_written}
use Rattle.table_row_lines.proofs.write_numbers.Goals as goal

pub returns-clause-wrote : goal.returns-clause-wrote
returns-clause-wrote c =
    both_written (omega arith)
    (both_written (omega arith)
    (both_written (omega arith) (both_written (omega arith) c.text.ensures c.write_field.ensures.wrote) c.write_field-2.ensures.wrote)
    c.write_field-3.ensures.wrote)
    c.write_field-4.ensures.wrote
