-- `write_point` writes the index, the value behind a tab, and the end of the line.
use Rattle.std.proofs.Common.{arith}
use Rattle.table.proofs.Digits.{word-digits}
use Rattle.table_fields.proofs.Joining.{both_written}
use Rattle.table_job_lines.proofs.write_point.Goals as goal

pub decimal-requires : goal.decimal-requires
decimal-requires c = omega (arith, word-digits c.args.index (omega arith))

pub write_field-requires : goal.write_field-requires
write_field-requires c = omega (arith, word-digits c.args.index (omega arith))

pub byte-requires : goal.byte-requires
byte-requires c = omega (arith, word-digits c.args.index (omega arith))

pub returns : goal.returns
returns c = record {
  wrote = both_written (omega arith) (both_written (omega arith) c.decimal.ensures c.write_field.ensures.wrote) c.byte.ensures;
  upper_bound = omega (arith, word-digits c.args.index (omega arith));
}
