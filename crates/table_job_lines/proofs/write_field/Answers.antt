-- `write_field` writes a tab and then the digits.
use Rattle.std.proofs.Common.{arith}
use Rattle.table.proofs.Digits.{word-digits}
use Rattle.table_fields.proofs.Joining.{both_written}
use Rattle.table_job_lines.proofs.write_field.Goals as goal

pub decimal-requires : goal.decimal-requires
decimal-requires c = omega (arith, word-digits c.args.n (omega arith))

pub returns : goal.returns
returns c = record {
  wrote = both_written (omega arith) c.byte.ensures c.decimal.ensures;
  upper_bound = omega (arith, word-digits c.args.n (omega arith));
}
