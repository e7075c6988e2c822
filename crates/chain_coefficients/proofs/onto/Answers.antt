-- `onto` reads the table, whose every entry is m! * S(j, m).
use Rattle.std.proofs.Common.{arith}
use Rattle.chain.proofs.OntoTable.{table, table_entry}
use Rattle.chain_coefficients.proofs.onto.Goals as goal

pub returns : goal.returns
unfolding table
returns c = table_entry c.args.j c.args.m (omega arith) (omega arith)
