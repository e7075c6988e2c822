-- `put` answers a refusal with the constant 0.
use Rattle.std.proofs.Common.{rules}
use Rattle.chain.specs.Chain.{row}
use Rattle.otterchime.proofs.chains.put.Goals as goal

pub returns-in-Err : goal.returns-in-Err
unfolding row
returns-in-Err c = search rules
