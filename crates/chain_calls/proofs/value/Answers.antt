-- `value` answers the first word.
use Rattle.std.proofs.Common.{arith, le-ltb}
use Rattle.chain.proofs.Calls.{kept-first}
use Rattle.chain_calls.proofs.value.Goals as goal

pub returns : goal.returns
returns c = let f = c.args.f in rw (le-ltb 16 f.length (omega arith), kept-first f.elements f.length)
