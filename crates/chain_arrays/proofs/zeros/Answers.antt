-- `zeros` is the row of no elements.
use Rattle.std.proofs.Common.{refl}
use Rattle.chain.specs.Chain.{row}
use Rattle.chain_arrays.proofs.zeros.Goals as goal

pub returns : goal.returns
unfolding row
returns c = refl
