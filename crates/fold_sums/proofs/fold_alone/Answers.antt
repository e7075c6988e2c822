-- `fold_alone` leaves the operand of + as it stands.
use Rattle.fold_operands.proofs.Leaving.{operand-left}
use Rattle.fold_sums.proofs.fold_alone.Goals as goal

pub returns-in-Sum : goal.returns-in-Sum
returns-in-Sum c = rw c.in-Sum.is (λ s a o. operand-left o)
