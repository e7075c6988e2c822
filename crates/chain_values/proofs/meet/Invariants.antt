-- `meet` is one pass in place, from the top down. Invariant: the words above the place are new, the others old.
use Rattle.std.proofs.Common.{◌≡◌}
use Rattle.chain_arrays.specs.Operations.{worked}
use Rattle.chain_values.proofs.Passing.{meeting}
use Rattle.chain_values.proofs.meet.Given as goal

abbrev pub invariant-loop-i : goal.invariant-loop-i
invariant-loop-i g l = l.part ≡ meeting (worked g.O.Operation.operation) l.i l.initial.part
