-- `shift_from_top` shifts in place, from the top down. Invariant: the words above the place are new, the others old.
use Rattle.std.proofs.Common.{◌≡◌, ◌-◌}
use Rattle.chain.proofs.Shifting.{unturned}
use Rattle.chain_arrays.specs.Operations.{worked}
use Rattle.chain_arrays.proofs.shift_from_top.Given as goal

abbrev pub invariant-loop-i : goal.invariant-loop-i
invariant-loop-i g l = l.f ≡ unturned (worked g.O.Operation.operation) (l.i - 1) l.initial.f
