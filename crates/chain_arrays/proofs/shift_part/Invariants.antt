-- `shift_part` shifts in place, from the bottom up. Invariant: the words below the place are new, the others old.
use Rattle.std.proofs.Common.{◌≡◌, ◌-◌}
use Rattle.chain_arrays.specs.Operations.{joining}
use Rattle.chain.proofs.Shifting.{turned}
use Rattle.chain_arrays.proofs.shift_part.Given as goal

abbrev pub invariant-loop-i : goal.invariant-loop-i
invariant-loop-i g l = l.f ≡ turned (joining g.O.Operation.operation) 64 (l.i - 1) l.initial.f
