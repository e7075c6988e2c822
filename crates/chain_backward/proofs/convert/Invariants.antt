-- `convert` takes 16 turns over 17 words. Invariant: j - 1 of them are taken.
use Rattle.std.proofs.Common.{◌≡◌, ◌-◌}
use Rattle.chain_arrays.specs.Operations.{worked}
use Rattle.chain_backward.proofs.Turns.{underway}
use Rattle.chain_backward.proofs.convert.Given as goal

abbrev pub invariant-loop-j : goal.invariant-loop-j
invariant-loop-j g l = l.f ≡ underway (worked g.O.Operation.operation) (l.j - 1) l.initial.f
