-- `passes` makes 16 passes over 17 words. Invariant: j of them are made.
use Rattle.std.proofs.Common.{◌≡◌}
use Rattle.chain_arrays.specs.Operations.{worked}
use Rattle.chain_values.specs.Passes.{passes}
use Rattle.chain_values.proofs.passes.Given as goal

abbrev pub invariant-loop-j : goal.invariant-loop-j
invariant-loop-j g l = l.f ≡ passes (worked g.O.Operation.operation) l.j l.initial.f
