use Rattle.chain_arrays.specs.Operations.{worked}
use Rattle.chain_values.proofs.Passing.{passes_none, pass_turn}
use Rattle.chain_values.proofs.passes.Goals as goal

pub loop-j-init : goal.loop-j-init
loop-j-init g c = passes_none (worked g.O.Operation.operation) c.args.f.now

pub loop-j-preserved : goal.loop-j-preserved
loop-j-preserved g c =
    let turn = c.loop-j in
    pass_turn (worked g.O.Operation.operation) turn.j c.args.f.now c.requires turn.invariant c.meet.ensures
