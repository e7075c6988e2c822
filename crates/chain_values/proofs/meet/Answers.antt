use Rattle.std.proofs.Common.{◌-◌, ap, ◌∙◌, arith}
use Rattle.chain_arrays.specs.Operations.{worked}
use Rattle.chain_values.proofs.Passing.{meeting, meeting-none, meeting-all, meet_turn}
use Rattle.chain_values.proofs.meet.Goals as goal

pub loop-i-init : goal.loop-i-init
loop-i-init g c = meeting-none (worked g.O.Operation.operation) c.args.part.now

pub loop-i-preserved : goal.loop-i-preserved
loop-i-preserved g c =
    let operation = worked g.O.Operation.operation in
    let turn = c.loop-i in
    let f = c.args.part.now in
    meet_turn operation (turn.i - 1 - 1) f (omega arith) (omega arith) (turn.invariant ∙ ap (λ k. meeting operation k f) (omega arith)) c.worked.ensures

pub returns : goal.returns
returns g c =
    let turn = c.loop-i in
    turn.invariant ∙ meeting-all (worked g.O.Operation.operation) turn.i c.args.part.now (omega arith)
