use Rattle.std.proofs.Common.{◌-◌, ap, ◌∙◌, arith}
use Rattle.chain_arrays.specs.Operations.{worked}
use Rattle.chain_backward.proofs.Turns.{underway, underway_none, underway_all, underway_turn}
use Rattle.chain_backward.proofs.convert.Goals as goal

pub loop-j-init : goal.loop-j-init
loop-j-init g c = underway_none (worked g.O.Operation.operation) c.args.f.now

pub loop-j-preserved : goal.loop-j-preserved
loop-j-preserved g c =
    let operation = worked g.O.Operation.operation in
    let turn = c.loop-j in
    let f = c.args.f.now in
    underway_turn operation turn.j f (omega arith) c.requires turn.invariant c.shift_from_top.ensures ∙ ap (λ n. underway operation n f) (omega arith)

pub returns : goal.returns
returns g c =
    let operation = worked g.O.Operation.operation in
    let f = c.args.f.now in
    c.loop-j.invariant ∙ underway_all operation (c.loop-j.j - 1) f (omega (arith, c.requires))
