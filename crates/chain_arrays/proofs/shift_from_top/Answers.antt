use Rattle.std.proofs.Common.{◌-◌, length, get_or, ap, ◌∙◌, arith}
use Rattle.chain.proofs.Shifting.{unturned, unturned_none, unturned_all, from_top_turn}
use Rattle.chain_arrays.specs.Operations.{worked}
use Rattle.chain_arrays.proofs.shift_from_top.Goals as goal

pub loop-i-init : goal.loop-i-init
loop-i-init g c = let f = c.args.f.now in unturned_none (worked g.O.Operation.operation) (length f - 1) f (omega arith)

pub loop-i-preserved : goal.loop-i-preserved
loop-i-preserved g c =
    let operation = worked g.O.Operation.operation in
    let turn = c.loop-i in
    let f = c.args.f.now in
    let at = turn.i - 1 - 1 in
    from_top_turn operation at f (omega arith) (turn.invariant ∙ ap (λ k. unturned operation k f) (omega arith))
    (c.worked.ensures ∙ ap (λ k. operation (get_or turn.f at 0) (get_or turn.f k 0)) (omega arith))

pub returns : goal.returns
returns g c =
    let operation = worked g.O.Operation.operation in
    let f = c.args.f.now in
    c.loop-i.invariant ∙ ap (λ k. unturned operation k f) (omega arith) ∙ unturned_all operation f
