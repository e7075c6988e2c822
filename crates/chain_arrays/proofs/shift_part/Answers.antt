use Rattle.std.proofs.Common.{◌-◌, get_or, ap, ◌∙◌, arith, rules}
use Rattle.chain_arrays.specs.Operations.{joining, worked}
use Rattle.chain.proofs.Shifting.{turned, turned_none, turned_all, shift_turn}
use Rattle.chain_arrays.proofs.shift_part.Goals as goal

pub loop-i-init : goal.loop-i-init
loop-i-init g c = turned_none (joining g.O.Operation.operation) 64 c.args.f.now

pub loop-i-preserved : goal.loop-i-preserved
loop-i-preserved g c =
    let operation = g.O.Operation.operation in
    let turn = c.loop-i in
    let f = c.args.f.now in
    shift_turn (joining operation) 64 (turn.i - 1) f (omega arith) turn.invariant
    (c.worked.ensures ∙ ap (λ k. worked operation (get_or turn.f (turn.i - 1) 0) (get_or turn.f k 0)) (omega arith))
    ∙ ap (λ k. turned (joining operation) 64 k f) (omega arith)

pub returns : goal.returns
returns g c =
    let turn = c.loop-i in
    turn.invariant ∙ turned_all (joining g.O.Operation.operation) 64 (turn.i - 1) c.args.f.now (omega arith) (search rules)
