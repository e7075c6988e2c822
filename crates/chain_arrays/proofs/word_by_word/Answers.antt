use Rattle.std.proofs.Common.{sym, ◌∙◌, arith, rules}
use Rattle.chain.proofs.Rows.{row_store, array_filled}
use Rattle.chain_arrays.specs.Operations.{worked}
use Rattle.chain_arrays.proofs.Paired.{entry_paired, length-paired}
use Rattle.chain_arrays.proofs.word_by_word.Goals as goal

pub loop-i-preserved : goal.loop-i-preserved
loop-i-preserved g c =
    let args = c.args in
    let turn = c.loop-i in
    row_store 17 _ _ (omega arith) turn.invariant (c.worked.ensures ∙ sym (entry_paired (worked g.O.Operation.operation) args.f args.g turn.i (search rules) (search rules)))

pub returns : goal.returns
returns g c =
    let args = c.args in
    array_filled 17 _ c.loop-i.i (length-paired (worked g.O.Operation.operation) 17 args.f args.g (search rules) (search rules)) c.loop-i.invariant (omega arith)
