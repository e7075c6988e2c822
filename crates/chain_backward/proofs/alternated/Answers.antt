use Rattle.std.proofs.Common.{sym, ◌∙◌, arith, rules}
use Rattle.chain.specs.Chain.{words}
use Rattle.chain.proofs.Rows.{row_store, array_filled}
use Rattle.chain_backward.specs.Alternating.{alternated}
use Rattle.chain_backward.proofs.Products.{entry_alternated, length-alternated}
use Rattle.chain_backward.proofs.alternated.Goals as goal

pub loop-i-preserved : goal.loop-i-preserved
loop-i-preserved c =
    let turn = c.loop-i in
    let f = c.args.f.elements in
    row_store 17 turn.i (words 64 (alternated 64 f)) (omega arith) turn.invariant (c.signed_at.ensures ∙ sym (entry_alternated 64 f turn.i))

pub returns-clause-elements : goal.returns-clause-elements
returns-clause-elements c =
    let turn = c.loop-i in
    let f = c.args.f.elements in
    array_filled 17 (words 64 (alternated 64 f)) turn.i (length-alternated 64 f ∙ search rules) turn.invariant (omega arith)
