-- `put_product` puts the constant 0, or the trimmed chain.
use mathlib.Core.Path.{◌≡◌}
use native.Mathlib.Omega.{arith}
use lib.ListN.{length}
use borrow.Author.Rules.{rules}
use Rattle.chain.proofs.Trimming.{length-trimmed}
use Rattle.fold_rows.proofs.Placing.{put-zero, put-trimmed}
use Rattle.fold_rows.proofs.product_rows.put_product.Goals as goal

pub returns-then-elements-eq0 : goal.returns-then-elements-eq0
returns-then-elements-eq0 c =
    let plan = c.args.plan.now in
    let r = c.args.r in
    let elements = c.args.elements in
    put-zero plan r elements (search rules) c.if-elements-eq0.true c.zeros.ensures
    c.put_chain.ensures

pub kept-requires : goal.kept-requires
kept-requires c =
    let elements = c.args.elements in
    let long : length elements ≡ 17 = search rules in
    omega (arith, c.trimmed_length-last.ensures, length-trimmed 1 elements 16 (omega arith))

pub returns : goal.returns
returns c =
    let args = c.args in
    put-trimmed args.plan.now args.r args.elements (search rules) (λ z. omega arith)
    c.trimmed_length-last.ensures c.kept.ensures
    c.put_chain-2.ensures
