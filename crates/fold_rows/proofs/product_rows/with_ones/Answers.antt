-- `with_ones` writes 1 past the length.
use borrow.Author.Rules.{rules}
use Rattle.fold_rows.proofs.Ones.{ones_put}
use Rattle.fold_rows.proofs.product_rows.with_ones.Goals as goal

pub returns : goal.returns
returns c =
    let f = c.args.f in
    ones_put f.length f.elements (search rules) (search rules) (c.fill.ensures.after (λ y same. same))
