-- `product` goes by the values of both chains.
use borrow.Author.Rules.{rules}
use Rattle.chain_values.proofs.ByValues.{product_by_values}
use Rattle.chain_values.proofs.product.Goals as goal

pub returns : goal.returns
returns c =
    let args = c.args in
    product_by_values args.f args.g (search rules) (search rules) (λ i. search rules) c.passes.ensures c.passes-2.ensures c.word_by_word-r.ensures c.passes-3.ensures
