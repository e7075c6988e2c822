-- `put_product_of_products` puts the trimmed product of two product chains.
use mathlib.Core.Path.{ap, ap₂, ◌∙◌}
use Rattle.chain.specs.Chain.{words}
use Rattle.chain.specs.ProductChain.{joint_product}
use Rattle.chain_arrays.proofs.Paired.{products_by_word}
use Rattle.fold.specs.Folded.{trimmed_product}
use Rattle.fold_rows.specs.Standing.{placed, no_span}
use borrow.Author.Rules.{rules}
use Rattle.fold_products.proofs.put_product_of_products.Goals as goal

pub returns : goal.returns
returns c =
    let args = c.args in
    let first = c.filled-f in
    let second = c.filled-g in
    c.put_product.ensures
    ∙ ap (λ f. placed args.plan.now args.r no_span (trimmed_product f))
    (c.word_by_word.ensures
    ∙ products_by_word first.result (search rules) second.result (search rules)
    ∙ ap₂ (λ f g. words 64 (joint_product f g)) first.ensures second.ensures)
