-- `put_product_of_sums` puts the trimmed product of two sum chains.
use Rattle.std.proofs.Common.{sym, ap, ◌∙◌, arith}
use Rattle.chain.specs.Answer.{as_chain_answer}
use Rattle.chain.proofs.Decoding.{accepted-ok}
use Rattle.fold_products.proofs.ProductOperands.{product-accepted, sums_put}
use Rattle.fold_products.proofs.put_product_of_sums.Goals as goal

pub unwrap-product-requires : goal.unwrap-product-requires
unwrap-product-requires c =
    let f = c.chain_in in
    let g = c.chain_in-2 in
    rw (accepted-ok _ _
    (c.product.ensures
    ∙ product-accepted c.args.plan.now c.args.r f.result.elements g.result.elements f.result.length g.result.length
    (omega (arith, f.ensures.has_length, g.ensures.has_length, c.requires.b_bound)))).1

pub returns : goal.returns
returns c =
    let f = c.chain_in in
    let g = c.chain_in-2 in
    rw (sym f.ensures.has_elements, sym f.ensures.has_length, sym g.ensures.has_elements, sym g.ensures.has_length)
    (sums_put c.args.plan.now c.args.r f.result.elements g.result.elements f.result.length g.result.length
    (omega (arith, f.ensures.has_length, g.ensures.has_length, c.requires.b_bound))
    (ap as_chain_answer (sym c.unwrap-product.ensures) ∙ c.product.ensures) c.put_sum.ensures)
