-- `backward_product` answers as the forward product of the chains with alternating signs, its signs alternated again.
use Rattle.std.proofs.Common.{ℕ, get_or, ap₂, ◌∙◌, w64, Fits, rules}
use Rattle.std.proofs.lemmas.Result.{err_from_is_err_and}
use Rattle.chain.specs.Answer.{answered, product_outcome}
use Rattle.chain_backward.proofs.Products.{none_flipped, product_by_signs}
use Rattle.chain_backward.proofs.backward_product.Goals as goal

pub returns-in_err-product : goal.returns-in_err-product
returns-in_err-product c =
    let f = c.args.f in
    let g = c.args.g in
    let f-fits : (i : ℕ) → Fits w64 (get_or f.elements i 0) = λ i. search rules in
    let g-fits : (i : ℕ) → Fits w64 (get_or g.elements i 0) = λ i. search rules in
    let left = err_from_is_err_and c.from_residual.result c.from_residual.ensures.1 in
    let p = c.alternated in
    let q = c.alternated-2 in
    let called = c.in_err-product.ensures ∙ ap₂ (λ k l. answered (product_outcome 64 p.result.elements k q.result.elements l)) p.ensures.length q.ensures.length in
    rw (left.1, left.2)
    (product_by_signs 64 f.elements f.length g.elements g.length (search rules) (search rules) (λ i. (f-fits i).fits) (λ i. (g-fits i).fits)
    p.ensures.elements q.ensures.elements called (none_flipped 64))

pub returns : goal.returns
returns c =
    let f = c.args.f in
    let g = c.args.g in
    let f-fits : (i : ℕ) → Fits w64 (get_or f.elements i 0) = λ i. search rules in
    let g-fits : (i : ℕ) → Fits w64 (get_or g.elements i 0) = λ i. search rules in
    let p = c.alternated in
    let q = c.alternated-2 in
    let called = c.in_ok-product.ensures ∙ ap₂ (λ k l. answered (product_outcome 64 p.result.elements k q.result.elements l)) p.ensures.length q.ensures.length in
    rw c.alternated-3.ensures.length
    (product_by_signs 64 f.elements f.length g.elements g.length (search rules) (search rules) (λ i. (f-fits i).fits) (λ i. (g-fits i).fits)
    p.ensures.elements q.ensures.elements called c.alternated-3.ensures.elements)
