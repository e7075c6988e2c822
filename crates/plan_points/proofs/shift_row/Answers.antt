-- `shift_row` shifts the elements that a chain uses; other rows stay.
use Rattle.std.proofs.Common.{get_or, sym, ap, ne_eqb}
use Rattle.plan.specs.Row.{is_chain}
use Rattle.plan.proofs.Keeping.{sum-put, product-put, shifted_other}
use Rattle.plan_points.proofs.shift_row.Goals as goal

pub returns-then-kind-eq-SUM_CHAIN : goal.returns-then-kind-eq-SUM_CHAIN
returns-then-kind-eq-SUM_CHAIN c =
    let kind = c.if-kind-eq-SUM_CHAIN.true in
    sum-put 64 c.args.row.now kind (c.requires.row_bound_2 (ap (λ k. is_chain k) kind)) c.shift_part.ensures

pub returns-then-kind-eq-PRODUCT_CHAIN : goal.returns-then-kind-eq-PRODUCT_CHAIN
returns-then-kind-eq-PRODUCT_CHAIN c =
    let kind = c.if-kind-eq-PRODUCT_CHAIN.true in
    product-put 64 c.args.row.now kind (c.requires.row_bound_2 (ap (λ k. is_chain k) kind)) c.shift_part-then-kind-eq-PRODUCT_CHAIN.ensures

pub returns-else-kind-eq-PRODUCT_CHAIN : goal.returns-else-kind-eq-PRODUCT_CHAIN
returns-else-kind-eq-PRODUCT_CHAIN c = let row = c.args.row.now in sym (shifted_other 64 row (rw (ne_eqb (get_or row 0 0) 1 (c.if-kind-eq-SUM_CHAIN.false), ne_eqb (get_or row 0 0) 2 (c.if-kind-eq-PRODUCT_CHAIN.false))))
