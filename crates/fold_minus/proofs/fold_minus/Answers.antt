-- `fold_minus` negates each element of a sum chain and the first one of a product chain, and otherwise appends the row of minus.
use Rattle.std.proofs.Common.{sym, ap, ◌∙◌, arith}
use Rattle.word.proofs.Ring.{difference-found}
use Rattle.fold_operands.proofs.OperandLaws.{operand_some, operand_short}
use Rattle.chain.specs.Answer.{as_chain_answer}
use Rattle.chain.proofs.Decoding.{accepted-ok}
use Rattle.fold_minus.proofs.MinusOperands.{negated-accepted, leaves-negated, leaves-first-negated, leaves-minus}
use Rattle.fold_minus.proofs.fold_minus.Goals as goal

pub overflow_sub-root : goal.overflow_sub-root
overflow_sub-root c = omega (arith, operand_some c.requires.one.2)

pub unwrap-minus-requires : goal.unwrap-minus-requires
unwrap-minus-requires c =
    let (s, a, o) = c.requires.one in
    let f = c.chain_in-f.ensures in
    let answered = negated-accepted s a o (omega (arith, c.if-root_kind-lt-PRODUCT_CHAIN.true, c.kind-root_kind.ensures))
    c.zeros.ensures f.has_elements f.has_length c.difference.ensures in
    rw (accepted-ok _ _ answered).1

pub returns-then-root_kind-lt-PRODUCT_CHAIN : goal.returns-then-root_kind-lt-PRODUCT_CHAIN
returns-then-root_kind-lt-PRODUCT_CHAIN c =
    let f = c.chain_in-f.ensures in
    λ s a o.
    leaves-negated s a o (omega (arith, c.if-root_kind-lt-PRODUCT_CHAIN.true, c.kind-root_kind.ensures))
    (ap as_chain_answer (sym c.unwrap-minus.ensures)
    ∙ negated-accepted s a o (omega (arith, c.if-root_kind-lt-PRODUCT_CHAIN.true, c.kind-root_kind.ensures)) c.zeros.ensures f.has_elements f.has_length c.difference.ensures)
    c.put_sum.ensures

pub with_ones-negated-requires : goal.with_ones-negated-requires
with_ones-negated-requires c =
    operand_short c.requires.one.2
    (omega (arith, c.kind-root_kind.ensures, c.if-root_kind-eq-PRODUCT_CHAIN.true))
    c.chain_in-f.ensures.has_length

pub returns-then-root_kind-eq-PRODUCT_CHAIN : goal.returns-then-root_kind-eq-PRODUCT_CHAIN
returns-then-root_kind-eq-PRODUCT_CHAIN c =
    let negation = c.wrapping_neg in
    λ s a o.
    leaves-first-negated s a o (sym c.kind-root_kind.ensures ∙ c.if-root_kind-eq-PRODUCT_CHAIN.true)
    c.chain_in-f.ensures.has_elements
    c.chain_in-f.ensures.has_length c.with_ones-negated.ensures
    (difference-found 64 0 _ _ negation.type_inv (omega arith) negation.ensures) c.put_product.ensures

pub returns : goal.returns
returns c =
    λ s a o.
    leaves-minus s a o (omega (arith, operand_some o))
    (omega (arith, c.kind-root_kind.ensures)) c.append.ensures
