-- `fold_raise` folds a constant to a constant or a sum chain; anything else becomes a row.
use mathlib.Core.Path.{◌∙◌}
use mathlib.Core.Logic.{inl, inr}
use native.Mathlib.Omega.{arith}
use Rattle.chain_arrays.proofs.Paired.{raises_by_word}
use Rattle.fold_operands.proofs.OperandLaws.{operands_some}
use Rattle.fold_operands.proofs.Leaving.{room_of_both}
use Rattle.fold_raises.proofs.RaiseOperands.{raise-folded, raise_as_row}
use borrow.Author.Rules.{rules}
use Rattle.fold_raises.proofs.fold_raise.Goals as goal
use Rattle.fold_raises.proofs.fold_raise.Goals.{else-base-eq-CONSTANT-via-then-base-eq-CONSTANT+else-exponent-lt-PRODUCT_CHAIN, else-base-eq-CONSTANT-via-else-base-eq-CONSTANT}

pub overflow_sub-base_root : goal.overflow_sub-base_root
overflow_sub-base_root c = omega (arith, operands_some c.requires.two.3)

pub overflow_sub-exponent_root : goal.overflow_sub-exponent_root
overflow_sub-exponent_root c = omega (arith, operands_some c.requires.two.3)

pub returns-then-exponent-lt-PRODUCT_CHAIN : goal.returns-then-exponent-lt-PRODUCT_CHAIN
returns-then-exponent-lt-PRODUCT_CHAIN c =
    let args = c.args in
    raise-folded args.plan.now args.pair.left args.pair.middle args.pair.end c.kind-base.ensures
    c.kind-exponent.ensures c.if-base-eq-CONSTANT.true c.if-exponent-lt-PRODUCT_CHAIN.true
    c.first_element-c.ensures c.elements-f.ensures
    (c.word_by_word.ensures ∙ raises_by_word c.elements-f.result (search rules) _)
    c.put_product.ensures

pub returns : goal.returns
returns c =
    raise_as_row c.args.plan.now c.args.pair.left c.args.pair.middle c.args.pair.end
    c.kind-base.ensures c.kind-exponent.ensures
    (room_of_both c.requires.two.3 (omega arith) c.requires.end_lt_most_rows)
    (elim c.else-base-eq-CONSTANT.branch [
      | else-base-eq-CONSTANT-via-then-base-eq-CONSTANT+else-exponent-lt-PRODUCT_CHAIN w ↦ inl (w.if-base-eq-CONSTANT.true, omega (arith, w.if-exponent-lt-PRODUCT_CHAIN.false))
      | else-base-eq-CONSTANT-via-else-base-eq-CONSTANT w ↦ inr w.if-base-eq-CONSTANT.false
    ])
    c.append.ensures
