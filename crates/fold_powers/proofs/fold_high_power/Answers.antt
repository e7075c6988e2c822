-- `fold_high_power` folds product chains and short sum chains; anything else becomes a row.
use mathlib.Core.Path.{◌∙◌}
use mathlib.Core.Logic.{inl, inr}
use native.Mathlib.Omega.{arith}
use Rattle.chain_arrays.proofs.Paired.{powers_by_word}
use Rattle.fold_operands.proofs.OperandLaws.{operand_some, operand_short}
use Rattle.fold_operands.proofs.Leaving.{room_of_one}
use Rattle.fold_powers.proofs.PowerChains.{times_fits}
use Rattle.fold_powers.proofs.PowerOperands.{power_of_product, power_of_sum, power_as_row}
use borrow.Author.Rules.{rules}
use Rattle.fold_powers.proofs.fold_high_power.Goals as goal
use Rattle.fold_powers.proofs.fold_high_power.Goals.{else-root_kind-eq-SUM_CHAIN-via-then-root_kind-eq-SUM_CHAIN+else-f-n-le-LONGEST, else-root_kind-eq-SUM_CHAIN-via-else-root_kind-eq-SUM_CHAIN}

pub overflow_sub-root : goal.overflow_sub-root
overflow_sub-root c = omega (arith, operand_some c.requires.one.2)

pub overflow_mul-f : goal.overflow_mul-f
overflow_mul-f c =
    times_fits _ _
    (operand_short c.requires.one.2 (omega (arith, c.kind-root_kind.ensures, c.if-root_kind-eq-SUM_CHAIN.true)) c.chain_in-f.ensures.has_length)
    c.requires.n_bound

pub with_ones-requires : goal.with_ones-requires
with_ones-requires c =
    operand_short c.requires.one.2
    (omega (arith, c.kind-root_kind.ensures, c.if-root_kind-eq-PRODUCT_CHAIN.true))
    c.chain_in-f.ensures.has_length

pub returns-then-root_kind-eq-PRODUCT_CHAIN : goal.returns-then-root_kind-eq-PRODUCT_CHAIN
returns-then-root_kind-eq-PRODUCT_CHAIN c =
    power_of_product c.args.plan.now c.args.first c.args.end c.args.n
    c.kind-root_kind.ensures
    c.requires.le_n c.requires.nonzero c.if-root_kind-eq-PRODUCT_CHAIN.true
    c.chain_in-f.ensures.has_length
    c.chain_in-f.ensures.has_elements
    c.with_ones.ensures
    (c.word_by_word-powers.ensures ∙ powers_by_word c.with_ones.result (search rules) c.args.n)
    c.put_product.ensures

pub returns-then-f-n-le-LONGEST : goal.returns-then-f-n-le-LONGEST
returns-then-f-n-le-LONGEST c =
    power_of_sum c.args.plan.now c.args.first c.args.end c.args.n
    c.kind-root_kind.ensures
    c.requires.le_n c.requires.nonzero
    c.if-root_kind-eq-SUM_CHAIN.true
    c.chain_in-f.ensures.has_length
    c.chain_in-f.ensures.has_elements c.if-f-n-le-LONGEST.true
    c.power_of.ensures c.put_sum.ensures

pub returns : goal.returns
returns c =
    power_as_row c.args.plan.now c.args.first c.args.end c.args.n
    c.kind-root_kind.ensures c.requires.le_n c.requires.nonzero
    (room_of_one c.requires.one.2 (omega arith) c.requires.end_lt_most_rows)
    c.chain_in-f.ensures.has_length c.if-root_kind-eq-PRODUCT_CHAIN.false
    (elim c.else-root_kind-eq-SUM_CHAIN.branch [
      | else-root_kind-eq-SUM_CHAIN-via-then-root_kind-eq-SUM_CHAIN+else-f-n-le-LONGEST w ↦ inl (w.if-root_kind-eq-SUM_CHAIN.true, omega (arith, w.if-f-n-le-LONGEST.false))
      | else-root_kind-eq-SUM_CHAIN-via-else-root_kind-eq-SUM_CHAIN w ↦ inr w.if-root_kind-eq-SUM_CHAIN.false
    ])
    c.append.ensures
