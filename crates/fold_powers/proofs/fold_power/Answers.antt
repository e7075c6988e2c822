-- `fold_power` folds constants, and the powers 0 and 1 of anything; the others are `fold_high_power`'s.
use native.Mathlib.Omega.{arith}
use Rattle.fold_operands.proofs.OperandLaws.{operand_some}
use Rattle.fold_powers.proofs.PowerOperands.{power_of_constant, power_zero, power_one}
use Rattle.fold_powers.proofs.fold_power.Goals as goal

pub overflow_sub-root : goal.overflow_sub-root
overflow_sub-root c = omega (arith, operand_some c.requires.one.2)

pub returns-then-kind-eq-CONSTANT : goal.returns-then-kind-eq-CONSTANT
returns-then-kind-eq-CONSTANT c =
    let args = c.args in
    power_of_constant args.plan.now args.first args.end args.n c.kind.ensures
    c.if-kind-eq-CONSTANT.true c.first_element.ensures
    c.power-c.ensures c.put_constant.ensures

pub returns-then-n-eq0 : goal.returns-then-n-eq0
returns-then-n-eq0 c =
    let args = c.args in
    power_zero args.plan.now args.first args.end args.n c.kind.ensures
    c.if-kind-eq-CONSTANT.false c.if-n-eq0.true c.put_constant-then-n-eq0.ensures

pub returns-then-n-eq1 : goal.returns-then-n-eq1
returns-then-n-eq1 c =
    let args = c.args in
    power_one args.plan.now args.first args.end args.n c.kind.ensures c.if-kind-eq-CONSTANT.false c.if-n-eq1.true

pub fold_high_power-requires : goal.fold_high_power-requires
fold_high_power-requires c = let asked = c.requires in record { plan_length_in_bounds = asked.plan_length_in_bounds; end_lt_most_rows = asked.end_lt_most_rows; le_n = omega arith; n_bound = asked.n_bound; one = asked.one; nonzero = omega (arith, c.kind.ensures, c.if-kind-eq-CONSTANT.false) }
