-- `fold_product`: each test of the rows picks the rule of 01 that applies, and each return is that rule's law.
use Prim.Native.Nat.{◌-◌}
use native.Mathlib.Omega.{arith}
use Rattle.fold_operands.proofs.OperandLaws.{operands_some}
use Rattle.fold_operands.proofs.Leaving.{room_of_both}
use Rattle.fold_products.proofs.ProductOperands.{products_short, sums_say, one_left, one_right, zero_left, sums_left, products_left, row-left}
use Rattle.fold_products.proofs.fold_product.Goals as goal

pub overflow_sub-left_root : goal.overflow_sub-left_root
overflow_sub-left_root c = omega (arith, operands_some c.requires.two.3)

pub overflow_sub-right_root : goal.overflow_sub-right_root
overflow_sub-right_root c = omega (arith, operands_some c.requires.two.3)

pub move_down-requires : goal.move_down-requires
move_down-requires c = let roots = operands_some c.requires.two.3 in record { plan_length_in_bounds = c.requires.plan_length_in_bounds; le_first = omega (arith, roots); first_le_end = omega (arith, roots); end_le_most_rows = omega arith }

pub returns-then-is_constant : goal.returns-then-is_constant
returns-then-is_constant c =
    λ s a b o. one_left o (room_of_both o (omega arith) c.requires.end_lt_most_rows)
    c.is_constant.ensures c.if-is_constant.true c.move_down.ensures

pub returns-then-is_constant-2 : goal.returns-then-is_constant-2
returns-then-is_constant-2 c =
    λ s a b o. one_right o c.is_constant-2.ensures c.if-is_constant-2.true

pub returns-then-has_zero : goal.returns-then-has_zero
returns-then-has_zero c =
    λ s a b o. zero_left o
    c.is_constant.ensures c.if-is_constant.false
    c.is_constant-2.ensures c.if-is_constant-2.false
    c.has_zero.ensures c.if-has_zero.true
    c.put_constant.ensures

pub put_product_of_sums-requires : goal.put_product_of_sums-requires
put_product_of_sums-requires c = let roots = operands_some c.requires.two.3 in
    let args = c.args in
    let said = sums_say args.plan.now (args.pair.middle - 1) (args.pair.end - 1) c.are_sums.ensures c.if-are_sums.true in record { plan_length_in_bounds = c.requires.plan_length_in_bounds; r_lt_most_rows = omega (arith, roots); a_lt_most_rows = omega (arith, roots); b_lt_most_rows = omega (arith, roots); b_bound = said.2 }

pub returns-then-are_sums : goal.returns-then-are_sums
returns-then-are_sums c =
    λ s a b o. sums_left o
    c.is_constant.ensures c.if-is_constant.false
    c.is_constant-2.ensures c.if-is_constant-2.false
    c.has_zero.ensures c.if-has_zero.false
    c.are_sums.ensures c.if-are_sums.true
    c.put_product_of_sums.ensures

pub put_product_of_products-requires : goal.put_product_of_products-requires
put_product_of_products-requires c = let roots = operands_some c.requires.two.3 in
    let short = products_short c.requires.two.3 c.are_products.ensures c.if-are_products.true in record { plan_length_in_bounds = c.requires.plan_length_in_bounds; r_lt_most_rows = omega (arith, roots); a_lt_most_rows = omega (arith, roots); b_lt_most_rows = omega (arith, roots); a_bound = short.0; b_bound = short.1 }

pub returns-then-are_products : goal.returns-then-are_products
returns-then-are_products c =
    λ s a b o. products_left o
    c.is_constant.ensures c.if-is_constant.false
    c.is_constant-2.ensures c.if-is_constant-2.false
    c.has_zero.ensures c.if-has_zero.false
    c.are_sums.ensures c.if-are_sums.false
    c.are_products.ensures c.if-are_products.true
    c.put_product_of_products.ensures

pub returns : goal.returns
returns c =
    λ s a b o. row-left o
    c.is_constant.ensures c.if-is_constant.false
    c.is_constant-2.ensures c.if-is_constant-2.false
    c.has_zero.ensures c.if-has_zero.false
    c.are_sums.ensures c.if-are_sums.false
    c.are_products.ensures (room_of_both o (omega arith) c.requires.end_lt_most_rows) c.if-are_products.false
    c.append.ensures
