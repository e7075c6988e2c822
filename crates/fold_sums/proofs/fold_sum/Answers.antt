-- `fold_sum` adds or subtracts constants and sum chains, leaves A of A + 0, A - 0 and 0 + A and minus A of 0 - A, and otherwise appends the row.
use native.Mathlib.Omega.{arith}
use Rattle.fold_operands.proofs.OperandLaws.{operand_some}
use Rattle.fold_operands.proofs.Leaving.{room_of_both}
use Rattle.std.proofs.Common.{◌-◌, [], sym, ap, ◌∙◌}
use Rattle.fold.specs.Layout.{row_words}
use Rattle.fold_rows.specs.Standing.{with_row, no_span}
use Rattle.chain.specs.Answer.{as_chain_answer}
use Rattle.chain.proofs.Decoding.{accepted-ok}
use Rattle.fold_sums.proofs.SumRules.{additive}
use Rattle.fold_sums.proofs.SumOperands.{both-accepted, leaves-chain, leaves-left, moved_down_lem, leaves-alone, leaves-row}
use Rattle.fold_sums.proofs.fold_sum.Goals as goal

pub overflow_sub-left_root : goal.overflow_sub-left_root
overflow_sub-left_root c = omega (arith, operand_some c.requires.two.3.first)

pub overflow_sub-right_root : goal.overflow_sub-right_root
overflow_sub-right_root c = omega (arith, operand_some c.requires.two.3.second)

pub unwrap-both-requires : goal.unwrap-both-requires
unwrap-both-requires c =
    let (s, a, b, o) = c.requires.two in
    rw (accepted-ok _ _
    (both-accepted (additive c.args.operator) s a b o c.both_sums.ensures c.if-both_sums.true c.chain_of_both.ensures)).1

pub returns-then-both_sums : goal.returns-then-both_sums
returns-then-both_sums c =
    λ s a b o.
    leaves-chain (additive c.args.operator) s a b o c.both_sums.ensures c.if-both_sums.true
    (ap as_chain_answer (sym c.unwrap-both.ensures)
    ∙ both-accepted (additive c.args.operator) s a b o c.both_sums.ensures c.if-both_sums.true c.chain_of_both.ensures)
    c.put_sum.ensures

pub returns-then-is_constant : goal.returns-then-is_constant
returns-then-is_constant c =
    λ s a b o.
    leaves-left (additive c.args.operator) s a b o c.both_sums.ensures c.if-both_sums.false
    c.is_constant.ensures c.if-is_constant.true

pub move_down-requires : goal.move_down-requires
move_down-requires c = let o = c.requires.two.3 in record { plan_length_in_bounds = c.requires.plan_length_in_bounds; le_first = omega (arith, operand_some o.first); first_le_end = omega (arith, operand_some o.second); end_le_most_rows = omega arith }

pub fold_alone-requires : goal.fold_alone-requires
fold_alone-requires c = let pre = c.requires in
    let (s, a, b, o) = pre.two in
    let moved =
    moved_down_lem (additive c.args.operator) s a b o c.both_sums.ensures c.if-both_sums.false c.is_constant.ensures
    c.if-is_constant.false (room_of_both o (omega arith) pre.end_lt_most_rows) c.is_constant-2.ensures c.if-is_constant-2.true
    c.move_down.ensures in record { plan_length_in_bounds = omega arith; end_lt_most_rows = omega arith; one = (s.right, b, moved) }

pub returns-then-is_constant-2 : goal.returns-then-is_constant-2
returns-then-is_constant-2 c =
    let pre = c.requires in
    λ s a b o.
    leaves-alone (additive c.args.operator) s a b o c.both_sums.ensures c.if-both_sums.false c.is_constant.ensures
    c.if-is_constant.false (room_of_both o (omega arith) pre.end_lt_most_rows) c.is_constant-2.ensures c.if-is_constant-2.true
    c.move_down.ensures c.fold_alone.ensures

pub returns : goal.returns
returns c =
    let args = c.args in
    λ s a b o.
    leaves-row (additive args.operator) s a b o c.both_sums.ensures c.if-both_sums.false c.is_constant.ensures
    c.if-is_constant.false (room_of_both o (omega arith) c.requires.end_lt_most_rows) c.is_constant-2.ensures c.if-is_constant-2.false
    (c.append.ensures
    ∙ ap (λ kind. with_row args.plan.now args.pair.end (row_words kind (args.pair.middle - 1) (args.pair.end - 1) [] no_span)) c.from-kind.ensures)
