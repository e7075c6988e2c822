-- `fold_node` folds one node: a number, x, or an operator on the last operands.
use Rattle.std.proofs.Common.{ap, arith, rules}
use Rattle.formula.specs.Words.{kind_number}
use Rattle.compile.proofs.NodeKinds.{same-kind}
use Rattle.compile.proofs.Nodes.{few-rows, top_asked, minus_asked, power_asked, below_asked, both_asked}
use Rattle.compile.proofs.Nodes.{number_pushed, variable_pushed, minus-folded, power-folded, both-folded}
use Rattle.formula.specs.declared.NodeKind.TheVariants.{Number, Variable, Minus, LiteralPower}
use Rattle.compile.proofs.machine.fold_node.Goals as goal

pub put_pair-requires : goal.put_pair-requires
put_pair-requires c = few-rows _ _ _ _ (omega arith) c.requires.4 c.requires.5

pub overflow_add-result : goal.overflow_add-result
overflow_add-result c = omega (arith, few-rows _ _ _ _ (omega arith) c.requires.4 c.requires.5)

pub put_pair-requires-in-Variable : goal.put_pair-requires-in-Variable
put_pair-requires-in-Variable c = few-rows _ _ _ _ (omega arith) c.requires.4 c.requires.5

pub overflow_add-result-in-Variable : goal.overflow_add-result-in-Variable
overflow_add-result-in-Variable c = omega (arith, few-rows _ _ _ _ (omega arith) c.requires.4 c.requires.5)

pub first_row-first-requires-clause-end_le_most_rows : goal.first_row-first-requires-clause-end_le_most_rows
first_row-first-requires-clause-end_le_most_rows c = omega (arith, few-rows _ _ _ _ (omega arith) c.requires.4 c.requires.5)

pub first_row-first-requires-clause-ends : goal.first_row-first-requires-clause-ends
first_row-first-requires-clause-ends c =
    let minus = ap kind_number c.in-Minus.is in
    top_asked _ _ _ _ (omega arith) c.requires.4 c.requires.5 (λ e. omega (arith, minus, e)) (λ e. omega (arith, minus, e))

pub fold_minus-requires-clause-end_lt_most_rows : goal.fold_minus-requires-clause-end_lt_most_rows
fold_minus-requires-clause-end_lt_most_rows c = few-rows _ _ _ _ (omega arith) c.requires.4 c.requires.5

pub fold_minus-requires-clause-one : goal.fold_minus-requires-clause-one
fold_minus-requires-clause-one c = minus_asked _ _ _ _ (omega arith) c.requires.4 c.requires.5 c.first_row-first.ensures (ap kind_number c.in-Minus.is)

pub first_row-base-requires-clause-end_le_most_rows : goal.first_row-base-requires-clause-end_le_most_rows
first_row-base-requires-clause-end_le_most_rows c = omega (arith, few-rows _ _ _ _ (omega arith) c.requires.4 c.requires.5)

pub first_row-base-requires-clause-ends : goal.first_row-base-requires-clause-ends
first_row-base-requires-clause-ends c =
    let power = ap kind_number c.in-LiteralPower.is in
    top_asked _ _ _ _ (omega arith) c.requires.4 c.requires.5 (λ e. omega (arith, power, e)) (λ e. omega (arith, power, e))

pub fold_power-requires-clause-end_lt_most_rows : goal.fold_power-requires-clause-end_lt_most_rows
fold_power-requires-clause-end_lt_most_rows c = few-rows _ _ _ _ (omega arith) c.requires.4 c.requires.5

pub fold_power-requires-clause-n_bound : goal.fold_power-requires-clause-n_bound
fold_power-requires-clause-n_bound c = (power_asked _ _ _ _ (omega arith) c.requires.4 c.requires.5 c.first_row-base.ensures (ap kind_number c.in-LiteralPower.is)).1

pub fold_power-requires-clause-one : goal.fold_power-requires-clause-one
fold_power-requires-clause-one c = (power_asked _ _ _ _ (omega arith) c.requires.4 c.requires.5 c.first_row-base.ensures (ap kind_number c.in-LiteralPower.is)).0

pub first_row-middle-requires-clause-end_le_most_rows : goal.first_row-middle-requires-clause-end_le_most_rows
first_row-middle-requires-clause-end_le_most_rows c = omega (arith, few-rows _ _ _ _ (omega arith) c.requires.4 c.requires.5)

pub first_row-middle-requires-clause-ends : goal.first_row-middle-requires-clause-ends
first_row-middle-requires-clause-ends c =
    top_asked _ _ _ _ (omega arith) c.requires.4 c.requires.5 (λ e. c.in_default.not-Number (same-kind c.args.kind Number e))
    (λ e. c.in_default.not-Variable (same-kind c.args.kind Variable e))

pub first_row-left-requires-clause-end_le_most_rows : goal.first_row-left-requires-clause-end_le_most_rows
first_row-left-requires-clause-end_le_most_rows c =
    (below_asked _ _ _ _ (omega arith) c.requires.4 c.requires.5 c.first_row-middle.ensures
    (λ e. c.in_default.not-Number (same-kind c.args.kind Number e)) (λ e. c.in_default.not-Variable (same-kind c.args.kind Variable e))
    (λ e. c.in_default.not-Minus (same-kind c.args.kind Minus e))
    (λ e. c.in_default.not-LiteralPower (same-kind c.args.kind LiteralPower e))).0

pub first_row-left-requires-clause-ends : goal.first_row-left-requires-clause-ends
first_row-left-requires-clause-ends c =
    (below_asked _ _ _ _ (omega arith) c.requires.4 c.requires.5 c.first_row-middle.ensures
    (λ e. c.in_default.not-Number (same-kind c.args.kind Number e)) (λ e. c.in_default.not-Variable (same-kind c.args.kind Variable e))
    (λ e. c.in_default.not-Minus (same-kind c.args.kind Minus e))
    (λ e. c.in_default.not-LiteralPower (same-kind c.args.kind LiteralPower e))).1

pub fold_both-requires-clause-end_lt_most_rows : goal.fold_both-requires-clause-end_lt_most_rows
fold_both-requires-clause-end_lt_most_rows c = few-rows _ _ _ _ (omega arith) c.requires.4 c.requires.5

pub fold_both-requires-clause-two : goal.fold_both-requires-clause-two
fold_both-requires-clause-two c =
    both_asked _ _ _ _ (omega arith) c.requires.4 c.requires.5 c.first_row-middle.ensures
    (λ e. c.in_default.not-Number (same-kind c.args.kind Number e)) (λ e. c.in_default.not-Variable (same-kind c.args.kind Variable e))
    (λ e. c.in_default.not-Minus (same-kind c.args.kind Minus e))
    (λ e. c.in_default.not-LiteralPower (same-kind c.args.kind LiteralPower e)) c.first_row-left.ensures

pub returns-in-Number : goal.returns-in-Number
returns-in-Number c =
    λ t words first_byte end_byte comp work. number_pushed _ _ _ _ (omega arith) comp work (ap kind_number c.in-Number.is) c.put_pair.ensures

pub returns-in-Variable : goal.returns-in-Variable
returns-in-Variable c =
    λ t words first_byte end_byte comp work. variable_pushed _ _ _ _ (omega arith) comp work (ap kind_number c.in-Variable.is) (search rules) (search rules)
    c.put_pair-in-Variable.ensures

pub returns-in-Minus : goal.returns-in-Minus
returns-in-Minus c =
    λ t words first_byte end_byte comp work. minus-folded _ _ _ _ (omega arith) comp work c.first_row-first.ensures
    (ap kind_number c.in-Minus.is) c.fold_minus.ensures

pub returns-in-LiteralPower : goal.returns-in-LiteralPower
returns-in-LiteralPower c =
    λ t words first_byte end_byte comp work. power-folded _ _ _ _ (omega arith) comp work c.first_row-base.ensures
    (ap kind_number c.in-LiteralPower.is) c.fold_power.ensures

pub returns-in_default : goal.returns-in_default
returns-in_default c =
    λ t words first_byte end_byte comp work. both-folded _ _ _ _ (omega arith) comp work c.first_row-middle.ensures
    (λ e. c.in_default.not-Number (same-kind c.args.kind Number e)) (λ e. c.in_default.not-Variable (same-kind c.args.kind Variable e))
    (λ e. c.in_default.not-Minus (same-kind c.args.kind Minus e))
    (λ e. c.in_default.not-LiteralPower (same-kind c.args.kind LiteralPower e)) c.first_row-left.ensures c.fold_both.ensures
