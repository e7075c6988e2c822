-- `row_reason` goes by the kind of row r: what it says of its operands' rows is `RowExplained`.
use Rattle.std.proofs.Common.{◌≡◌, ◌≤◌, rules, arith, sym, ap, ap₂, ◌∙◌}
use Rattle.plan.specs.Row.{kind, word_b}
use Rattle.plan.proofs.SoundLaws.{sound-count}
use Rattle.reason.proofs.Numbers.{sum_number, product_number, minus_number, power_number, raise_number}
use Rattle.reason.proofs.SoundRows.{row-explained}
use Rattle.reason_call.proofs.row_reason.Goals as goal

pub row-words-requires-clause-r_lt_most_rows : goal.row-words-requires-clause-r_lt_most_rows
row-words-requires-clause-r_lt_most_rows c = omega (arith, sound-count c.args.plan.now c.requires.plan_value)

pub operand-requires-clause-r_bound : goal.operand-requires-clause-r_bound
operand-requires-clause-r_bound c =
    let asked = c.requires in
    let facts = row-explained c.args.plan.now asked.plan_length_in_bounds asked.plan_value c.args.r asked.r_bound c.row-words.ensures.result_value in
    let is : 3 ≤ kind c.row-words.result.now = search rules in
    facts.left is

pub operand-requires-in-Ok-Sum-clause-r_bound : goal.operand-requires-in-Ok-Sum-clause-r_bound
operand-requires-in-Ok-Sum-clause-r_bound c =
    let asked = c.requires in
    let facts = row-explained c.args.plan.now asked.plan_length_in_bounds asked.plan_value c.args.r asked.r_bound c.row-words.ensures.result_value in
    let is : (3 ≤ kind c.row-words.result.now) × (kind c.row-words.result.now ≤ 4) = search rules in
    facts.right is.0 (λ e. omega arith) (λ e. omega arith)

pub operand-requires-in-Ok-Product-clause-r_bound : goal.operand-requires-in-Ok-Product-clause-r_bound
operand-requires-in-Ok-Product-clause-r_bound c =
    let asked = c.requires in
    let facts = row-explained c.args.plan.now asked.plan_length_in_bounds asked.plan_value c.args.r asked.r_bound c.row-words.ensures.result_value in
    let is : kind c.row-words.result.now ≡ 5 = search rules in
    facts.left (omega arith)

pub operand-requires-in-Ok-Product-2-clause-r_bound : goal.operand-requires-in-Ok-Product-2-clause-r_bound
operand-requires-in-Ok-Product-2-clause-r_bound c =
    let asked = c.requires in
    let facts = row-explained c.args.plan.now asked.plan_length_in_bounds asked.plan_value c.args.r asked.r_bound c.row-words.ensures.result_value in
    let is : kind c.row-words.result.now ≡ 5 = search rules in
    facts.right (omega arith) (λ e. omega arith) (λ e. omega arith)

pub operand-requires-in-Ok-Minus-clause-r_bound : goal.operand-requires-in-Ok-Minus-clause-r_bound
operand-requires-in-Ok-Minus-clause-r_bound c =
    let asked = c.requires in
    let facts = row-explained c.args.plan.now asked.plan_length_in_bounds asked.plan_value c.args.r asked.r_bound c.row-words.ensures.result_value in
    let is : kind c.row-words.result.now ≡ 6 = search rules in
    facts.left (omega arith)

pub operand-requires-in-Ok-LiteralPower-clause-r_bound : goal.operand-requires-in-Ok-LiteralPower-clause-r_bound
operand-requires-in-Ok-LiteralPower-clause-r_bound c =
    let asked = c.requires in
    let facts = row-explained c.args.plan.now asked.plan_length_in_bounds asked.plan_value c.args.r asked.r_bound c.row-words.ensures.result_value in
    let is : kind c.row-words.result.now ≡ 7 = search rules in
    facts.left (omega arith)

pub power_reason-requires-clause-n_lt_most_rows : goal.power_reason-requires-clause-n_lt_most_rows
power_reason-requires-clause-n_lt_most_rows c =
    let asked = c.requires in
    let facts = row-explained c.args.plan.now asked.plan_length_in_bounds asked.plan_value c.args.r asked.r_bound c.row-words.ensures.result_value in
    facts.exponent

pub operand-requires-in-Ok-Raise-clause-r_bound : goal.operand-requires-in-Ok-Raise-clause-r_bound
operand-requires-in-Ok-Raise-clause-r_bound c =
    let asked = c.requires in
    let facts = row-explained c.args.plan.now asked.plan_length_in_bounds asked.plan_value c.args.r asked.r_bound c.row-words.ensures.result_value in
    let is : kind c.row-words.result.now ≡ 8 = search rules in
    facts.right (omega arith) (λ e. omega arith) (λ e. omega arith)

pub returns-in-Ok-Constant : goal.returns-in-Ok-Constant
returns-in-Ok-Constant c =
    let asked = c.requires in
    let facts = row-explained c.args.plan.now asked.plan_length_in_bounds asked.plan_value c.args.r asked.r_bound c.row-words.ensures.result_value in
    let is : kind c.row-words.result.now ≤ 2 = search rules in
    sym (facts.none (omega arith))

pub unreachable-requires : goal.unreachable-requires
unreachable-requires c =
    let asked = c.requires in
    let facts = row-explained c.args.plan.now asked.plan_length_in_bounds asked.plan_value c.args.r asked.r_bound c.row-words.ensures.result_value in
    let past : 9 ≤ kind c.row-words.result.now = search rules in
    absurd (omega (arith, facts.known))

pub returns-in-Ok-Sum : goal.returns-in-Ok-Sum
returns-in-Ok-Sum c =
    let asked = c.requires in
    let facts = row-explained c.args.plan.now asked.plan_length_in_bounds asked.plan_value c.args.r asked.r_bound c.row-words.ensures.result_value in
    let is : (3 ≤ kind c.row-words.result.now) × (kind c.row-words.result.now ≤ 4) = search rules in
    c.sum_reason.ensures ∙ ap₂ sum_number c.operand.ensures.value c.operand-in-Ok-Sum.ensures.value ∙ sym (facts.sum is.0 is.1)

pub returns-in-Ok-Product : goal.returns-in-Ok-Product
returns-in-Ok-Product c =
    let asked = c.requires in
    let facts = row-explained c.args.plan.now asked.plan_length_in_bounds asked.plan_value c.args.r asked.r_bound c.row-words.ensures.result_value in
    let is : kind c.row-words.result.now ≡ 5 = search rules in
    c.product_reason.ensures ∙ ap₂ product_number c.operand-in-Ok-Product.ensures.value c.operand-in-Ok-Product-2.ensures.value ∙ sym (facts.product is)

pub returns-in-Ok-Minus : goal.returns-in-Ok-Minus
returns-in-Ok-Minus c =
    let asked = c.requires in
    let facts = row-explained c.args.plan.now asked.plan_length_in_bounds asked.plan_value c.args.r asked.r_bound c.row-words.ensures.result_value in
    let is : kind c.row-words.result.now ≡ 6 = search rules in
    c.minus_reason.ensures ∙ ap minus_number c.operand-in-Ok-Minus.ensures.value ∙ sym (facts.minus is)

pub returns-in-Ok-LiteralPower : goal.returns-in-Ok-LiteralPower
returns-in-Ok-LiteralPower c =
    let asked = c.requires in
    let facts = row-explained c.args.plan.now asked.plan_length_in_bounds asked.plan_value c.args.r asked.r_bound c.row-words.ensures.result_value in
    let is : kind c.row-words.result.now ≡ 7 = search rules in
    c.power_reason.ensures ∙ ap (λ a. power_number a (word_b c.row-words.result.now)) c.operand-in-Ok-LiteralPower.ensures.value ∙ sym (facts.power is)

pub returns-in-Ok-Raise : goal.returns-in-Ok-Raise
returns-in-Ok-Raise c =
    let asked = c.requires in
    let facts = row-explained c.args.plan.now asked.plan_length_in_bounds asked.plan_value c.args.r asked.r_bound c.row-words.ensures.result_value in
    let is : kind c.row-words.result.now ≡ 8 = search rules in
    c.raise_reason.ensures ∙ ap raise_number c.operand-in-Ok-Raise.ensures.value ∙ sym (facts.raise is)
