-- `judge_defaults` judges the line's shape, then its empty fields, then its numbers.
use Rattle.std.proofs.Common.{sym, ◌∙◌}
use Rattle.std.proofs.lemmas.Result.{err_from_is_err_and}
use Rattle.table.proofs.NumbersJudged.{defaults_misshapen, defaults_empty, defaults-numbers}
use Rattle.table_line_checks.proofs.judge_defaults.Goals as goal

pub returns-then-is_misshapen : goal.returns-then-is_misshapen
returns-then-is_misshapen c = defaults_misshapen c.args.line.now (sym c.is_misshapen.ensures ∙ c.if-is_misshapen.true)

pub returns-in_err-judge_empty : goal.returns-in_err-judge_empty
returns-in_err-judge_empty c =
    let shaped = sym c.is_misshapen.ensures ∙ c.if-is_misshapen.false in
    let p = err_from_is_err_and c.from_residual.result c.from_residual.ensures.1 in
    rw (p.1, p.2) (defaults_empty c.args.line.now _ shaped c.in_err-judge_empty.ensures)

pub returns-in_err-judge_numbers : goal.returns-in_err-judge_numbers
returns-in_err-judge_numbers c =
    let shaped = sym c.is_misshapen.ensures ∙ c.if-is_misshapen.false in
    let bad = c.from_residual-in_err-judge_numbers in
    let p = err_from_is_err_and bad.result bad.ensures.1 in
    let judged = c.in_err-judge_numbers.ensures ∙ rw (c.field.ensures, c.field-2.ensures, c.field-3.ensures) in
    rw (p.1, p.2) (defaults-numbers c.args.line.now _ shaped c.in_ok-judge_empty.ensures judged)

pub returns : goal.returns
returns c =
    let shaped = sym c.is_misshapen.ensures ∙ c.if-is_misshapen.false in
    let judged = c.in_ok-judge_numbers.ensures ∙ rw (c.field.ensures, c.field-2.ensures, c.field-3.ensures) in
    defaults-numbers c.args.line.now _ shaped c.in_ok-judge_empty.ensures judged
