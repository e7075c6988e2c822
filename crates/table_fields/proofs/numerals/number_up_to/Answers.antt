-- `number_up_to` reads the number that begins a field. It refuses a field that begins with none, more bytes behind it, and a number that is too large.
use mathlib.Core.Path.{sym, ap, ◌∙◌}
use native.Mathlib.Omega.{arith}
use Rattle.formula_scan.proofs.Readings.{digit_test, no_digit_test}
use Rattle.std.specs.Prelude.{is_none, unwrap_or}
use Rattle.formula_scan.specs.Fields.{largest_word}
use Rattle.table_fields.specs.Reading.{taken}
use Rattle.table_fields.proofs.FieldReading.{no_digit-first, more_behind, too_long, too_large, small_enough}
use Rattle.table_fields.proofs.numerals.number_up_to.Goals as goal

pub returns-then-not-is_digit : goal.returns-then-not-is_digit
returns-then-not-is_digit c =
    let start = c.args in
    let first = c.byte_at in
    no_digit-first start.most start.field.now
    (λ d. no_digit_test first.result (sym c.is_digit.ensures ∙ c.if-not-is_digit.true) (rw first.ensures d))

pub read_number-number-requires : goal.read_number-number-requires
read_number-number-requires c =
    let first = c.byte_at in
    rw (← first.ensures) (digit_test first.result (sym c.is_digit.ensures ∙ c.if-not-is_digit.false))

pub returns-then-number-field : goal.returns-then-number-field
returns-then-number-field c =
    let start = c.args in
    more_behind start.most c.read_number-number.ensures (omega arith)

pub returns-in_err-value : goal.returns-in_err-value
returns-in_err-value c =
    let start = c.args in
    rw c.from_residual.ensures
    (too_long start.most c.read_number-number.ensures (omega arith) (omega arith) (ap (λ o. is_none o) c.in_err-value.was))

pub returns-then-most-value : goal.returns-then-most-value
returns-then-most-value c =
    let start = c.args in
    let value = ap (λ o. unwrap_or o largest_word) c.in_ok-value.was in
    too_large start.most c.read_number-number.ensures (omega arith) (ap (λ o. is_none o) c.in_ok-value.was) (omega (arith, value))

pub returns : goal.returns
returns c =
    let start = c.args in
    let value = ap (λ o. unwrap_or o largest_word) c.in_ok-value.was in
    ap taken (sym value) ∙ small_enough start.most c.read_number-number.ensures (omega arith) (ap (λ o. is_none o) c.in_ok-value.was) (omega (arith, value))
