use mathlib.Core.Path.{◌∙◌, sym, ap}
use Prim.Native.Nat.{◌+◌}
use native.Mathlib.Omega.{arith}
use lib.ListN.{length, get_or, length-drop, get_or-eq_default}
use Rattle.formula_scan.proofs.Steps.{rest, rest-drop, rest_byte}
use Rattle.formula_scan.specs.Fields.{as_numeral}
use Rattle.formula_scan.proofs.Readings.{digit_test, no_digit_test, number_starts, number_goes_on, number-ends}
use Rattle.formula_digits.proofs.read_number.Goals as goal

pub loop-byte-init : goal.loop-byte-init
loop-byte-init c = record {
  so_far = number_starts c.args.text.now c.args.at c.digit_of-digit.result (c.digit_of-digit.ensures ∙ c.byte_at.ensures) (omega (arith, c.digit_of-digit.ensures, c.byte_at.ensures)) (λ z. omega arith);
  reached = omega arith;
}

pub returns-then-not-is_digit : goal.returns-then-not-is_digit
returns-then-not-is_digit c =
    let text = c.args.text.now in
    let number = c.loop-byte.number in
    let byte = rest_byte text (c.args.at + 1) c.loop-byte.byte-index number.at c.loop-byte.invariant.reached in
    number-ends text c.args.at (as_numeral number) c.loop-byte.invariant.so_far
    (λ d. no_digit_test (get_or (rest text (c.args.at + 1)) c.loop-byte.byte-index 0) (sym c.is_digit.ensures ∙ c.if-not-is_digit.true) (rw byte d))

pub loop-byte-preserved : goal.loop-byte-preserved
loop-byte-preserved c =
    let text = c.args.text.now in
    let number = c.loop-byte.number in
    let byte = rest_byte text (c.args.at + 1) c.loop-byte.byte-index number.at c.loop-byte.invariant.reached in
    record {
      so_far = number_goes_on text c.args.at (as_numeral number) (as_numeral c.pushed-number.result) c.digit_of.result c.loop-byte.invariant.so_far (c.digit_of.ensures ∙ byte) (omega (arith, c.digit_of.ensures, digit_test (get_or (rest text (c.args.at + 1)) c.loop-byte.byte-index 0) (sym c.is_digit.ensures ∙ c.if-not-is_digit.false))) c.pushed-number.ensures;
      reached = omega (arith, c.pushed-number.ensures.onward, c.loop-byte.invariant.reached);
    }

pub returns : goal.returns
returns c =
    let text = c.args.text.now in
    let number = c.loop-byte.number in
    let long = ap (λ r. length r) (rest-drop text (c.args.at + 1)) in
    let ends = get_or-eq_default text 0 {n = number.at} (omega (arith, c.loop-byte.invariant.reached, long, length-drop (c.args.at + 1) text, c.loop-byte-test.false)) in
    number-ends text c.args.at (as_numeral number) c.loop-byte.invariant.so_far (λ d. omega (arith, ends, d.0))
