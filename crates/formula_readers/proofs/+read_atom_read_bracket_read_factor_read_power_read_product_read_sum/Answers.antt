-- Each return is one way of proofs/Ways.antt in formula_scan.
use mathlib.Core.Bool.{◌||◌, true}
use mathlib.Core.Path.{◌∙◌, refl, sym, ap, ap₂}
use Prim.Native.Nat.{min, ◌+◌}
use native.Mathlib.Omega.{arith}
use lib.Dec.{eqb}
use Rattle.std.specs.Prelude.{Ok, Err}
use Rattle.std.proofs.lemmas.Result.{err_from_is_err_and}
use Rattle.formula_scan.specs.Fields.{Left, Found, as_numeral, as_left, as_parsed, as_found}
use Rattle.formula.specs.Tree.{span}
use Rattle.formula_scan.specs.Readers.{finding, with_node, put}
use Rattle.formula_scan.proofs.Ways.{got_odd, waits_so, got, atom_x, atom_number, atom_bracket, no_atom, power-plain, power_literal, no_exponent, raise_lost, power-raise, factor_lost, factor_got, product-onward, product-joined, product-ends, product_goes_on, sum-onward, sum_lost, sum-joined, sum-ends, sum_goes_on, bracket_open, bracket_closed}
use Rattle.formula_scan.proofs.Packing.{product_fault, sum_fault, stop_packs, same_read, told_read, got_packs}
use Rattle.formula_scan.proofs.Readings.{no_digit_test}
use Rattle.formula_readers.proofs.+read_atom_read_bracket_read_factor_read_power_read_product_read_sum.Goals as goal

pub read_atom-returns-then-byte-eq40 : goal.read_atom-returns-then-byte-eq40
read_atom-returns-then-byte-eq40 t c = atom_bracket c.args.text.now c.args.at c.args.nodes c.args.fault _ _ _ (sym c.byte_at-byte.ensures ∙ c.if-byte-eq40.true) c.read_bracket.ensures

pub read_atom-returns-then-byte-eq120 : goal.read_atom-returns-then-byte-eq120
read_atom-returns-then-byte-eq120 t c =
    let end = c.args.at + 1 in
    atom_x c.args.text.now c.args.at c.args.nodes c.args.fault _ _ _ (sym c.byte_at-byte.ensures ∙ c.if-byte-eq120.true)
    (c.noted.ensures.value ∙ ap (λ (f : Found). finding true f.odd end (f.nodes + 1) f.fault) c.starting-start.ensures)
    (c.noted.ensures.tree_after ∙ ap₂ (λ (f : Found) kind. put c.args.tree.now f.nodes kind 0 (span c.args.at end)) c.starting-start.ensures c.from.ensures)

pub read_atom-returns-then-not-is_digit : goal.read_atom-returns-then-not-is_digit
read_atom-returns-then-not-is_digit t c = no_atom c.args.text.now c.args.at c.args.nodes c.args.fault _ _ _ c.requires.fact (λ e. c.if-byte-eq40.false (c.byte_at-byte.ensures ∙ e)) (λ e. c.if-byte-eq120.false (c.byte_at-byte.ensures ∙ e)) (λ d. no_digit_test c.byte_at-byte.result (sym c.is_digit.ensures ∙ c.if-not-is_digit.true) (rw c.byte_at-byte.ensures d)) refl

pub read_atom-returns : goal.read_atom-returns
read_atom-returns t c =
    let number = c.read_number-number.result in
    let least = c.min.ensures ∙ ap (λ g. min c.args.fault g) c.number_fault.ensures in
    atom_number c.args.text.now c.args.at c.args.nodes c.args.fault _ _ _ (as_numeral number) c.read_number-number.ensures
    (c.noted-2.ensures.value ∙ ap₂ (λ (f : Found) g. finding f.variable number.odd number.at (f.nodes + 1) g) c.starting-start.ensures least)
    (c.noted-2.ensures.tree_after
    ∙ ap₂ (λ (f : Found) kind. put c.args.tree.now f.nodes kind c.unwrap_or-value.result (span c.args.at number.at)) c.starting-start.ensures c.from-2.ensures
    ∙ ap (λ value. put c.args.tree.now c.args.nodes 0 value (span c.args.at number.at)) c.unwrap_or-value.ensures)

pub read_bracket-returns-then-byte_at-ne41 : goal.read_bracket-returns-then-byte_at-ne41
read_bracket-returns-then-byte_at-ne41 t c =
    let sum = c.in_ok-sum.sum in
    bracket_open c.args.text.now c.args.at c.args.nodes c.args.fault _ (as_parsed sum) _ (got (told_read (Ok sum) c.in_ok-sum.ensures c.read_sum.ensures) refl) (λ e. c.if-byte_at-ne41.true (c.byte_at.ensures ∙ e)) _ refl

pub read_bracket-returns : goal.read_bracket-returns
read_bracket-returns t c =
    let sum = c.in_ok-sum.sum in
    bracket_closed c.args.text.now c.args.at c.args.nodes c.args.fault _ (as_parsed sum) _ (got (told_read (Ok sum) c.in_ok-sum.ensures c.read_sum.ensures) refl) (sym c.byte_at.ensures ∙ c.if-byte_at-ne41.false) _ c.beyond.ensures

pub read_factor-returns-in_err-power : goal.read_factor-returns-in_err-power
read_factor-returns-in_err-power t c =
    let passed = err_from_is_err_and c.from_residual.result c.from_residual.ensures.1 in
    rw (passed.1, passed.2) (factor_lost c.args.text.now c.args.at c.after_minus_signs-first.result c.args.nodes c.args.fault _ (as_found (Err c.in_err-power.field-0.0)) _ c.after_minus_signs-first.ensures c.in_err-power.ensures refl)

pub read_factor-returns : goal.read_factor-returns
read_factor-returns t c = factor_got c.args.text.now c.args.at c.after_minus_signs-first.result c.args.nodes c.args.fault _ (as_parsed c.in_ok-power.power) _ c.after_minus_signs-first.ensures c.in_ok-power.ensures refl _ _ c.negated.ensures.value c.negated.ensures.tree_after

pub read_power-returns-then-is_digit : goal.read_power-returns-then-is_digit
read_power-returns-then-is_digit t c = power_literal c.args.text.now c.args.at c.args.nodes c.args.fault _ (as_parsed c.in_ok-base.base) _ (got c.in_ok-base.ensures refl) (omega (arith, c.byte_at.ensures)) (as_numeral c.read_number-number.result) c.read_number-number.ensures _ _ c.literal_power.ensures.value c.literal_power.ensures.tree_after

pub read_power-returns-then-byte-ne40 : goal.read_power-returns-then-byte-ne40
read_power-returns-then-byte-ne40 t c = no_exponent c.args.text.now c.args.at c.args.nodes c.args.fault _ (as_parsed c.in_ok-base.base) _ (got c.in_ok-base.ensures refl) (omega (arith, c.byte_at.ensures)) (λ e. c.if-byte-ne40.true (c.byte_at-byte.ensures ∙ e)) (λ d. no_digit_test c.byte_at-byte.result (sym c.is_digit.ensures ∙ c.if-is_digit.false) (rw c.byte_at-byte.ensures d)) _ _ refl

pub read_power-returns-in_err-exponent : goal.read_power-returns-in_err-exponent
read_power-returns-in_err-exponent t c =
    let base = c.in_ok-base.base in
    let passed = err_from_is_err_and c.from_residual-in_err-exponent.result c.from_residual-in_err-exponent.ensures.1 in
    rw (passed.1, passed.2) (raise_lost c.args.text.now c.args.at c.args.nodes c.args.fault _ (as_parsed base) _ (got c.in_ok-base.ensures refl) (omega (arith, c.byte_at.ensures)) (sym c.byte_at-byte.ensures ∙ c.if-byte-ne40.false) _ (c.min-least.ensures ∙ ap (λ g. min base.fault g) c.base_fault.ensures) (as_found (Err c.in_err-exponent.field-0.0)) _ c.in_err-exponent.ensures refl)

pub read_power-returns : goal.read_power-returns
read_power-returns t c =
    let base = c.in_ok-base.base in
    let exponent = c.in_ok-exponent.exponent in
    power-raise c.args.text.now c.args.at c.args.nodes c.args.fault _ (as_parsed base) _ (got c.in_ok-base.ensures refl) (omega (arith, c.byte_at.ensures)) (sym c.byte_at-byte.ensures ∙ c.if-byte-ne40.false) _ (c.min-least.ensures ∙ ap (λ g. min base.fault g) c.base_fault.ensures) (as_parsed exponent) _ c.in_ok-exponent.ensures refl _ _
    (c.noted.ensures.value ∙ ap with_node c.both-whole.ensures)
    (c.noted.ensures.tree_after ∙ ap₂ (λ (f : Found) kind. put c.read_bracket.new.tree f.nodes kind 0 (span c.args.at f.at)) c.both-whole.ensures c.from.ensures)

pub read_product-read_factor-requires : goal.read_product-read_factor-requires
read_product-read_factor-requires t c = let so = product-onward c.requires.at_in_bounds c.loop-right.invariant.so_far in (omega (arith, so.after), (so.inside, (so.few c.requires.nodes_le_at, (c.requires.packs.0, omega (arith, product_fault c.loop-right.invariant.so_far, c.requires.packs.1)))))

pub read_product-joined_product-whole-requires-clause-odd_bound_2 : goal.read_product-joined_product-whole-requires-clause-odd_bound_2
read_product-joined_product-whole-requires-clause-odd_bound_2 t c = got_odd (got c.in_ok-right.ensures refl)

pub read_product-returns-then-byte_at-ne42 : goal.read_product-returns-then-byte_at-ne42
read_product-returns-then-byte_at-ne42 t c = product-ends (product-joined c.loop-right.invariant.so_far c.in_ok-right.ensures (as_left c.left_of-left.result) (c.left_of-left.ensures ∙ c.loop-right.invariant.waits) refl (as_parsed c.joined_product-whole.result) _ c.joined_product-whole.ensures.value c.joined_product-whole.ensures.tree_after) (λ e. c.if-byte_at-ne42.true (c.byte_at.ensures ∙ e))

pub read_product-held-waits-requires-in-loop-right-clause-odd_bound : goal.read_product-held-waits-requires-in-loop-right-clause-odd_bound
read_product-held-waits-requires-in-loop-right-clause-odd_bound t c = omega (arith, ap (λ (x : Found). x.odd) c.beyond-next.ensures, got_odd (product-joined c.loop-right.invariant.so_far c.in_ok-right.ensures (as_left c.left_of-left.result) (c.left_of-left.ensures ∙ c.loop-right.invariant.waits) refl (as_parsed c.joined_product-whole.result) _ c.joined_product-whole.ensures.value c.joined_product-whole.ensures.tree_after))

pub read_product-loop-right-preserved : goal.read_product-loop-right-preserved
read_product-loop-right-preserved t c = record { so_far = product_goes_on (product-joined c.loop-right.invariant.so_far c.in_ok-right.ensures (as_left c.left_of-left.result) (c.left_of-left.ensures ∙ c.loop-right.invariant.waits) refl (as_parsed c.joined_product-whole.result) _ c.joined_product-whole.ensures.value c.joined_product-whole.ensures.tree_after) (sym c.byte_at.ensures ∙ c.if-byte_at-ne42.false) _ _ (ap (λ (x : Left). x.sign) c.held-waits-in-loop-right.ensures) c.beyond-next.ensures; waits = waits_so _ _ _ _ (as_parsed c.beyond-next.result) (ap (λ (x : Left). x.first) (c.left_of-left.ensures ∙ c.loop-right.invariant.waits)) c.held-waits-in-loop-right.ensures; same_length = c.joined_product-whole.auto.tree ∙ c.read_factor.auto.tree ∙ c.loop-right.invariant.same_length }

pub read_sum-read_product-requires : goal.read_sum-read_product-requires
read_sum-read_product-requires t c = let so = sum-onward c.requires.at_in_bounds c.loop-right.invariant.so_far in (omega (arith, so.after), (so.inside, (so.few c.requires.nodes_le_at, (c.requires.packs.0, omega (arith, sum_fault c.loop-right.invariant.so_far, c.requires.packs.1)))))

pub read_sum-packed-requires : goal.read_sum-packed-requires
read_sum-packed-requires t c = stop_packs c.in-Err.ensures refl (sum-onward c.requires.at_in_bounds c.loop-right.invariant.so_far).inside c.requires.packs.0

pub read_sum-returns-in-Err : goal.read_sum-returns-in-Err
read_sum-returns-in-Err t c = same_read c.packed.ensures (sum_lost c.loop-right.invariant.so_far c.in-Err.ensures refl)

pub read_sum-joined_sum-whole-requires-clause-odd_bound_2 : goal.read_sum-joined_sum-whole-requires-clause-odd_bound_2
read_sum-joined_sum-whole-requires-clause-odd_bound_2 t c = got_odd (got c.in-Ok.ensures refl)

pub read_sum-packed-requires-then-not-is_sign : goal.read_sum-packed-requires-then-not-is_sign
read_sum-packed-requires-then-not-is_sign t c = got_packs (sum-joined c.loop-right.invariant.so_far c.in-Ok.ensures (as_left c.left_of-left.result) (c.left_of-left.ensures ∙ c.loop-right.invariant.waits) refl (as_parsed c.joined_sum-whole.result) _ c.joined_sum-whole.ensures.value c.joined_sum-whole.ensures.tree_after) c.requires.nodes_le_at c.requires.packs

pub read_sum-returns-then-not-is_sign : goal.read_sum-returns-then-not-is_sign
read_sum-returns-then-not-is_sign t c = same_read c.packed-then-not-is_sign.ensures (sum-ends (sum-joined c.loop-right.invariant.so_far c.in-Ok.ensures (as_left c.left_of-left.result) (c.left_of-left.ensures ∙ c.loop-right.invariant.waits) refl (as_parsed c.joined_sum-whole.result) _ c.joined_sum-whole.ensures.value c.joined_sum-whole.ensures.tree_after) (sym (ap (λ b. eqb b 43 || eqb b 45) c.byte_at-sign.ensures) ∙ sym c.is_sign.ensures ∙ c.if-not-is_sign.true))

pub read_sum-held-waits-requires-in-loop-right-clause-odd_bound : goal.read_sum-held-waits-requires-in-loop-right-clause-odd_bound
read_sum-held-waits-requires-in-loop-right-clause-odd_bound t c = omega (arith, ap (λ (x : Found). x.odd) c.beyond-next.ensures, got_odd (sum-joined c.loop-right.invariant.so_far c.in-Ok.ensures (as_left c.left_of-left.result) (c.left_of-left.ensures ∙ c.loop-right.invariant.waits) refl (as_parsed c.joined_sum-whole.result) _ c.joined_sum-whole.ensures.value c.joined_sum-whole.ensures.tree_after))

pub read_sum-loop-right-preserved : goal.read_sum-loop-right-preserved
read_sum-loop-right-preserved t c = record { so_far = sum_goes_on (sum-joined c.loop-right.invariant.so_far c.in-Ok.ensures (as_left c.left_of-left.result) (c.left_of-left.ensures ∙ c.loop-right.invariant.waits) refl (as_parsed c.joined_sum-whole.result) _ c.joined_sum-whole.ensures.value c.joined_sum-whole.ensures.tree_after) (sym (ap (λ b. eqb b 43 || eqb b 45) c.byte_at-sign.ensures) ∙ sym c.is_sign.ensures ∙ c.if-not-is_sign.false) _ _ (ap (λ (x : Left). x.sign) c.held-waits-in-loop-right.ensures ∙ c.byte_at-sign.ensures) c.beyond-next.ensures; waits = waits_so _ _ _ _ (as_parsed c.beyond-next.result) (ap (λ (x : Left). x.first) (c.left_of-left.ensures ∙ c.loop-right.invariant.waits)) c.held-waits-in-loop-right.ensures; same_length = c.joined_sum-whole.auto.tree ∙ c.read_product.auto.tree ∙ c.loop-right.invariant.same_length }

pub read_power-returns-then-byte_at-ne94 : goal.read_power-returns-then-byte_at-ne94
read_power-returns-then-byte_at-ne94 t c = power-plain c.args.text.now c.args.at c.args.nodes c.args.fault _ _ _ (got c.in_ok-base.ensures refl) (λ e. c.if-byte_at-ne94.true (c.byte_at.ensures ∙ e))
