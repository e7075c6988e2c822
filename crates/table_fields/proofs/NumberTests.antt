-- The test of a field says what the grammar says of numbers, and what was printed is read back.
use mathlib.Core.Path.{◌≡◌, refl}
use mathlib.Core.Bool.{Bool, true, false, ◌&&◌, ◌||◌, false≢true}
use mathlib.Core.List.{List, [], ◌∷◌}
use Prim.Native.Nat.{ℕ, ◌≤◌}
use native.Mathlib.Omega.{arith}
use lib.Dec.{leb}
use borrow.Author.Tests.{le-leb, leb-true, leb-false}
use Rattle.formula.specs.Bytes.{Digit, digits_from}
use Rattle.formula.specs.Grammar.{Digits, no_digit, digit, Number, nought, digits}
use Rattle.formula_scan.proofs.Readings.{digit_test}
use Rattle.table.specs.Decimal.{decimal}
use Rattle.table.specs.NumberField.{all_digits, is_empty, is_number, number_up_to}
use Rattle.table_fields.specs.Reading.{taken}
use Rattle.table.proofs.Digits.{decimal-number, decimal-value}

both : (a b : Bool) → (a && b) ≡ true → (a ≡ true) × (b ≡ true)
both true b e = (refl, e)
both false b e = absurd (false≢true e)

-- ---- the test and the grammar
digits_hold : {s : List ℕ} → Digits s → all_digits s ≡ true
unfolding all_digits
digits_hold no_digit = refl
digits_hold (digit {d} {ds} h more) = rw (le-leb 48 d h.0, le-leb d 57 h.1) (digits_hold more)

digits_held : (s : List ℕ) → all_digits s ≡ true → Digits s
unfolding all_digits
digits_held [] e = no_digit
digits_held (d ∷ s) e =
    let parts = both (leb 48 d && leb d 57) (all_digits s) e in
    digit (digit_test d parts.0) (digits_held s parts.1)

pub number_tested : {s : List ℕ} {v : ℕ} → Number s v → is_number s ≡ true
unfolding is_number all_digits
number_tested nought = refl
number_tested (digits {d} {ds} low high more) = rw (le-leb 48 d (omega arith), le-leb d 57 high, digits_hold more, le-leb 49 d low) (either (is_empty ds))
  where
    either : (t : Bool) → (t || true) ≡ true
    either true = refl
    either false = refl

pub tested_number : (s : List ℕ) → is_number s ≡ true → Number s (digits_from 0 s)
unfolding is_number digits_from
tested_number [] e = absurd (false≢true e)
tested_number (d ∷ ds) e =
    let parts = both (all_digits (d ∷ ds)) (is_empty ds || leb 49 d) e in
    go ds (digits_held (d ∷ ds) parts.0) parts.1
  where
    tail : {ds : List ℕ} → Digits (d ∷ ds) → Digit d × Digits ds
    tail (digit h more) = (h, more)

    alone : (t : Bool) → leb 49 d ≡ t → Digits (d ∷ []) → Number (d ∷ []) (digits_from 0 (d ∷ []))
    alone true p held = digits (leb-true 49 d p) (tail held).0.1 no_digit
    alone false p held = zeroth d (omega (arith, leb-false 49 d p, (tail held).0))
      where
        zeroth : (d : ℕ) → d ≡ 48 → Number (d ∷ []) (digits_from 0 (d ∷ []))
        zeroth d q = rw q nought

    go : (ds : List ℕ) → Digits (d ∷ ds) → (is_empty ds || leb 49 d) ≡ true → Number (d ∷ ds) (digits_from 0 (d ∷ ds))
    go [] held e = alone (leb 49 d) refl held
    go (c ∷ ds) held e = digits (leb-true 49 d e) (tail held).0.1 (tail held).1

pub number-value : {s : List ℕ} {v : ℕ} → Number s v → v ≡ digits_from 0 s
unfolding digits_from
number-value nought = refl
number-value (digits low high more) = refl

-- What was printed is read back.
pub decimal_up_to : (most n : ℕ) → n ≤ most → number_up_to most (decimal n) ≡ taken n
unfolding number_up_to
decimal_up_to most n h = rw (number_tested (decimal-number n), decimal-value n, le-leb n most h)
