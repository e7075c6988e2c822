-- What a field holds, by the number that is read from its first byte on: none, if the number ends before the field does or is too large.
use mathlib.Core.Path.{◌≡◌, refl, sym, ap, subst, ◌∙◌}
use mathlib.Core.Bool.{Bool, true, false, cond, ◌&&◌}
use mathlib.Core.List.{List}
use Prim.Native.Nat.{ℕ, zero, suc, ◌-◌, ◌^◌, ◌≤◌, ◌<◌}
use native.Mathlib.Omega.{arith}
use lib.Dec.{leb}
use lib.ListN.{length, get_or}
use lib.Seq.{take_all}
use borrow.Author.Tests.{le-leb, lt-leb, leb-true, leb-false}
use Rattle.formula.specs.Bytes.{Digit, digits_from}
use Rattle.formula.specs.Grammar.{Number, nought, digits}
use Rattle.formula_scan.specs.Fields.{Numeral}
use Rattle.formula_scan.specs.Readers.{NumberRead}
use Rattle.formula_scan.proofs.Numerals.{kept_fits}
use Rattle.table.specs.NumberField.{is_number, number_up_to}
use Rattle.table.proofs.Digits.{digit_at}
use Rattle.table_fields.specs.Reading.{taken, not_taken}
use Rattle.table_fields.proofs.NumberTests.{number_tested, tested_number, number-value}

-- ---- a field that is no number
not-number : (most : ℕ) (s : List ℕ) → (is_number s ≡ true → ⊥) → not_taken ≡ number_up_to most s
unfolding number_up_to
not-number most s never = go (is_number s) never
  where
    go : (t : Bool) → (t ≡ true → ⊥) → not_taken ≡ cond (t && leb (digits_from 0 s) most) (taken (digits_from 0 s)) not_taken
    go true never = absurd (never refl)
    go false never = refl

begins : {s : List ℕ} {v : ℕ} → Number s v → Digit (get_or s 0 0)
begins nought = (omega arith, omega arith)
begins (digits low high more) = (omega arith, high)

pub no_digit-first : (most : ℕ) (s : List ℕ) → (Digit (get_or s 0 0) → ⊥) → not_taken ≡ number_up_to most s
no_digit-first most s none = not-number most s (λ e. none (begins (tested_number s e)))

-- A number does not end before its last digit.
ends_last : {s : List ℕ} {v : ℕ} → Number s v → (at : ℕ) → 0 < at → at < length s → (49 ≤ get_or s 0 0 → Digit (get_or s at 0) → ⊥) → ⊥
ends_last nought at some h all = omega arith
ends_last (digits low high more) zero some h all = omega arith
ends_last (digits low high more) (suc i) some h all = all low (digit_at more i (omega arith))

-- ---- a field with the number that begins it
module _ (most : ℕ) {s : List ℕ} {r : Numeral} (read : NumberRead 64 s 0 r) where
  pub more_behind : r.at < length s → not_taken ≡ number_up_to most s
  more_behind h = not-number most s (λ e. ends_last (tested_number s e) r.at read.onward h read.all)

  module _ (whole : length s ≤ r.at) where
    number : Number s read.v
    number = subst (λ l. Number l read.v) (take_all (r.at - 0) s (omega arith)) read.spelt

    decided : (t : Bool) → leb read.v most ≡ t → number_up_to most s ≡ cond t (taken read.v) not_taken
    unfolding number_up_to
    decided t e = rw (number_tested number, ← number-value number, e)

    pub too_long : most < 2 ^ 64 → r.over ≡ true → not_taken ≡ number_up_to most s
    too_long h over = sym (decided false (lt-leb read.v most (omega (arith, leb-true (2 ^ 64) read.v (sym read.value-over ∙ over)))))

    module _ (fits : r.over ≡ false) where
      value : r.value ≡ read.v
      value = read.value-kept ∙ kept_fits 64 read.v (leb-false (2 ^ 64) read.v (sym read.value-over ∙ fits))

      pub too_large : most < r.value → not_taken ≡ number_up_to most s
      too_large h = sym (decided false (lt-leb read.v most (omega (arith, value))))

      pub small_enough : r.value ≤ most → taken r.value ≡ number_up_to most s
      small_enough h = ap taken value ∙ sym (decided true (le-leb read.v most (omega (arith, value))))
