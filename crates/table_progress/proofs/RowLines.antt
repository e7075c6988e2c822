-- The lines of a plan's rows: what is computed of them is what table/specs/Run.antt says, and nothing else is;
-- and one line is written behind the other. How long they are is in Lengths.antt.
use mathlib.Core.Path.{◌≡◌, refl, sym, ap, ap₂, subst, ◌∙◌}
use mathlib.Core.Bool.{Bool, true, false, cond}
use mathlib.Core.List.{List, [], ◌++◌, append-nil}
use Prim.Native.Nat.{ℕ, zero, suc, ◌+◌, ◌≤◌, ◌<◌}
use native.Mathlib.Numerals.{add-one}
use native.Mathlib.Omega.{arith}
use lib.Dec.{ltb}
use lib.ListN.{length}
use borrow.Author.Tests.{ltb-true, ltb-false, lt-ltb, le-ltb}
use Rattle.plan.specs.Measures.{longest_text}
use Rattle.plan.specs.Row.{Row, kind, first_byte, end_byte}
use Rattle.plan.specs.Plan.{row_count, row, refusal}
use Rattle.plan.proofs.Accepting.{accepted}
use Rattle.plan.proofs.SpanLaws.{sound-span}
use Rattle.reason.specs.RowTrees.{row_tree}
use Rattle.fold.specs.Folded.{Folded}
use Rattle.reason.specs.declared.Reason.{Reason as Reasons}
use Rattle.reason.specs.declared.Reason.TheVariants.{OperandStays, LengthsAddOver, LengthTimesOver, AgainstProduct, TwoProducts, ExponentNeither, WouldFold}
use Rattle.reason.specs.Answer.{reason_number}
use Rattle.reason.specs.Reasons.{operand-stays, lengths-add, length-times, against_product, two_products, exponent-neither, Reason, would_fold, stays}
use Rattle.reason.proofs.Numbers.{reason_of}
use Rattle.reason.proofs.OneReason.{one_reason}
use Rattle.reason.proofs.SoundRows.{row_has_reason, row_reason}
use Rattle.table_fields.specs.declared.writer.Writer.{Writer}
use Rattle.table_fields.specs.Writer.{Writes}
use Rattle.table_fields.proofs.Joining.{none_written, written_as, both_written}
use Rattle.table.specs.Lines.{row_line}
use Rattle.table.specs.Run.{RowsPrint, no_row, passed_over, explained}
use Rattle.table_progress.specs.Printed.{TextsWithin, row_prints, rows_print}

-- ---- one row
module _ (formula p : List ℕ) (r : ℕ) where
  nothing-printed : kind (row p r) < 3 → row_prints formula p r ≡ []
  nothing-printed few = rw (lt-ltb (kind (row p r)) 3 few)

  -- Any number that is its reason is the one shown.
  row-printed : {reason : ℕ} → 3 ≤ kind (row p r) → Reason 64 (row_tree p r) reason → Reason 64 (row_tree p r) (reason_of (row_tree p r))
      → row_prints formula p r ≡ row_line formula r (row p r) reason
  row-printed some given shown =
      ap (λ t. cond t [] (row_line formula r (row p r) (reason_of (row_tree p r)))) (le-ltb (kind (row p r)) 3 some)
      ∙ ap (row_line formula r (row p r)) (one_reason shown given)

-- ---- a reason's number is on the list
known_reason : {w n : ℕ} {t : Folded} → Reason w t n → (1 ≤ n) × (n ≤ 7)
known_reason (would_fold h) = (omega arith, omega arith)
known_reason (stays h (operand-stays x)) = (omega arith, omega arith)
known_reason (stays h (lengths-add x)) = (omega arith, omega arith)
known_reason (stays h (length-times x)) = (omega arith, omega arith)
known_reason (stays h (against_product x)) = (omega arith, omega arith)
known_reason (stays h (two_products x)) = (omega arith, omega arith)
known_reason (stays h (exponent-neither x)) = (omega arith, omega arith)

numbered : (reason : Reasons) → 1 ≤ reason_number reason
numbered OperandStays = omega arith
numbered LengthsAddOver = omega arith
numbered LengthTimesOver = omega arith
numbered AgainstProduct = omega arith
numbered TwoProducts = omega arith
numbered ExponentNeither = omega arith
numbered WouldFold = omega arith

-- ---- the first r rows of a plan that no call refuses
module _ (formula p : List ℕ) (good : refusal p ≡ 0) where
  shown : (r : ℕ) → r < row_count p → 3 ≤ kind (row p r) → Reason 64 (row_tree p r) (reason_of (row_tree p r))
  shown r h some = let (long, sound) = accepted p good in row_has_reason p long sound r h some 64

  -- The part of the formula that row r spans.
  pub row-text : TextsWithin formula p → (r : ℕ) → r < row_count p → {x : Row} → x ≡ row p r
      → (first_byte x ≤ end_byte x) × (end_byte x ≤ length formula) × (end_byte x ≤ longest_text)
  row-text within r h same =
      let (rises, short) = sound-span p r (accepted p good).1 h in
      subst (λ y. (first_byte y ≤ end_byte y) × (end_byte y ≤ length formula) × (end_byte y ≤ longest_text)) (sym same) (omega (arith, rises), within r h, short)

  -- What row r prints, by the reason that the code finds for it.
  module _ (r : ℕ) (h : r < row_count p) where
    by_kind : (t : Bool) → ltb (kind (row p r)) 3 ≡ t → row_reason p r ≡ cond t 0 (reason_of (row_tree p r))
    unfolding row_reason
    by_kind t e = ap (λ u. cond u 0 (reason_of (row_tree p r))) e

    none-explained : 0 ≡ row_reason p r → row_prints formula p r ≡ []
    none-explained none = go (ltb (kind (row p r)) 3) refl
      where
        go : (t : Bool) → ltb (kind (row p r)) 3 ≡ t → row_prints formula p r ≡ []
        go true e = nothing-printed formula p r (ltb-true (kind (row p r)) 3 e)
        go false e =
            absurd (omega (arith, none, by_kind false e, (known_reason (shown r h (ltb-false (kind (row p r)) 3 e))).0))

    operates : (reason : Reasons) → reason_number reason ≡ row_reason p r → 3 ≤ kind (row p r)
    operates reason answered = go (ltb (kind (row p r)) 3) refl
      where
        go : (t : Bool) → ltb (kind (row p r)) 3 ≡ t → 3 ≤ kind (row p r)
        go true e = absurd (omega (arith, numbered reason, answered, by_kind true e))
        go false e = ltb-false (kind (row p r)) 3 e

    pub nothing-written : 0 ≡ row_reason p r → (w : Writer) → Writes w (row_prints formula p r) w
    nothing-written none w = written_as (sym (none-explained none)) (none_written w)

    pub line-written : {x : Row} → x ≡ row p r → (reason : Reasons) → reason_number reason ≡ row_reason p r → {w v : Writer}
        → Writes w (row_line formula r x (reason_number reason)) v → Writes w (row_prints formula p r) v
    line-written same reason answered line =
        let some = operates reason answered in
        written_as
        (ap₂ (λ y k. row_line formula r y k) same (answered ∙ by_kind false (le-ltb (kind (row p r)) 3 some))
        ∙ sym (row-printed formula p r some (shown r h some) (shown r h some)))
        line

  pub rows_said : (r : ℕ) → r ≤ row_count p → RowsPrint formula p r (rows_print formula p r)
  unfolding rows_print
  rows_said zero h = no_row
  rows_said (suc r) h = go (ltb (kind (row p r)) 3) refl (rows_said r (omega arith))
    where
      go : (t : Bool) → ltb (kind (row p r)) 3 ≡ t → RowsPrint formula p r (rows_print formula p r)
          → RowsPrint formula p (suc r) (rows_print formula p r ++ cond t [] (row_line formula r (row p r) (reason_of (row_tree p r))))
      go true e before =
          subst (RowsPrint formula p (suc r)) (sym (append-nil (rows_print formula p r))) (passed_over before (ltb-true (kind (row p r)) 3 e))
      go false e before =
          let some = ltb-false (kind (row p r)) 3 e in
          explained (rows_print formula p r) before some (shown r h some)

  pub rows_only : {r : ℕ} {printed : List ℕ} → r ≤ row_count p → RowsPrint formula p r printed → printed ≡ rows_print formula p r
  unfolding rows_print
  rows_only h no_row = refl
  rows_only h (passed_over {r} before few) =
      rows_only (omega arith) before
      ∙ sym (ap (λ s. rows_print formula p r ++ s) (nothing-printed formula p r few) ∙ append-nil (rows_print formula p r))
  rows_only h (explained {r} printed before some given) =
      ap₂ ◌++◌ (rows_only (omega arith) before) (sym (row-printed formula p r some given (shown r h some)))

-- ---- as the code writes them
-- What row r prints, behind what the rows before it print
pub row_next : {w v u : Writer} (formula p : List ℕ) (r : ℕ) → w.at ≤ length w.out.now
    → Writes w (rows_print formula p r) v → Writes v (row_prints formula p r) u → Writes w (rows_print formula p (r + 1)) u
unfolding rows_print
row_next formula p r room before line = written_as (ap (rows_print formula p) (sym (add-one r))) (both_written room before line)
