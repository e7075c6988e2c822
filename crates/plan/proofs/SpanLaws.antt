-- Spans of rows: what soundness says of them, and that they never change under filling. None of the laws of filling asks for a sound plan.
use mathlib.Core.Path.{◌≡◌, refl, sym, ap, ◌∙◌}
use mathlib.Core.Bool.{Bool, true, false, cond}
use mathlib.Core.List.{List, [], ◌∷◌}
use Prim.Native.Nat.{ℕ, zero, suc, ◌+◌, ◌-◌, ◌*◌, ◌≤◌, ◌<◌}
use native.Mathlib.Omega.{arith}
use borrow.Author.Tests.{ltb-true, ltb-false, leb-true}
use lib.Dec.{eqb, ltb}
use lib.IntN.{pos}
use lib.ListN.{length, drop, take}
use lib.Seq.{drop-drop}
use Rattle.plan.specs.Measures.{longest_text, row_length, row_start}
use Rattle.plan.specs.Row.{first_byte, end_byte, keeps_table, sound_base}
use Rattle.plan.specs.Plan.{row_count, row, first_rows, sound, refusal}
use Rattle.plan.specs.Points.{shifted_plan}
use Rattle.plan.specs.Filling.{points_for, plan_after, filled, fill_refused, fill}
use Rattle.plan.specs.Calls.{Call, plan_left}
use Rattle.plan.specs.Eras.{eras_over, eras_refusal, with_sum, fill_eras}
use Rattle.plan.proofs.RowLaws.{row-part}
use Rattle.plan.proofs.SoundLaws.{and_left, and_right, sound-row}
use Rattle.plan.proofs.Keeping.{span_word, span-word, row-shifted, past-plan}

-- ---- each counted row of a sound plan came from some text
pub sound-span : (p : List ℕ) (r : ℕ) → sound p ≡ true → r < row_count p
    → (first_byte (row p r) < end_byte (row p r)) × (end_byte (row p r) ≤ longest_text)
sound-span p r e h =
    let x = row p r in
    let spans = and_right (sound_base (first_rows r p) x) _ (and_right (keeps_table (length (first_rows r p)) x) _ (sound-row p r e h)) in (
      ltb-true (first_byte x) (end_byte x) (and_left (ltb (first_byte x) (end_byte x)) _ spans),
      leb-true (end_byte x) longest_text (and_right (ltb (first_byte x) (end_byte x)) _ spans),
    )

-- ---- "Filling .. leaves spans alone": word j of row r's span, for every row, counted or not
-- The rows that word 0 does not count are not shifted.
row-past : (w : ℕ) (p : List ℕ) (r : ℕ) → row_count p ≤ r → row (shifted_plan w p) r ≡ row p r
row-past w p r h = row-part (shifted_plan w p) r ∙ ap (λ f. take (row_start r + row_length - row_start r) f) behind ∙ sym (row-part p r)
  where
    place : row_start r ≡ row_start (row_count p) + row_length * (r - row_count p)
    place = omega arith

    behind : drop (row_start r) (shifted_plan w p) ≡ drop (row_start r) p
    behind =
        let later = row_length * (r - row_count p) in
        ap (λ k. drop k (shifted_plan w p)) place
        ∙ sym (drop-drop later (row_start (row_count p)) (shifted_plan w p))
        ∙ ap (λ f. drop later f) (past-plan w p)
        ∙ drop-drop later (row_start (row_count p)) p
        ∙ ap (λ k. drop k p) (sym place)

span-plan : (w : ℕ) (p : List ℕ) (r j : ℕ) → span_word j (row (shifted_plan w p) r) ≡ span_word j (row p r)
span-plan w p r j = go (ltb r (row_count p)) refl
  where
    go : (b : Bool) → ltb r (row_count p) ≡ b → span_word j (row (shifted_plan w p) r) ≡ span_word j (row p r)
    go true e = ap (λ x. span_word j x) (row-shifted w p r (ltb-true r (row_count p) e)) ∙ span-word w j (row p r)
    go false e = ap (λ x. span_word j x) (row-past w p r (ltb-false r (row_count p) e))

span-after : (w n : ℕ) (p : List ℕ) (r j : ℕ) → span_word j (row (plan_after w n p) r) ≡ span_word j (row p r)
unfolding plan_after
span-after w zero p r j = refl
span-after w (suc n) p r j = span-after w n (shifted_plan w p) r j ∙ span-plan w p r j

module _ (w : ℕ) (p table : List ℕ) (budget r : ℕ) where
  span_filled : (j : ℕ) → span_word j (row (fill w p table budget).plan r) ≡ span_word j (row p r)
  unfolding fill
  span_filled j = go (eqb (refusal p) 0)
    where
      go : (b : Bool)
          → span_word j (row (cond b (filled w (points_for p (length table) budget) p table) (fill_refused (refusal p) p table)).plan r) ≡ span_word j (row p r)
      go true = span-after w (points_for p (length table) budget) p r j
      go false = refl

  span-counted : (j : ℕ) → span_word j (row (fill_eras w p table budget).plan r) ≡ span_word j (row p r)
  unfolding fill_eras
  span-counted j = go (eqb (eras_refusal p) 0)
    where
      go : (b : Bool)
          → span_word j
          (row (cond b
          (with_sum (filled w (points_for p (length table) budget) p table) (eras_over w (points_for p (length table) budget) p))
          (with_sum (fill_refused (eras_refusal p) p table) (pos 0))).plan r) ≡ span_word j (row p r)
      go true = span-after w (points_for p (length table) budget) p r j
      go false = refl

  -- Spans never change under filling, with era count or without.
  pub spans_stay : let left = (fill w p table budget).plan in
      (first_byte (row left r) ≡ first_byte (row p r)) × (end_byte (row left r) ≡ end_byte (row p r))
  spans_stay = (span_filled 0, span_filled 1)

  pub spans_stay_counted : let left = (fill_eras w p table budget).plan in
      (first_byte (row left r) ≡ first_byte (row p r)) × (end_byte (row left r) ≡ end_byte (row p r))
  spans_stay_counted = (span-counted 0, span-counted 1)

-- Nor under calls one after the other.
span-called : (w : ℕ) (p : List ℕ) (calls : List Call) (r j : ℕ) → span_word j (row (plan_left w p calls) r) ≡ span_word j (row p r)
unfolding plan_left
span-called w p [] r j = refl
span-called w p (call ∷ calls) r j =
    span-called w (fill w p call.table call.budget).plan calls r j ∙ span_filled w p call.table call.budget r j

pub spans_stay_called : (w : ℕ) (p : List ℕ) (calls : List Call) (r : ℕ) → let left = plan_left w p calls in
    (first_byte (row left r) ≡ first_byte (row p r)) × (end_byte (row left r) ≡ end_byte (row p r))
spans_stay_called w p calls r = (span-called w p calls r 0, span-called w p calls r 1)
