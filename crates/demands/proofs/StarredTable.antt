-- The starred table: its cases on a grid computed by one test, those on any grid proved, and the law that reads a case off: what the case says
-- holds of the public contracts.
use mathlib.Core.Path.{◌≡◌, refl, ap, ◌∙◌}
use mathlib.Core.Bool.{Bool, true, false, cond, true≢false}
use mathlib.Core.List.{List, [], ◌∷◌, map}
use Prim.Native.Nat.{ℕ, zero, suc, ◌+◌, ◌*◌, ◌<◌}
use native.Mathlib.Nat.{not-suc-le-zero, le_of_suc-le-suc}
use lib.ListN.{length, get_or}
use Rattle.chain.specs.Chain.{shift, joined, with_last, without_trailing, trimmed, row}
use Rattle.chain.specs.SumChain.{times, product_by, power}
use Rattle.chain.specs.Coefficients.{tabulated}
use Rattle.formula.specs.Tree.{Span, Tree, span_of}
use Rattle.formula.specs.Value.{value_for, direct_value}
use Rattle.formula_scan.specs.Verdict.{Verdict, refused, accepted, verdict}
use Rattle.formula_scan.proofs.Closed.{judges}
use Rattle.formula_scan.proofs.Verdicts.{verdict-refused, verdict-accepted}
use Rattle.plan.specs.Row.{Row, kind_facts}
use Rattle.plan.specs.Plan.{cost_of}
use Rattle.plan.specs.Points.{shifted_row}
use Rattle.fold.specs.Folded.{Folded, constant, is_constant}
use Rattle.fold.specs.Folding.{word_of, fold_sum, fold_minus, fold_difference, fold_product, fold_power, fold_raise, fold}
use Rattle.fold.specs.Layout.{row_count, rows_from}
use Rattle.fold.proofs.Tests.{shaped}
use Rattle.demands.specs.Starred.{Expected, refusal, folds, constantly, fills, Grid, grid_of, any_grid, Case, starred, case_at}
use Rattle.demands.specs.Starred.{SaysOf, SaysOn, Says}
use Rattle.demands.proofs.PlanRows.{shifted_rows, points_by_rows}
use Rattle.demands.proofs.Expectations.{refused_so, folds_so, constantly_so, fills_so}
use Rattle.demands.proofs.AnyGrid.{folds_to_seven}

-- ---- what the definitions make of a case, put as its expectation is put
-- The folded tree and the rows of its plan, unfolded all the way: named on an `unfolding` line, they compute.
unfoldable pub folded_of : (start step : ℕ) → Tree → Folded
unfolding fold fold_sum fold_minus fold_difference fold_product fold_power fold_raise shift joined with_last without_trailing trimmed times product_by power
folded_of start step t = fold 64 start step t

unfoldable pub rows_of : (start step : ℕ) → Tree → List Row
unfolding folded_of row_count rows_from row
rows_of start step t = rows_from 0 (span_of t) (folded_of start step t)

abbrev pub folds_to : (start step count : ℕ) → Tree → List Row → Expected
folds_to start step count t rows = folds rows (cost_of rows) (tabulated (direct_value 64 start step t) 0 count)

abbrev pub fills_to : (budget room : ℕ) → List Row → Expected
fills_to budget room rows =
    let points = points_by_rows budget room rows in
    fills budget room points (points * (cost_of rows + 1)) (shifted_rows 64 points rows)

-- A constant with its span; anything else is put as a refusal that no text gets.
abbrev pub constant_to : Span → Folded → Expected
constant_to whole a = cond (is_constant a) (constantly (word_of a) whole) (refusal 0 0)

-- As many values as are expected, and the filling with the budget and room that are given.
unfoldable pub found_of : (start step : ℕ) → Expected → Verdict → Expected
found_of start step e (refused n p) = refusal n p
found_of start step (refusal n p) (accepted t) = folds_to start step 0 t (rows_of start step t)
found_of start step (folds rows cost values) (accepted t) = folds_to start step (length values) t (rows_of start step t)
found_of start step (constantly value whole) (accepted t) = constant_to (span_of t) (folded_of start step t)
found_of start step (fills budget room points spent left) (accepted t) = fills_to budget room (rows_of start step t)

-- On any grid nothing is computed.
unfoldable pub found_on : Grid → Expected → Verdict → Expected
found_on (grid_of start step) e v = found_of start step e v
found_on any_grid e v = e

abbrev pub found : Case → Expected
found c = found_on c.grid c.expected (verdict c.text)

-- ---- the test, over the whole table
pub as_expected : map found starred ≡ map (λ c. c.expected) starred
unfolding starred found_of found_on folded_of shifted_rows judges rows_of cost_of kind_facts shifted_row tabulated value_for
as_expected = refl

-- ---- what the test leaves to be proved: what the cases on any grid say
abbrev Besides : Grid → Type 0 → Type 0 → Type 0
Besides (grid_of start step) Here Later = Later
Besides any_grid Here Later = Here × Later

unfoldable OnAnyGrid : List Case → Type 0
OnAnyGrid [] = Unit {0}
OnAnyGrid (c ∷ l) = Besides c.grid (Says c) (OnAnyGrid l)

on_any_grid : OnAnyGrid starred
unfolding starred OnAnyGrid judges
on_any_grid = (
  λ start step. let seven = verdict-accepted _ refl in constantly_so _ start step seven (folds_to_seven seven refl start step) refl,
  tt,
)

-- ---- a case read off
module _ (s : List ℕ) (start step : ℕ) where
  constant_says : {t : Tree} {value : ℕ} {whole : Span} → verdict s ≡ accepted t → (b : Bool) → is_constant (fold 64 start step t) ≡ b
      → cond b (constantly (word_of (fold 64 start step t)) (span_of t)) (refusal 0 0) ≡ constantly value whole
      → SaysOf s start step (constantly value whole)
  constant_says {t} {whole = whole} h true e same =
      constantly_so s start step (verdict-accepted s h) {whole = whole} ((shaped (fold 64 start step t)).constantly e ∙ ap constant (cc)) (cc)
  constant_says h false e same = absurd (true≢false cc)

  found_says : (e : Expected) (v : Verdict) → verdict s ≡ v → found_of start step e v ≡ e → SaysOf s start step e
  unfolding found_of folded_of rows_of
  found_says (refusal n p) (refused m q) h e = refused_so s start step (verdict-refused s cc)
  found_says (refusal n p) (accepted t) h e = absurd (true≢false cc)
  found_says (folds rows cost values) (refused m q) h e = absurd (true≢false cc)
  found_says (folds rows cost values) (accepted t) h e = folds_so s start step (verdict-accepted s h) (cc) (cc) (cc)
  found_says (constantly value whole) (refused m q) h e = absurd (true≢false cc)
  found_says (constantly value whole) (accepted t) h e = constant_says h _ refl e
  found_says (fills budget room points spent left) (refused m q) h e = absurd (true≢false cc)
  found_says (fills budget room points spent left) (accepted t) h e = fills_so s start step (verdict-accepted s h) (cc) (cc) (cc)

case_says : (s : List ℕ) (g : Grid) (e : Expected) {Later : Type 0} → found_on g e (verdict s) ≡ e → Besides g (SaysOn s g e) Later
    → SaysOn s g e × Later
unfolding found_on
case_says s (grid_of start step) e same later = (found_says s start step e (verdict s) refl same, later)
case_says s any_grid e same both = both

says_at : (l : List Case) (d : Case) (i : ℕ) → map found l ≡ map (λ c. c.expected) l → OnAnyGrid l → i < length l → Says (get_or l i d)
unfolding OnAnyGrid
says_at [] d i e any h = absurd (not-suc-le-zero h)
says_at (c ∷ l) d zero e any h = (case_says c.text c.grid c.expected (cc) any).0
says_at (c ∷ l) d (suc i) e any h = says_at l d i (cc) (case_says c.text c.grid c.expected (cc) any).1 (le_of_suc-le-suc h)

-- Whatever is written in a case of the table holds.
pub starred_says : (i : ℕ) → i < length starred → Says (case_at i)
starred_says i h = says_at starred _ i as_expected on_any_grid h
