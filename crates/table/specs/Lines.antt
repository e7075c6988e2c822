-- The lines that a job prints. Which of them a run prints is in Run.antt.
use Rattle.std.specs.Prelude.{List, [], ◌∷◌, ◌++◌, ℕ, zero, suc}
use Rattle.formula.specs.Tree.{Tree}
use Rattle.formula.specs.Value.{direct_value}
use Rattle.plan.specs.Row.{Row, first_byte, end_byte, row_cost}
use Rattle.fold.specs.RowSpans.{text_of}
use Rattle.reason.specs.Wording.{reason_text}
use Rattle.table.specs.Decimal.{decimal}
use Rattle.table.specs.Parts.{tab, line_feed}

-- Three numbers, each behind a tab, and the end of the line.
abbrev pub three_numbers : ℕ → ℕ → ℕ → List ℕ
three_numbers a b c = tab ∷ decimal a ++ tab ∷ decimal b ++ tab ∷ decimal c ++ line_feed ∷ []

-- "`no`, job number, refusal, place"
abbrev pub no_line : ℕ → ℕ → ℕ → List ℕ
no_line n refusal place = 110 ∷ 111 ∷ three_numbers n refusal place

-- "`job`, its number from 1, rows, plan cost"
abbrev pub job_line : ℕ → ℕ → ℕ → List ℕ
job_line n row_number plan_cost = 106 ∷ 111 ∷ 98 ∷ three_numbers n row_number plan_cost

-- A point: "its index and value".
abbrev pub point_line : ℕ → ℕ → List ℕ
point_line i value = decimal i ++ tab ∷ decimal value ++ line_feed ∷ []

-- "then for each point its index and value", from index i on.
unfoldable pub point_lines : ℕ → List ℕ → List ℕ
point_lines i [] = []
point_lines i (value ∷ more) = point_line i value ++ point_lines (suc i) more

-- A row, for the row explainer, with "its span and one reason" (request Six): `row`, its number from 0, first byte, end byte, its cost, the reason's words
-- and the text of its span, a part of the formula.
abbrev pub row_line : (formula : List ℕ) (r : ℕ) → Row → (reason : ℕ) → List ℕ
row_line formula r x reason =
    114 ∷ 111 ∷ 119 ∷ tab ∷ decimal r ++ tab ∷ decimal (first_byte x) ++ tab ∷ decimal (end_byte x) ++ tab ∷ decimal (row_cost x)
    ++ tab ∷ reason_text reason
    ++ tab ∷ text_of formula x
    ++ line_feed ∷ []

-- What the points stand for: a tree's direct values, n of them, from index i on.
unfoldable pub direct_values : (w start step : ℕ) → Tree → (i n : ℕ) → List ℕ
direct_values w start step t i zero = []
direct_values w start step t i (suc n) = direct_value w start step t i ∷ direct_values w start step t (suc i) n
