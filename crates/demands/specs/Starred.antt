-- 01's starred cases as one table: the lines with a star of 'Both sides of the edges', each under 01's own words, and what a line says of the
-- public contracts. proofs/StarredTable.antt has the theorem that each says what holds.
use Rattle.std.specs.Prelude.{◌≡◌, List, [], ◌∷◌, ◌++◌, ℕ, ◌-◌, ◌*◌, ◌^◌, ◌≤◌, ◌<◌, length, get_or, drop, replicate}
use Prim.Native.String.{String}
use Rattle.plan.specs.Measures.{plan_length, row_length, rows_length}
use Rattle.chain.specs.Coefficients.{tabulated}
use Rattle.formula.specs.Bytes.{bytes}
use Rattle.formula.specs.Tree.{Span, span, Tree, span_of}
use Rattle.formula.specs.Refusals.{Refused, Accepted}
use Rattle.formula.specs.Value.{direct_value}
use Rattle.plan.specs.Row.{Row}
use Rattle.plan.specs.Plan as Plan
use Rattle.plan.specs.Filling.{point_values, fill, cost_answer}
use Rattle.fold.specs.Folding.{fold}
use Rattle.fold.specs.Layout.{row_words, words_of, plan_words}
use Rattle.fold.specs.Answer.{CompileAnswer}
use Rattle.fold.specs.Compiling.{Compiling}

-- ---- a line of the table
-- What is expected of a text on a grid.
pub data Expected : Type 0 where
  -- A refusal's number and place.
  refusal : (number place : ℕ) → Expected
  -- The rows of the plan, with their spans, their cost, and the values at the first indices.
  folds : (rows : List Row) (cost : ℕ) (values : List ℕ) → Expected
  -- One row, this constant with this span, which costs nothing, and its value at every index.
  constantly : (value : ℕ) (whole : Span) → Expected
  -- The plan filled with that budget into a table of that many words: the points, the budget spent, and the rows of the plan left.
  fills : (budget room points spent : ℕ) (left : List Row) → Expected

-- The grid that it stands on, or any.
pub data Grid : Type 0 where
  grid_of : (start step : ℕ) → Grid
  any_grid : Grid

pub record Case : Type 0 where
  pub text : List ℕ
  pub grid : Grid
  pub expected : Expected

abbrev pub on : String → (start step : ℕ) → Expected → Case
on text start step expected = record { text = bytes text; grid = grid_of start step; expected = expected }

abbrev pub anywhere : String → Expected → Case
anywhere text expected = record { text = bytes text; grid = any_grid; expected = expected }

-- "Start 0 and step 1 unless said."
abbrev pub plainly : String → Expected → Case
plainly text expected = on text 0 1 expected

-- The rows of 01's table, by their kind; the span last, "two more words at its end" (request Five).
abbrev pub constant : ℕ → Span → Row
constant c whole = row_words 0 0 0 (c ∷ []) whole

abbrev pub sum_chain : List ℕ → Span → Row
sum_chain f whole = row_words 1 (length f - 1) 0 f whole

abbrev pub product_chain : List ℕ → Span → Row
product_chain f whole = row_words 2 (length f - 1) 0 f whole

abbrev pub literal_power : (row n : ℕ) → Span → Row
literal_power row n whole = row_words 7 row n [] whole

abbrev pub raise : (base exponent : ℕ) → Span → Row
raise base exponent whole = row_words 8 base exponent [] whole

-- One row.
abbrev pub alone : Row → List Row
alone row = row ∷ []

-- The chain of x^16.
abbrev pub chain_of_sixteenth : List ℕ
chain_of_sixteenth =
    0 ∷ 1 ∷ 65534 ∷ 42850116 ∷ 4123173624 ∷ 131542866000 ∷ 1969147121760 ∷ 16540688324160 ∷ 86355926616960 ∷ 297846188640000
    ∷ 703098107712000 ∷ 1155068769254400 ∷ 1320663933388800 ∷ 1031319184896000 ∷ 524813313024000 ∷ 156920924160000 ∷ 20922789888000 ∷ []

-- ---- the table
unfoldable pub starred : List Case
starred =
    -- "x^3: chain 0,1,6,6. Budget 15, table of 10: 3 points, 12 spent, plan 27,37,24,6."
    plainly "x^3" (folds (alone (sum_chain (0 ∷ 1 ∷ 6 ∷ 6 ∷ []) (span 0 3))) 3 (0 ∷ 1 ∷ 8 ∷ 27 ∷ []))
    ∷ plainly "x^3" (fills 15 10 3 12 (alone (sum_chain (27 ∷ 37 ∷ 24 ∷ 6 ∷ []) (span 0 3))))
    -- "3*x+1, start 5, step 2: chain 16,6."
    ∷ on "3*x+1" 5 2 (folds (alone (sum_chain (16 ∷ 6 ∷ []) (span 0 5))) 1 (16 ∷ 22 ∷ 28 ∷ []))
    -- "x*x-x^2+7, any grid: constant 7."
    ∷ anywhere "x*x-x^2+7" (constantly 7 (span 0 9))
    -- "x^2, step 2^32: constant 0."
    ∷ on "x^2" 0 (2 ^ 32) (constantly 0 (span 0 3))
    -- "x and x^2+x, step 2^63: both 0,2^63."
    ∷ on "x" 0 (2 ^ 63) (folds (alone (sum_chain (0 ∷ (2 ^ 63) ∷ []) (span 0 1))) 1 (0 ∷ (2 ^ 63) ∷ 0 ∷ []))
    ∷ on "x^2+x" 0 (2 ^ 63) (folds (alone (sum_chain (0 ∷ (2 ^ 63) ∷ []) (span 0 5))) 1 (0 ∷ (2 ^ 63) ∷ 0 ∷ []))
    -- "-x^2: chain 0, 2^64 - 1, 2^64 - 2."
    ∷ plainly "-x^2" (folds (alone (sum_chain (0 ∷ (2 ^ 64 - 1) ∷ (2 ^ 64 - 2) ∷ []) (span 0 4))) 2 (0 ∷ (2 ^ 64 - 1) ∷ (2 ^ 64 - 4) ∷ []))
    -- "3^(x): product chain 1,3."
    ∷ plainly "3^(x)" (folds (alone (product_chain (1 ∷ 3 ∷ []) (span 0 5))) 1 (1 ∷ 3 ∷ 9 ∷ []))
    -- "3^(3^(x)): three rows, cost 129, values 3, 27, 19683, 7625597484987."
    ∷ plainly "3^(3^(x))"
    (folds (constant 3 (span 0 1) ∷ product_chain (1 ∷ 3 ∷ []) (span 3 8) ∷ raise 0 1 (span 0 9) ∷ []) 129 (3 ∷ 27 ∷ 19683 ∷ 7625597484987 ∷ []))
    -- "0^0 is 1; 2^3 is 8; 2^(3) is refused 8, place 1; so is x^(2)."
    ∷ plainly "0^0" (constantly 1 (span 0 3))
    ∷ plainly "2^3" (constantly 8 (span 0 3))
    ∷ plainly "2^(3)" (refusal 8 1)
    ∷ plainly "x^(2)" (refusal 8 1)
    -- "x^17: two rows, cost 17. x^16: one chain, last element 20922789888000."
    ∷ plainly "x^17" (folds (sum_chain (0 ∷ 1 ∷ []) (span 0 1) ∷ literal_power 0 17 (span 0 4) ∷ []) 17 (0 ∷ 1 ∷ 131072 ∷ []))
    ∷ plainly "x^16" (folds (alone (sum_chain chain_of_sixteenth (span 0 4))) 16 (0 ∷ 1 ∷ 65536 ∷ []))
    -- `"" place 0, "01" place 1, "1-" place 2, "x^2^3" place 3, all refused 4.`
    ∷ plainly "" (refusal 4 0)
    ∷ plainly "01" (refusal 4 1)
    ∷ plainly "1-" (refusal 4 2)
    ∷ plainly "x^2^3" (refusal 4 3)
    ∷ []

-- Case i of the table, from 0 on.
abbrev pub case_at : ℕ → Case
case_at i = get_or starred i (plainly "" (refusal 4 0))

-- ---- what a case says
-- The 2,817 words of a plan of these rows.
abbrev pub plan_of : List Row → List ℕ
plan_of rows = length rows ∷ words_of rows ++ replicate (rows_length - row_length * length rows) 0

-- What compiling comes to by its contract, for every lent plan of 2,817 words or more: this answer and these words, and no others.
pub record Compiles (s : List ℕ) (start step : ℕ) (answer : CompileAnswer) (left : List ℕ → List ℕ) : Type 0 where
  pub conforms : (lent : List ℕ) → plan_length ≤ length lent → Compiling 64 s start step lent answer (left lent)
  pub unique : (lent : List ℕ) → plan_length ≤ length lent → {r : CompileAnswer} {q : List ℕ} → Compiling 64 s start step lent r q
      → (r ≡ answer) × (q ≡ left lent)

-- A refusal: the text is refused so, and a lent plan stays as it was.
pub record RefusedSo (s : List ℕ) (start step number place : ℕ) : Type 0 where
  pub refused : Refused 64 s number place
  pub compiles : Compiles s start step (record { number = number; place = place }) (λ lent. lent)

-- A plan: the text is accepted, and compiling it leaves the plan of these rows, which has that cost and those values at the first indices.
pub record FoldsSo (s : List ℕ) (start step : ℕ) (rows : List Row) (cost : ℕ) (values : List ℕ) : Type 0 where
  pub tree : Tree
  pub accepted : Accepted 64 s tree
  pub laid : plan_words (span_of tree) (fold 64 start step tree) ≡ plan_of rows
  pub compiles : Compiles s start step (record { number = 0; place = 0 }) (λ lent. plan_of rows ++ drop plan_length lent)
  -- The plan, whatever words follow it.
  pub has_rows : (rest : List ℕ) → Plan.rows (plan_of rows ++ rest) ≡ rows
  pub costs : (rest : List ℕ) → cost_answer (plan_of rows ++ rest) ≡ record { number = 0; place = 0; cost = cost }
  pub points : (rest : List ℕ) → point_values 64 (length values) (plan_of rows ++ rest) ≡ values
  pub direct : (i : ℕ) → i < length values → direct_value 64 start step tree i ≡ get_or values i 0

-- A filling of the compiled plan.
pub record FillsSo (s : List ℕ) (start step budget room points spent : ℕ) (left : List Row) : Type 0 where
  pub tree : Tree
  pub accepted : Accepted 64 s tree
  -- The plan as compiling leaves it, and a table of that many words: the direct values at the first indices are written into the table,
  -- and the plan is left with these rows; all other words stay.
  pub filled : (lent : List ℕ) → plan_length ≤ length lent → {r : CompileAnswer} {q : List ℕ} → Compiling 64 s start step lent r q
      → (table : List ℕ) → length table ≡ room
      → fill 64 q table budget
      ≡ record {
        answer = record { number = 0; place = 0; points = points; spent = spent };
        table = tabulated (direct_value 64 start step tree) 0 points ++ drop points table;
        plan = plan_of left ++ drop plan_length lent;
      }

-- A constant has its value at as many indices as are asked for.
abbrev pub SaysOf : (s : List ℕ) (start step : ℕ) → Expected → Type 0
SaysOf s start step (refusal number place) = RefusedSo s start step number place
SaysOf s start step (folds rows cost values) = FoldsSo s start step rows cost values
SaysOf s start step (constantly value whole) = (n : ℕ) → FoldsSo s start step (alone (constant value whole)) 0 (replicate n value)
SaysOf s start step (fills budget room points spent left) = FillsSo s start step budget room points spent left

-- "any grid": whatever the start and the step.
abbrev pub SaysOn : List ℕ → Grid → Expected → Type 0
SaysOn s (grid_of start step) expected = SaysOf s start step expected
SaysOn s any_grid expected = (start step : ℕ) → SaysOf s start step expected

abbrev pub Says : Case → Type 0
Says c = SaysOn c.text c.grid c.expected
