-- What a whole run prints: which output bytes belong to which input bytes, as a relation, line by line. How a line is judged is in Judged.antt,
-- the printed lines are in Lines.antt; nothing here computes a run.
use Rattle.std.specs.Prelude.{◌≡◌, true, false, List, [], ◌∷◌, ◌++◌, ℕ, zero, suc, ◌≤◌, ◌<◌}
use Rattle.formula.specs.Tree.{Tree, span_of}
use Rattle.formula.specs.Refusals.{Refused, Accepted}
use Rattle.plan.specs.Row.{kind}
use Rattle.plan.specs.Plan.{row_count, row, cost}
use Rattle.fold.specs.Folding.{fold}
use Rattle.fold.specs.Layout.{plan_words}
use Rattle.reason.specs.RowTrees.{row_tree}
use Rattle.reason.specs.Reasons.{Reason}
use Rattle.table.specs.declared.Tool.{Tool}
use Rattle.table.specs.declared.Tool.TheVariants.{Tables, Reasons}
use Rattle.table.specs.Parts.{lines, picked}
use Rattle.table.specs.Judged.{is_header, JobLine, judged_defaults, judged_job}
use Rattle.table.specs.Lines.{no_line, job_line, point_lines, row_line, direct_values}

-- "An accepted job prints `job`, its number from 1, rows, plan cost": rows and cost of the plan that its formula folds to on its grid.
abbrev pub job_plan : JobLine → Tree → List ℕ
job_plan job t = plan_words (span_of t) (fold 64 job.start job.step t)

abbrev pub first_line : ℕ → JobLine → Tree → List ℕ
first_line n job t = job_line n (row_count (job_plan job t)) (cost (job_plan job t))

-- `RowsPrint formula p r output`: the first r rows of the plan p of that formula print that output, in row order: "for each row of kinds 3 to 8, its span
-- and one reason" (request Six), and nothing for the others.
pub data RowsPrint (formula p : List ℕ) : ℕ → List ℕ → Type 0 where
  no_row : RowsPrint formula p zero []
  passed_over : {r : ℕ} {printed : List ℕ} → RowsPrint formula p r printed → kind (row p r) < 3 → RowsPrint formula p (suc r) printed
  explained : {r reason : ℕ} (printed : List ℕ) → RowsPrint formula p r printed → 3 ≤ kind (row p r) → Reason 64 (row_tree p r) reason
      → RowsPrint formula p (suc r) (printed ++ row_line formula r (row p r) reason)

-- `ToolPrints tool formula job t output`: what a tool prints behind the `job` line of an accepted job, which has that formula and that tree.
pub data ToolPrints (formula : List ℕ) (job : JobLine) (t : Tree) : Tool → List ℕ → Type 0 where
  -- "then for each point its index and value": the formula's direct values, as many as its count says, from index 0 on.
  points_follow : ToolPrints formula job t Tables (point_lines 0 (direct_values 64 job.start job.step t 0 job.count))
  -- "a tool over the job file shall print, for each row of kinds 3 to 8, its span and one reason": of its plan's rows.
  rows_follow : {printed : List ℕ} → RowsPrint formula (job_plan job t) (row_count (job_plan job t)) printed → ToolPrints formula job t Reasons printed

-- `JobPrints tool n line defaults output`: that line, with those defaults, is job n and prints that output.
pub data JobPrints (tool : Tool) (n : ℕ) (line defaults : List ℕ) : List ℕ → Type 0 where
  -- "In a job line refusal 11 comes ahead of the formula's own."
  line_refused : (judged_job line defaults).ok ≡ false → JobPrints tool n line defaults (no_line n 11 (judged_job line defaults).place)
  -- "A refused one prints `no`, job number, refusal, place."
  formula_refused : {number place : ℕ} → (judged_job line defaults).ok ≡ true → Refused 64 (picked 1 line defaults) number place
      → JobPrints tool n line defaults (no_line n number place)
  -- "An accepted job prints `job` .."
  formula_accepted : {t : Tree} (printed : List ℕ) → (judged_job line defaults).ok ≡ true → Accepted 64 (picked 1 line defaults) t
      → ToolPrints (picked 1 line defaults) (judged_job line defaults) t tool printed
      → JobPrints tool n line defaults (first_line n (judged_job line defaults) t ++ printed)

-- `JobsPrint tool defaults n lines output`: those job lines, the first of them job n, print that output.
pub data JobsPrint (tool : Tool) (defaults : List ℕ) : ℕ → List (List ℕ) → List ℕ → Type 0 where
  no_job : {n : ℕ} → JobsPrint tool defaults n [] []
  next_job : {n : ℕ} {line : List ℕ} {more : List (List ℕ)} (printed later : List ℕ) → JobPrints tool n line defaults printed
      → JobsPrint tool defaults (suc n) more later → JobsPrint tool defaults n (line ∷ more) (printed ++ later)

-- "It reads standard input: a line `chain-jobs`, tab, `1`; a defaults line; then job lines." The tools differ in nothing but what an accepted job prints.
pub data LinesPrint (tool : Tool) : List (List ℕ) → List ℕ → Type 0 where
  -- "A refused header or defaults line prints `no`, 0, refusal, place and ends the run." A header that is absent is refused as another line is.
  header_absent : LinesPrint tool [] (no_line 0 12 0)
  header_refused : {header : List ℕ} {more : List (List ℕ)} → is_header header ≡ false → LinesPrint tool (header ∷ more) (no_line 0 12 0)
  defaults-refused : {header defaults : List ℕ} {more : List (List ℕ)} → is_header header ≡ true → (judged_defaults defaults).ok ≡ false
      → LinesPrint tool (header ∷ defaults ∷ more) (no_line 0 11 (judged_defaults defaults).place)
  -- "Place 0 also where the defaults line is absent."
  defaults_absent : {header : List ℕ} → is_header header ≡ true → LinesPrint tool (header ∷ []) (no_line 0 11 0)
  -- "then job lines", which print nothing but what each job does, "its number from 1".
  jobs_follow : {header defaults output : List ℕ} {more : List (List ℕ)} → is_header header ≡ true → (judged_defaults defaults).ok ≡ true
      → JobsPrint tool defaults 1 more output → LinesPrint tool (header ∷ defaults ∷ more) output

-- `RunPrints tool input output`: a run of the tool over these input bytes prints these output bytes. "A line is what stands before a line feed; bytes after the last
-- line feed, if there are any, are a line as well."
abbrev pub RunPrints : Tool → (input output : List ℕ) → Type 0
RunPrints tool input output = LinesPrint tool (lines input) output
