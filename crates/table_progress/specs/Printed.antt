-- What a job prints, as a function of its line, and what it leaves in the plan and the table it works with.
use Rattle.std.specs.Prelude.{◌≡◌, cond, List, [], ◌++◌, ℕ, zero, suc, ◌≤◌, ◌<◌, ltb, length, drop}
use Rattle.formula_scan.specs.Verdict.{Verdict, refused, accepted, verdict}
use Rattle.plan.specs.Row.{kind, end_byte}
use Rattle.plan.specs.Plan.{row_count, row, cost}
use Rattle.plan.specs.Filling.{plan_after, point_values}
use Rattle.reason.specs.RowTrees.{row_tree}
use Rattle.reason.proofs.Numbers.{reason_of}
use Rattle.table_fields.specs.Writing.{Wrote}
use Rattle.table.specs.Parts.{picked}
use Rattle.table.specs.Judged.{JobLine, judged_job}
use Rattle.table.specs.Lines.{no_line, job_line, point_lines, row_line}
use Rattle.table.specs.declared.Tool.{Tool}
use Rattle.table.specs.declared.Tool.TheVariants.{Tables, Reasons}
use Rattle.table.specs.Run.{job_plan}

-- ---- what a tool prints behind the `job` line
-- The text of each row that word 0 counts lies within the formula.
abbrev pub TextsWithin : (formula p : List ℕ) → Type 0
TextsWithin formula p = (r : ℕ) → r < row_count p → end_byte (row p r) ≤ length formula

-- What row r of a formula's plan prints, and what the first r rows print: those of kinds 3 to 8.
abbrev pub row_prints : (formula p : List ℕ) → ℕ → List ℕ
row_prints formula p r = cond (ltb (kind (row p r)) 3) [] (row_line formula r (row p r) (reason_of (row_tree p r)))

unfoldable pub rows_print : (formula p : List ℕ) → ℕ → List ℕ
rows_print formula p zero = []
rows_print formula p (suc r) = rows_print formula p r ++ row_prints formula p r

-- The plan's first points, as filling writes them; or its rows.
abbrev pub tool_prints : Tool → (points : ℕ) (formula p : List ℕ) → List ℕ
tool_prints Tables points formula p = point_lines 0 (point_values 64 points p)
tool_prints Reasons points formula p = rows_print formula p (row_count p)

-- What job n prints for a plan.
abbrev pub plan_prints : Tool → (n points : ℕ) (formula p : List ℕ) → List ℕ
plan_prints tool n points formula p = job_line n (row_count p) (cost p) ++ tool_prints tool points formula p

-- "An accepted job prints `job` ..; A refused one prints `no` ..", for a formula's own refusal or tree.
unfoldable pub verdict_prints : Tool → ℕ → JobLine → (formula : List ℕ) → Verdict → List ℕ
verdict_prints tool n job formula (refused number place) = no_line n number place
verdict_prints tool n job formula (accepted t) = plan_prints tool n job.count formula (job_plan job t)

-- "In a job line refusal 11 comes ahead of the formula's own."
unfoldable pub judged_prints : Tool → ℕ → JobLine → List ℕ → List ℕ
judged_prints tool n job formula = cond job.ok (verdict_prints tool n job formula (verdict formula)) (no_line n 11 job.place)

-- What job line l prints as job n.
abbrev pub job_prints : Tool → ℕ → List ℕ → List ℕ → List ℕ
job_prints tool n l defaults = judged_prints tool n (judged_job l defaults) (picked 1 l defaults)

-- ---- what is left in the plan's own words and in the table
-- Filling leaves the plan shifted by the points written, and them in the table; who explains rows reads a plan alone.
abbrev pub plan_left : Tool → ℕ → List ℕ → List ℕ
plan_left Tables points p = plan_after 64 points p
plan_left Reasons points p = p

abbrev pub table_left : Tool → ℕ → (p table : List ℕ) → List ℕ
table_left Tables points p table = point_values 64 points p ++ drop points table
table_left Reasons points p table = table

-- "Compiling writes all" 2,817 words; a refusal alters nothing.
unfoldable pub verdict_plan : Tool → JobLine → Verdict → List ℕ → List ℕ
verdict_plan tool job (refused number place) plan = plan
verdict_plan tool job (accepted t) plan = plan_left tool job.count (job_plan job t)

unfoldable pub verdict_table : Tool → JobLine → Verdict → List ℕ → List ℕ
verdict_table tool job (refused number place) table = table
verdict_table tool job (accepted t) table = table_left tool job.count (job_plan job t) table

-- A plan printed into a lent buffer, with a table for its points: the place behind what it prints, and every word afterwards.
pub record PlanPrinted (tool : Tool) (n : ℕ) (formula plan table out : List ℕ) (r : ℕ) (plan' table' out' : List ℕ) : Type 0 where
  pub prints : Wrote out 0 (plan_prints tool n (length table) formula plan) r out'
  pub leaves : plan' ≡ plan_left tool (length table) plan
  pub fills : table' ≡ table_left tool (length table) plan table

-- A job printed into a lent buffer by a plan of 2,817 words and a table: the place behind what it prints, and every word afterwards.
pub record JobPrinted (tool : Tool) (n : ℕ) (job : JobLine) (formula plan table out : List ℕ) (r : ℕ) (plan' table' out' : List ℕ) : Type 0 where
  pub prints : Wrote out 0 (judged_prints tool n job formula) r out'
  pub leaves : plan' ≡ cond job.ok (verdict_plan tool job (verdict formula) plan) plan
  pub fills : table' ≡ cond job.ok (verdict_table tool job (verdict formula) table) table
