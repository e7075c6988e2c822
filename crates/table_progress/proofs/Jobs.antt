-- What a job prints and leaves, as its judgement and its formula's verdict decide it.
use mathlib.Core.Path.{◌≡◌, refl, sym, ap, ap₂, subst, ◌∙◌}
use mathlib.Core.Bool.{true, false, cond}
use mathlib.Core.List.{List, [], ◌++◌, append-nil}
use Prim.Native.Nat.{ℕ, ◌≤◌}
use native.Mathlib.Omega.{arith}
use lib.ListN.{length, take, drop, drop_of_length-le, take-append-drop}
use lib.Seq.{length-take-le}
use Rattle.plan.specs.Measures.{plan_length}
use Rattle.formula.specs.Tree.{Tree}
use Rattle.formula.specs.Refusals.{Refused, Accepted}
use Rattle.formula_scan.specs.Verdict.{Verdict, verdict}
use Rattle.formula_scan.proofs.Judging.{fault_number}
use Rattle.formula_scan.proofs.Verdicts.{refused-verdict, accepted-verdict}
use Rattle.plan.specs.Plan.{row_count, refusal}
use Rattle.plan.specs.Filling.{point_values}
use Rattle.fold.specs.Answer.{CompileAnswer}
use Rattle.fold.proofs.Compiled.{compiled_within}
use Rattle.fold.specs.Compiling.{Compiling, too_short, refused, accepted}
use Rattle.table_fields.specs.Writing.{Wrote}
use Rattle.table_fields.proofs.Joining.{wrote_same}
use Rattle.table.specs.Judged.{JobLine}
use Rattle.table.specs.Lines.{no_line, point_lines, direct_values}
use Rattle.table.specs.Run.{job_plan, first_line, ToolPrints, points_follow, rows_follow}
use Rattle.table.specs.declared.Tool.{Tool}
use Rattle.table.specs.declared.Tool.TheVariants.{Tables, Reasons}
use Rattle.table_progress.specs.Printed.{TextsWithin, tool_prints, plan_prints, verdict_prints, judged_prints}
use Rattle.table_progress.specs.Printed.{plan_left, table_left, verdict_plan, verdict_table, PlanPrinted, JobPrinted}
use Rattle.table_progress.proofs.DirectValues.{accepted-sound, accepted-values}
use Rattle.table_progress.proofs.Holding.{put_front}
use Rattle.table_progress.proofs.RowLines.{rows_said, rows_only}

-- ---- what a tool prints of an accepted formula's plan
-- "then for each point its index and value": the value that the formula has by its meaning alone, without a plan. Or the rows of the plan.
module _ {formula : List ℕ} (job : JobLine) {t : Tree} (found : Accepted 64 formula t) where
  same_points : point_lines 0 (point_values 64 job.count (job_plan job t)) ≡ point_lines 0 (direct_values 64 job.start job.step t 0 job.count)
  same_points = ap (λ values. point_lines 0 values) (accepted-values job.start job.step found job.count)

  pub tool_said : (tool : Tool) → ToolPrints formula job t tool (tool_prints tool job.count formula (job_plan job t))
  tool_said Tables = subst (ToolPrints formula job t Tables) (sym same_points) points_follow
  tool_said Reasons =
      rows_follow (rows_said formula (job_plan job t) (accepted-sound job.start job.step found) (row_count (job_plan job t)) (omega arith))

  pub tool_only : {tool : Tool} {printed : List ℕ} → ToolPrints formula job t tool printed
      → printed ≡ tool_prints tool job.count formula (job_plan job t)
  tool_only points_follow = sym same_points
  tool_only (rows_follow rows) = rows_only formula (job_plan job t) (accepted-sound job.start job.step found) (omega arith) rows

-- ---- the lines
module _ (tool : Tool) (n : ℕ) (job : JobLine) (formula : List ℕ) where
  -- "In a job line refusal 11 comes ahead of the formula's own."
  pub prints_bad_line : job.ok ≡ false → judged_prints tool n job formula ≡ no_line n 11 job.place
  unfolding judged_prints
  prints_bad_line e = ap (λ b. cond b (verdict_prints tool n job formula (verdict formula)) (no_line n 11 job.place)) e

  module _ (e : job.ok ≡ true) where
    prints-verdict : (v : Verdict) → verdict formula ≡ v → judged_prints tool n job formula ≡ verdict_prints tool n job formula v
    unfolding judged_prints
    prints-verdict v found = ap₂ (λ b u. cond b (verdict_prints tool n job formula u) (no_line n 11 job.place)) e found

    -- "A refused one prints `no`, job number, refusal, place."
    pub prints-refused : {number place : ℕ} → Refused 64 formula number place → judged_prints tool n job formula ≡ no_line n number place
    unfolding verdict_prints
    prints-refused {number} {place} found = prints-verdict (Verdict.refused number place) (refused-verdict formula found)

    -- "An accepted job prints `job`, its number from 1, rows, plan cost", and then what the tool prints.
    pub prints-accepted : {t : Tree} {printed : List ℕ} → Accepted 64 formula t → ToolPrints formula job t tool printed
        → judged_prints tool n job formula ≡ first_line n job t ++ printed
    unfolding verdict_prints
    prints-accepted {t} found prints =
        prints-verdict (Verdict.accepted t) (accepted-verdict formula found) ∙ ap (λ s. first_line n job t ++ s) (sym (tool_only job found prints))

-- ---- the lines, the plan and the table, as the code leaves them
-- The first n words of the table are lent, and k of them are worked with.
pub table-part : (tool : Tool) (k n : ℕ) (p table : List ℕ) → k ≤ n → n ≤ length table
    → table_left tool k p (take n table) ++ drop n table ≡ table_left tool k p table
table-part Tables k n p table h inside = put_front (point_values 64 k p) table k n h inside
table-part Reasons k n p table h inside = take-append-drop n table

module _ (tool : Tool) (n : ℕ) (job : JobLine) (formula plan table out : List ℕ) where
  pub line_refused : {r : ℕ} {out' : List ℕ} → job.ok ≡ false → Wrote out 0 (no_line n 11 job.place) r out'
      → JobPrinted tool n job formula plan table out r plan table out'
  line_refused e line = record {
    prints = wrote_same (sym (prints_bad_line tool n job formula e)) line;
    leaves = sym (ap (λ b. cond b (verdict_plan tool job (verdict formula) plan) plan) e);
    fills = sym (ap (λ b. cond b (verdict_table tool job (verdict formula) table) table) e);
  }

  line_taken : {r : ℕ} {plan' table' out' : List ℕ} → job.ok ≡ true → (v : Verdict) → verdict formula ≡ v
      → Wrote out 0 (verdict_prints tool n job formula v) r out' → plan' ≡ verdict_plan tool job v plan → table' ≡ verdict_table tool job v table
      → JobPrinted tool n job formula plan table out r plan' table' out'
  line_taken e v found lines leaves fills = record {
    prints = wrote_same (sym (prints-verdict tool n job formula e v found)) lines;
    leaves = leaves ∙ sym (ap₂ (λ b u. cond b (verdict_plan tool job u plan) plan) e found);
    fills = fills ∙ sym (ap₂ (λ b u. cond b (verdict_table tool job u table) table) e found);
  }

  -- A formula that compiling refuses.
  pub formula_refused : {answer : CompileAnswer} {r : ℕ} {plan' out' : List ℕ} → job.ok ≡ true → length plan ≡ plan_length
      → Compiling 64 formula job.start job.step plan answer plan' → (answer.number ≡ 0 → ⊥)
      → Wrote out 0 (no_line n answer.number answer.place) r out'
      → JobPrinted tool n job formula plan table out r plan' table out'
  unfolding verdict_prints verdict_plan verdict_table
  formula_refused e long (too_short h) some line = absurd (omega arith)
  formula_refused e long (refused {n = number} {p = place} h found) some line =
      line_taken e (Verdict.refused number place) (refused-verdict formula found) line refl refl
  formula_refused e long (accepted h found) some line = absurd (some refl)

  -- A formula that compiling accepts: the plan's 2,817 words are all that was lent.
  formula_accepted : {answer : CompileAnswer} {plan' : List ℕ} → length plan ≡ plan_length
      → Compiling 64 formula job.start job.step plan answer plan' → answer.number ≡ 0
      → (t : Tree) × Accepted 64 formula t × (plan' ≡ job_plan job t)
  formula_accepted long (too_short h) none = absurd (omega arith)
  formula_accepted long (refused h found) none = absurd (omega (arith, none, fault_number found.applies))
  formula_accepted long (accepted {t} h found) none = (
    t,
    found,
    ap (λ l. job_plan job t ++ l) (drop_of_length-le plan {i = plan_length} (omega arith)) ∙ append-nil (job_plan job t),
  )

  module _ {answer : CompileAnswer} {plan' : List ℕ} (long : length plan ≡ plan_length)
      (compiles : Compiling 64 formula job.start job.step plan answer plan') (none : answer.number ≡ 0) where
    pub formula_sound : refusal plan' ≡ 0
    formula_sound =
        let (t, found, same) = formula_accepted long compiles none in
        subst (λ p. refusal p ≡ 0) (sym same) (accepted-sound job.start job.step found)

    pub formula_texts : TextsWithin formula plan'
    formula_texts =
        let (t, found, same) = formula_accepted long compiles none in
        subst (TextsWithin formula) (append-nil (job_plan job t) ∙ sym same) (compiled_within 64 job.start job.step (omega arith) found [])

    -- The first words of the table are lent, one for each point.
    pub formula_printed : {r : ℕ} {left written out' : List ℕ} → job.ok ≡ true → job.count ≤ length table
        → PlanPrinted tool n formula plan' (take job.count table) out r left written out'
        → JobPrinted tool n job formula plan table out r left (written ++ drop job.count table) out'
    unfolding verdict_prints verdict_plan verdict_table
    formula_printed e room printed =
        let (t, found, same) = formula_accepted long compiles none in
        line_taken e (Verdict.accepted t) (accepted-verdict formula found)
        (wrote_same (ap₂ (λ k p. plan_prints tool n k formula p) whole same) printed.prints)
        (printed.leaves ∙ ap₂ (λ k p. plan_left tool k p) whole same)
        (ap (λ s. s ++ drop job.count table) (printed.fills ∙ ap₂ (λ k p. table_left tool k p (take job.count table)) whole same)
        ∙ table-part tool job.count job.count (job_plan job t) table (omega arith) room)
      where
        whole : length (take job.count table) ≡ job.count
        whole = length-take-le job.count table (omega arith)
