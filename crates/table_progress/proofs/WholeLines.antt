-- What a whole line does: where it leaves the run, and that every lent buffer keeps its length.
use mathlib.Core.Path.{◌≡◌, refl, sym, ap, ◌∙◌}
use mathlib.Core.Bool.{Bool, true, false, cond}
use mathlib.Core.List.{List}
use Prim.Native.Nat.{ℕ, ◌+◌, ◌≤◌}
use native.Mathlib.Numerals.{add-one}
use native.Mathlib.Omega.{arith}
use lib.ListN.{length, take, drop}
use lib.Seq.{length-take-le, length_front, take-append_seam}
use Rattle.plan.specs.Measures.{plan_length}
use Rattle.formula_scan.specs.Verdict.{Verdict, refused, accepted, verdict}
use Rattle.formula_scan.proofs.Verdicts.{verdict-accepted}
use Rattle.plan.specs.Filling.{point_values}
use Rattle.plan.proofs.Keeping.{length-after}
use Rattle.plan.proofs.Sharing.{length-points}
use Rattle.fold.proofs.Compiled.{compiled_length}
use Rattle.table.specs.Parts.{picked}
use Rattle.table.specs.Run.{job_plan}
use Rattle.table.specs.Judged.{JobLine, is_header, judged_defaults, judged_job}
use Rattle.table.specs.declared.Tool.{Tool}
use Rattle.table.specs.declared.Tool.TheVariants.{Tables, Reasons}
use Rattle.table.proofs.PartsJudged.{job_small}
use Rattle.table_progress.specs.Printed.{plan_left, table_left, verdict_plan, verdict_table}
use Rattle.table_progress.specs.declared.Awaited.{Awaited}
use Rattle.table_progress.specs.declared.Awaited.TheVariants.{Header, Defaults, Job, Nothing}
use Rattle.table_progress.specs.declared.Progress.{Progress}
use Rattle.table_progress.specs.Run.{Awaits, the_header, the_defaults, a_job, nothing, after_line}
use Rattle.table_progress.specs.Steps.{awaited_by, awaits, ended, progress_by, defaults_after, plan_after_line, table_after_line, over}
use Rattle.table_progress.proofs.HeldBytes.{taken-short}
use Rattle.fold.proofs.Rules.{picked as picks}

-- ---- what a whole line does to the progress
module _ (n kept : ℕ) (l buffer : List ℕ) where
  pub line-awaits : (a : Awaited)
      → awaits (progress_by a n kept l) (defaults_after (awaited_by a n kept buffer) l buffer) ≡ after_line (awaited_by a n kept buffer) l
  unfolding after_line
  line-awaits Header = go (is_header l)
    where
      go : (t : Bool) → awaits (cond t (record { awaited = Defaults; number = 0; held = 0; kept = 0 }) ended) buffer ≡ cond t the_defaults nothing
      go true = refl
      go false = refl
  line-awaits Defaults = go (judged_defaults l).ok
    where
      go : (t : Bool)
          → awaits (cond t (record { awaited = Job; number = 1; held = 0; kept = length l }) ended) (cond t (over l buffer) buffer)
          ≡ cond t (a_job l 1) nothing
      go true = ap (λ s. a_job s 1) (take-append_seam l (drop (length l) buffer))
      go false = refl
  line-awaits Job = ap (a_job (take kept buffer)) (add-one n)
  line-awaits Nothing = refl

  -- No byte is held of the next line, as many are kept as may be, and one line more is counted at most.
  pub line_held : (a : Awaited) → (progress_by a n kept l).held ≡ 0
  line_held Header = picks (λ (p : Progress). p.held ≡ 0) (is_header l) (λ _. refl) (λ _. refl)
  line_held Defaults = picks (λ (p : Progress). p.held ≡ 0) (judged_defaults l).ok (λ _. refl) (λ _. refl)
  line_held Job = refl
  line_held Nothing = refl

  pub line_kept : (a : Awaited) → kept ≤ 4096 → (progress_by a n kept l).kept ≤ 4096
  line_kept Header h = picks (λ (p : Progress). p.kept ≤ 4096) (is_header l) (λ _. omega arith) (λ _. omega arith)
  line_kept Defaults h = picks (λ (p : Progress). p.kept ≤ 4096) (judged_defaults l).ok (λ e. taken-short l e) (λ _. omega arith)
  line_kept Job h = h
  line_kept Nothing h = omega arith

  pub line-number : (a : Awaited) → (progress_by a n kept l).number ≤ n + 1
  line-number Header = picks (λ (p : Progress). p.number ≤ n + 1) (is_header l) (λ _. omega arith) (λ _. omega arith)
  line-number Defaults = picks (λ (p : Progress). p.number ≤ n + 1) (judged_defaults l).ok (λ _. omega arith) (λ _. omega arith)
  line-number Job = omega arith
  line-number Nothing = omega arith

-- ---- the lengths of the buffers
pub length_over : (s buffer : List ℕ) → length s ≤ length buffer → length (over s buffer) ≡ length buffer
length_over s buffer h = length_front buffer s (length s) (sym (length-take-le (length s) buffer h))

pub length-defaults : (awaits : Awaits) (l buffer : List ℕ) → 4096 ≤ length buffer → length (defaults_after awaits l buffer) ≡ length buffer
length-defaults the_header l buffer h = refl
length-defaults the_defaults l buffer h =
    picks (λ d. length d ≡ length buffer) (judged_defaults l).ok (λ e. length_over l buffer (omega (arith, taken-short l e))) (λ _. refl)
length-defaults (a_job kept n) l buffer h = refl
length-defaults nothing l buffer h = refl

-- A formula that is taken has a plan of 2,817 words.
length-plan-left : (tool : Tool) (points : ℕ) (p : List ℕ) → length (plan_left tool points p) ≡ length p
length-plan-left Tables points p = length-after 64 points p
length-plan-left Reasons points p = refl

length-verdict-plan : (tool : Tool) (job : JobLine) (s plan : List ℕ) (v : Verdict) → verdict s ≡ v → length plan ≡ plan_length → length (verdict_plan tool job v plan) ≡ plan_length
unfolding verdict_plan
length-verdict-plan tool job s plan (refused number place) e h = h
length-verdict-plan tool job s plan (accepted t) e h =
    length-plan-left tool job.count (job_plan job t)
    ∙ compiled_length 64 job.start job.step (omega arith) (verdict-accepted s e)

pub length-plan-after : (tool : Tool) (awaits : Awaits) (l plan : List ℕ) → plan_length ≤ length plan → length (plan_after_line tool awaits l plan) ≡ length plan
length-plan-after tool the_header l plan h = refl
length-plan-after tool the_defaults l plan h = refl
length-plan-after tool (a_job kept n) l plan h =
    picks (λ q. length q ≡ length plan) (judged_job l kept).ok
    (λ _. length_front plan (verdict_plan tool (judged_job l kept) (verdict (picked 1 l kept)) (take plan_length plan)) plan_length
    (length-verdict-plan tool (judged_job l kept) (picked 1 l kept) (take plan_length plan) (verdict (picked 1 l kept)) refl short ∙ sym short))
    (λ _. refl)
  where
    short : length (take plan_length plan) ≡ plan_length
    short = length-take-le plan_length plan h
length-plan-after tool nothing l plan h = refl

length-table-left : (tool : Tool) (points : ℕ) (p table : List ℕ) → points ≤ length table → length (table_left tool points p table) ≡ length table
length-table-left Tables points p table h =
    length_front table (point_values 64 points p) points (length-points 64 points p ∙ sym (length-take-le points table h))
length-table-left Reasons points p table h = refl

length-verdict-table : (tool : Tool) (job : JobLine) (table : List ℕ) (v : Verdict) → job.count ≤ length table → length (verdict_table tool job v table) ≡ length table
unfolding verdict_table
length-verdict-table tool job table (refused number place) h = refl
length-verdict-table tool job table (accepted t) h = length-table-left tool job.count (job_plan job t) table h

pub length-table-after : (tool : Tool) (awaits : Awaits) (l table : List ℕ) → 4096 ≤ length table → length (table_after_line tool awaits l table) ≡ length table
length-table-after tool the_header l table h = refl
length-table-after tool the_defaults l table h = refl
length-table-after tool (a_job kept n) l table h =
    picks (λ q. length q ≡ length table) (judged_job l kept).ok
    (λ _. length-verdict-table tool (judged_job l kept) table (verdict (picked 1 l kept)) (omega (arith, (job_small l kept).count))) (λ _. refl)
length-table-after tool nothing l table h = refl
