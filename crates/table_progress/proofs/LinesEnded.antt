-- Each way through a whole line and through the end of the input: what was judged decides what is printed, kept and awaited.
use mathlib.Core.Path.{◌≡◌, refl, sym, ap, ap₂, subst, ◌∙◌}
use mathlib.Core.Bool.{Bool, true, false, cond}
use mathlib.Core.List.{List, ◌++◌}
use Prim.Native.Nat.{ℕ, ◌+◌, ◌≤◌}
use lib.ListN.{length, take, drop, take-append-drop}
use Rattle.plan.specs.Measures.{plan_length}
use Rattle.formula_scan.specs.Verdict.{Verdict, refused, accepted, verdict}
use Rattle.plan.proofs.RowLaws.{part, part_put}
use Rattle.table_fields.specs.Writing.{Wrote}
use Rattle.table_fields.proofs.Joining.{wrote_nothing, wrote_same}
use Rattle.table.specs.Parts.{picked}
use Rattle.table.specs.Judged.{DefaultsLine, JobLine, is_header, judged_defaults, judged_job}
use Rattle.table.specs.Run.{job_plan}
use Rattle.table.proofs.PartsJudged.{job_small}
use Rattle.table.specs.Lines.{no_line}
use Rattle.table.specs.declared.Tool.{Tool}
use Rattle.table_progress.specs.Printed.{judged_prints, job_prints, verdict_plan, verdict_table, JobPrinted}
use Rattle.table_progress.specs.declared.Awaited.{Awaited}
use Rattle.table_progress.specs.declared.Awaited.TheVariants.{Header, Defaults, Job, Nothing}
use Rattle.table_progress.specs.declared.Progress.{Progress}
use Rattle.table_progress.specs.Run.{the_header, the_defaults, a_job, line_prints, end_prints}
use Rattle.table_progress.specs.Steps.{awaited_by, ended, progress_by, over, defaults_after, plan_after_line, table_after_line}
use Rattle.table_progress.proofs.Jobs.{table-part}
use Rattle.table_progress.proofs.HeldBytes.{taken-short}

-- ---- the header
abbrev HeaderEnded : (l out : List ℕ) → Progress → ℕ → List ℕ → Type 0
HeaderEnded l out p w out' = (p ≡ progress_by Header 0 0 l) × ((tool : Tool) → Wrote out 0 (line_prints tool the_header l) w out')

module _ (l out : List ℕ) where
  pub header_taken : is_header l ≡ true → HeaderEnded l out (record { awaited = Defaults; number = 0; held = 0; kept = 0 }) 0 out
  unfolding line_prints
  header_taken e = (rw e, λ tool. wrote_same (rw e) (wrote_nothing out 0))

  pub header_refused : {p : Progress} {w : ℕ} {out' : List ℕ} → is_header l ≡ false → p ≡ ended → Wrote out 0 (no_line 0 12 0) w out'
      → HeaderEnded l out p w out'
  unfolding line_prints
  header_refused e ends w = (rw (e, ends), λ tool. wrote_same (rw e) w)

-- ---- the defaults line
abbrev DefaultsEnded : (l defaults out : List ℕ) → Progress → ℕ → (defaults' out' : List ℕ) → Type 0
DefaultsEnded l defaults out p w defaults' out' =
    (p ≡ progress_by Defaults 0 0 l)
    × (((tool : Tool) → Wrote out 0 (line_prints tool the_defaults l) w out') × (defaults' ≡ defaults_after the_defaults l defaults))

module _ (l defaults out : List ℕ) (r : DefaultsLine) (judged : r ≡ judged_defaults l) where
  pub defaults-refused : {p : Progress} {w : ℕ} {out' : List ℕ} → r.ok ≡ false → p ≡ ended → Wrote out 0 (no_line 0 11 r.place) w out'
      → DefaultsEnded l defaults out p w defaults out'
  unfolding line_prints
  defaults-refused bad ends w = (rw (← judged, bad, ends), (λ tool. wrote_same (rw (← judged, bad)) w, rw (← judged, bad)))

  pub defaults-taken : {defaults' : List ℕ} → r.ok ≡ true → defaults' ≡ over l defaults
      → DefaultsEnded l defaults out (record { awaited = Job; number = 1; held = 0; kept = length l }) 0 defaults' out
  unfolding line_prints
  defaults-taken good put = (rw (← judged, good), (λ tool. wrote_same (rw (← judged, good)) (wrote_nothing out 0), rw (← judged, good, put)))

-- A line that is taken fits the buffer that it is kept in.
pub defaults-short : (l : List ℕ) {r : DefaultsLine} → r ≡ judged_defaults l → r.ok ≡ true → length l ≤ 4096
defaults-short l judged good = taken-short l (ap (λ (d : DefaultsLine). d.ok) (sym judged) ∙ good)

-- ---- a job line, by parts of the plan and the table
abbrev JobEnded : Tool → ℕ → (l kept plan table out : List ℕ) → ℕ → (plan' table' out' : List ℕ) → Type 0
JobEnded tool n l kept plan table out w plan' table' out' =
    Wrote out 0 (job_prints tool n l kept) w out' × ((plan' ≡ plan_after_line tool (a_job kept n) l plan) × (table' ≡ table_after_line tool (a_job kept n) l table))

pub few-points : (l kept : List ℕ) {r : JobLine} → r ≡ judged_job l kept → r.count ≤ 4096
few-points l kept judged = subst (λ (job : JobLine). job.count ≤ 4096) (sym judged) (job_small l kept).count

module _ (tool : Tool) (n : ℕ) (l kept plan table out : List ℕ) (room : 4096 ≤ length table) {r : JobLine} {f : List ℕ}
    (judged : r ≡ judged_job l kept) (formula : f ≡ picked 1 l kept) where
  plan-put : (t : Bool) (v : Verdict) → cond t (verdict_plan tool r v (part 0 plan_length plan)) (part 0 plan_length plan) ++ drop plan_length plan
      ≡ cond t (verdict_plan tool r v (take plan_length plan) ++ drop plan_length plan) plan
  plan-put true v = refl
  plan-put false v = take-append-drop plan_length plan

  table-whole : (v : Verdict) → verdict_table tool r v (part 0 4096 table) ++ drop 4096 table ≡ verdict_table tool r v table
  unfolding verdict_table
  table-whole (refused number place) = take-append-drop 4096 table
  table-whole (accepted t) = table-part tool r.count 4096 (job_plan r t) table (few-points l kept judged) room

  table-put : (t : Bool) (v : Verdict) → cond t (verdict_table tool r v (part 0 4096 table)) (part 0 4096 table) ++ drop 4096 table
      ≡ cond t (verdict_table tool r v table) table
  table-put true v = table-whole v
  table-put false v = take-append-drop 4096 table

  pub job_ended : {w : ℕ} {plan' table' out' : List ℕ} → JobPrinted tool n r f (part 0 plan_length plan) (part 0 4096 table) out w plan' table' out'
      → JobEnded tool n l kept plan table out w (part_put 0 plan_length plan plan') (part_put 0 4096 table table') out'
  job_ended printed = (
    wrote_same (ap₂ (judged_prints tool n) judged formula) printed.prints,
    (
      ap (λ q. q ++ drop plan_length plan) printed.leaves
          ∙ plan-put r.ok (verdict f)
          ∙ ap₂ (λ (job : JobLine) s. cond job.ok (verdict_plan tool job (verdict s) (take plan_length plan) ++ drop plan_length plan) plan) judged formula,
      ap (λ q. q ++ drop 4096 table) printed.fills
          ∙ table-put r.ok (verdict f)
          ∙ ap₂ (λ (job : JobLine) s. cond job.ok (verdict_table tool job (verdict s) table) table) judged formula,
    ),
  )

-- ---- whichever line was awaited
module _ (tool : Tool) (p : Progress) (l defaults plan table out : List ℕ) where
  abbrev EndedBy : Progress → ℕ → (defaults' plan' table' out' : List ℕ) → Awaited → Type 0
  EndedBy p' w defaults' plan' table' out' a =
      (p' ≡ progress_by a p.number p.kept l)
      × (Wrote out 0 (line_prints tool (awaited_by a p.number p.kept defaults) l) w out'
      × ((defaults' ≡ defaults_after (awaited_by a p.number p.kept defaults) l defaults)
      × ((plan' ≡ plan_after_line tool (awaited_by a p.number p.kept defaults) l plan)
      × (table' ≡ table_after_line tool (awaited_by a p.number p.kept defaults) l table))))

  abbrev pub LineEnded : Progress → ℕ → (defaults' plan' table' out' : List ℕ) → Type 0
  LineEnded p' w defaults' plan' table' out' = EndedBy p' w defaults' plan' table' out' p.awaited

  pub ended_header : {p' : Progress} {w : ℕ} {out' : List ℕ} → p.awaited ≡ Header → HeaderEnded l out p' w out'
      → LineEnded p' w defaults plan table out'
  ended_header {p'} {w} {out'} e so = subst (EndedBy p' w defaults plan table out') (sym e) (so.0, (so.1 tool, (refl, (refl, refl))))

  pub ended-defaults : {p' : Progress} {w : ℕ} {defaults' out' : List ℕ} → p.awaited ≡ Defaults
      → DefaultsEnded l defaults out p' w defaults' out' → LineEnded p' w defaults' plan table out'
  ended-defaults {p'} {w} {defaults'} {out'} e so =
      subst (EndedBy p' w defaults' plan table out') (sym e) (so.0, (so.1.0 tool, (so.1.1, (refl, refl))))

  pub ended_job : {w : ℕ} {plan' table' out' : List ℕ} → p.awaited ≡ Job
      → JobEnded tool p.number l (take p.kept defaults) plan table out w plan' table' out'
      → LineEnded (record { awaited = Job; number = p.number + 1; held = 0; kept = p.kept }) w defaults plan' table' out'
  unfolding line_prints
  ended_job {w} {plan'} {table'} {out'} e so =
      subst (EndedBy (record { awaited = Job; number = p.number + 1; held = 0; kept = p.kept }) w defaults plan' table' out') (sym e)
      (refl, (so.0, (refl, (so.1.0, so.1.1))))

  pub ended-nothing : {p' : Progress} → p.awaited ≡ Nothing → p' ≡ ended → LineEnded p' 0 defaults plan table out
  unfolding line_prints
  ended-nothing {p'} e ends = subst (EndedBy p' 0 defaults plan table out) (sym e) (ends, (wrote_nothing out 0, (refl, (refl, refl))))

-- ---- the end of the input
abbrev EndWrote : (out : List ℕ) → ℕ → List ℕ → Awaited → Type 0
EndWrote out w out' a = (n kept : ℕ) (buffer : List ℕ) → Wrote out 0 (end_prints (awaited_by a n kept buffer)) w out'

module _ (out : List ℕ) {a : Awaited} where
  pub end_header : {w : ℕ} {out' : List ℕ} → a ≡ Header → Wrote out 0 (no_line 0 12 0) w out' → EndWrote out w out' a
  unfolding end_prints
  end_header {w} {out'} e so = subst (EndWrote out w out') (sym e) (λ n kept buffer. so)

  pub end-defaults : {w : ℕ} {out' : List ℕ} → a ≡ Defaults → Wrote out 0 (no_line 0 11 0) w out' → EndWrote out w out' a
  unfolding end_prints
  end-defaults {w} {out'} e so = subst (EndWrote out w out') (sym e) (λ n kept buffer. so)

  pub end_job : a ≡ Job → EndWrote out 0 out a
  unfolding end_prints
  end_job e = subst (EndWrote out 0 out) (sym e) (λ n kept buffer. wrote_nothing out 0)

  pub end-nothing : a ≡ Nothing → EndWrote out 0 out a
  unfolding end_prints
  end-nothing e = subst (EndWrote out 0 out) (sym e) (λ n kept buffer. wrote_nothing out 0)
