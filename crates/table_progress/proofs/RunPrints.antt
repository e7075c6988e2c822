-- `run` computes what the relation `RunPrints` of table/specs/Run.antt says: its output is one that the relation has for the input, and there
-- is no other.
use mathlib.Core.Path.{◌≡◌, refl, sym, ap, ap₂, subst, ◌∙◌}
use mathlib.Core.Bool.{Bool, true, false}
use mathlib.Core.List.{List, [], ◌∷◌, ◌++◌, append-nil}
use Prim.Native.Nat.{ℕ, suc}
use Rattle.formula_scan.specs.Verdict.{Verdict}
use Rattle.formula_scan.proofs.Verdicts.{Right, right-refused, right-accepted, verdict-right}
use Rattle.table.specs.Parts.{lines, picked}
use Rattle.table.specs.Judged.{is_header, judged_defaults, judged_job}
use Rattle.table.specs.Lines.{no_line}
use Rattle.table.specs.Run.{JobPrints, line_refused, formula_refused, formula_accepted, JobsPrint, no_job, next_job}
use Rattle.table.specs.Run.{LinesPrint, header_absent, header_refused, defaults_absent, defaults-refused, jobs_follow, RunPrints}
use Rattle.table.specs.declared.Tool.{Tool}
use Rattle.table_progress.specs.Printed.{job_prints}
use Rattle.table_progress.specs.Run.{the_header, a_job, nothing, line_prints, after_line, end_prints, lines_print, run}
use Rattle.table_progress.proofs.Jobs.{tool_said, prints_bad_line, prints-refused, prints-accepted}

-- ---- every input has an output
module _ (tool : Tool) (n : ℕ) (line defaults : List ℕ) where
  job_prints_lem : (output : List ℕ) × JobPrints tool n line defaults output
  job_prints_lem = go (judged_job line defaults).ok refl
    where
      taken : (judged_job line defaults).ok ≡ true → {v : Verdict} → Right (picked 1 line defaults) v → (output : List ℕ) × JobPrints tool n line defaults output
      taken e (right-refused A) = (_, formula_refused e A)
      taken e (right-accepted A) = (_, formula_accepted _ e A (tool_said (judged_job line defaults) A tool))

      go : (t : Bool) → (judged_job line defaults).ok ≡ t → (output : List ℕ) × JobPrints tool n line defaults output
      go true e = taken e (verdict-right (picked 1 line defaults))
      go false e = (_, line_refused e)

jobs_print : (tool : Tool) (defaults : List ℕ) (n : ℕ) (ls : List (List ℕ)) → (output : List ℕ) × JobsPrint tool defaults n ls output
jobs_print tool defaults n [] = (_, no_job)
jobs_print tool defaults n (line ∷ more) =
    let (printed, A) = job_prints_lem tool n line defaults in
    let (later, B) = jobs_print tool defaults (suc n) more in
    (_, next_job printed later A B)

lines_print_lem : (tool : Tool) (ls : List (List ℕ)) → (output : List ℕ) × LinesPrint tool ls output
lines_print_lem tool [] = (_, header_absent)
lines_print_lem tool (header ∷ more) = go (is_header header) refl more
  where
    behind : is_header header ≡ true → (defaults : List ℕ) (more : List (List ℕ)) (t : Bool) → (judged_defaults defaults).ok ≡ t
        → (output : List ℕ) × LinesPrint tool (header ∷ defaults ∷ more) output
    behind e defaults more true f = let (output, A) = jobs_print tool defaults 1 more in (output, jobs_follow e f A)
    behind e defaults more false f = (_, defaults-refused e f)

    go : (t : Bool) → is_header header ≡ t → (more : List (List ℕ)) → (output : List ℕ) × LinesPrint tool (header ∷ more) output
    go false e more = (_, header_refused e)
    go true e [] = (_, defaults_absent e)
    go true e (defaults ∷ more) = behind e defaults more (judged_defaults defaults).ok refl

-- ---- and it is the one that is computed
job_only : (tool : Tool) {n : ℕ} {line defaults output : List ℕ} → JobPrints tool n line defaults output → output ≡ job_prints tool n line defaults
job_only tool {n} {line} {defaults} (line_refused e) = sym (prints_bad_line tool n (judged_job line defaults) (picked 1 line defaults) e)
job_only tool {n} {line} {defaults} (formula_refused e A) = sym (prints-refused tool n (judged_job line defaults) (picked 1 line defaults) e A)
job_only tool {n} {line} {defaults} (formula_accepted printed e A prints) =
    sym (prints-accepted tool n (judged_job line defaults) (picked 1 line defaults) e A prints)

jobs_only : (tool : Tool) {defaults output : List ℕ} {n : ℕ} {ls : List (List ℕ)} → JobsPrint tool defaults n ls output → output ≡ lines_print tool (a_job defaults n) ls
unfolding line_prints after_line end_prints lines_print
jobs_only tool no_job = refl
jobs_only tool (next_job printed later A more) = ap₂ ◌++◌ (job_only tool A) (jobs_only tool more)

-- Nothing is printed behind a refused header or defaults line.
silent : (tool : Tool) (ls : List (List ℕ)) → lines_print tool nothing ls ≡ []
unfolding line_prints after_line end_prints lines_print
silent tool [] = refl
silent tool (line ∷ more) = silent tool more

ended : (tool : Tool) (s : List ℕ) (ls : List (List ℕ)) → s ≡ s ++ lines_print tool nothing ls
ended tool s ls = sym (ap (λ r. s ++ r) (silent tool ls) ∙ append-nil s)

lines_only : (tool : Tool) {ls : List (List ℕ)} {output : List ℕ} → LinesPrint tool ls output → output ≡ lines_print tool the_header ls
unfolding line_prints after_line end_prints lines_print
lines_only tool header_absent = refl
lines_only tool (header_refused {more = more} e) = rw e (ended tool (no_line 0 12 0) more)
lines_only tool (defaults_absent e) = rw e
lines_only tool (defaults-refused {defaults = defaults} {more} e f) = rw (e, f) (ended tool (no_line 0 11 (judged_defaults defaults).place) more)
lines_only tool (jobs_follow e f jobs) = rw (e, f) (jobs_only tool jobs)

pub run_only : (tool : Tool) (input : List ℕ) {output : List ℕ} → RunPrints tool input output → output ≡ run tool input
run_only tool input = lines_only tool

pub run-prints : (tool : Tool) (input : List ℕ) → RunPrints tool input (run tool input)
run-prints tool input = let (output, A) = lines_print_lem tool (lines input) in subst (RunPrints tool input) (run_only tool input A) A
