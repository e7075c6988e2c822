-- The steps of a run add up to its definition: however the input is cut into reads and the output into writes, what the calls write is what
-- `run` says. That the calls never get stuck is in GoingOn.antt.
use mathlib.Core.Path.{◌≡◌, sym, ap, ◌∙◌, subst}
use mathlib.Core.List.{List, ◌++◌}
use Prim.Native.Nat.{ℕ}
use Rattle.table.specs.declared.Tool.{Tool}
use Rattle.table_progress.specs.declared.Progress.{Progress}
use Rattle.table_progress.specs.Run.{run}
use Rattle.table_progress.specs.Steps.{started, Buffers}
use Rattle.table_progress.specs.Runs.{lent, written, Runs, ends, steps}
use Rattle.table_progress.proofs.Scanned.{run-is-scan}
use Rattle.table_progress.proofs.Readiness.{step_was_ready, end_was_ready}
use Rattle.table_progress.proofs.Stepping.{remaining, StepDone, step-done, end-done}

-- From anywhere in a run, the calls write what remains of it.
pub adds_up_from : {tool : Tool} {p : Progress} {line defaults input output : List ℕ} → Runs tool p line defaults input output → output ≡ remaining tool p line defaults input
adds_up_from {tool} {p} {line} {defaults} (ends plan table out ok e) =
    e ∙ (end-done tool p (lent line defaults plan table out) (end_was_ready tool p (lent line defaults plan table out) ok)).prints
adds_up_from {tool} {p} {line} {defaults} {input} {output} (steps plan table out chunk rest later o cut same ok more e) =
    e
    ∙ ap (λ x. written o ++ x) (adds_up_from more)
    ∙ sym (done.prints rest)
    ∙ ap (remaining tool p line defaults) (sym cut)
  where
    b : Buffers
    b = lent line defaults plan table out

    done : StepDone tool p chunk b o
    done = subst (StepDone tool p chunk b) (sym same) (step-done tool p chunk b (step_was_ready tool p chunk b (ap (λ x. x.answer.ok) (sym same) ∙ ok)))

-- Every run from the start writes what the definition says, whatever stood in its buffers.
pub adds_up : {tool : Tool} {line defaults input output : List ℕ} → Runs tool started line defaults input output → output ≡ run tool input
adds_up {tool} {input = input} runs = adds_up_from runs ∙ sym (run-is-scan tool input)

-- So two runs over the same input write the same, whatever their cuts, buffers and chunks.
pub same_output : {tool : Tool} {line defaults line' defaults' input output output' : List ℕ}
    → Runs tool started line defaults input output → Runs tool started line' defaults' input output' → output ≡ output'
same_output runs others = adds_up runs ∙ sym (adds_up others)
