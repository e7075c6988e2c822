-- The calls of a run never get stuck: wherever calls from the start have led, the next one is accepted, and every input has a run to its end.
use mathlib.Core.Path.{◌≡◌, refl, sym, ap, ◌∙◌, subst}
use mathlib.Core.Bool.{true}
use mathlib.Core.List.{List, [], ◌∷◌, ◌++◌, append-nil}
use Prim.Native.Nat.{ℕ, zero, suc, ◌+◌, ◌-◌, ◌^◌, ◌≤◌, ◌<◌}
use native.Mathlib.Omega.{arith}
use lib.ListN.{length, drop, length-drop}
use Rattle.formula.specs.Refusals.{count}
use Rattle.formula_scan.proofs.BracketCount.{count-append}
use Rattle.table.specs.Parts.{line_feed}
use Rattle.table.specs.declared.Tool.{Tool}
use Rattle.table_progress.specs.declared.Progress.{Progress}
use Rattle.table_progress.specs.Run.{run}
use Rattle.table_progress.specs.Steps.{started, Buffers, ready, Outcome, stepped, finished}
use Rattle.table_progress.specs.Runs.{lent, Roomy, Runs, ends, steps, Reached, at_start, by_step}
use Rattle.table_progress.proofs.Scanned.{run-is-scan}
use Rattle.table_progress.proofs.Readiness.{is-ready, makes_ready, step_was_ready}
use Rattle.table_progress.proofs.Stepping.{remaining, remaining_after, StepDone, step-done, EndDone, end-done}

-- ---- where a run can go on
-- What a call asks of progress, line and defaults, with some line feeds left in the input: job numbers stay below 2^64 - 1.
pub record GoesOn (p : Progress) (line defaults : List ℕ) (feeds : ℕ) : Type 0 where
  pub line_room : 4097 ≤ length line
  pub defaults_room : 4096 ≤ length defaults
  pub held : p.held ≤ 4097
  pub kept : p.kept ≤ 4096
  pub numbers : p.number + feeds < 2 ^ 64 - 1

pub start_goes_on : (line defaults : List ℕ) (feeds : ℕ) → 4097 ≤ length line → 4096 ≤ length defaults → feeds < 2 ^ 64 - 1
    → GoesOn started line defaults feeds
start_goes_on line defaults feeds h k few = record {
  line_room = h;
  defaults_room = k;
  held = omega arith;
  kept = omega arith;
  numbers = omega arith;
}

pub going_ready : {p : Progress} {line defaults plan table out : List ℕ} {feeds : ℕ} → GoesOn p line defaults feeds → Roomy plan table out
    → ready p (lent line defaults plan table out) ≡ true
going_ready {p} {line} {defaults} {plan} {table} {out} going roomy = makes_ready p (lent line defaults plan table out) (record {
  line = going.line_room;
  defaults = going.defaults_room;
  plan = roomy.plan_room;
  table = roomy.table_room;
  out = roomy.out_room;
  held = going.held;
  kept = going.kept;
  number = omega (arith, going.numbers);
})

-- After a step, the next one is ready: its line and defaults are those that the step left, and plan, table and out any that are long enough.
pub ready_again : (tool : Tool) (p : Progress) (input : List ℕ) (b : Buffers) {plan table out : List ℕ} → ready p b ≡ true → Roomy plan table out
    → (stepped tool p input b).answer.progress.number < 2 ^ 64 - 1
    → ready (stepped tool p input b).answer.progress (lent (stepped tool p input b).buffers.line (stepped tool p input b).buffers.defaults plan table out) ≡ true
ready_again tool p input b e roomy small = going_ready going roomy
  where
    done : StepDone tool p input b (stepped tool p input b)
    done = step-done tool p input b e

    going : GoesOn (stepped tool p input b).answer.progress (stepped tool p input b).buffers.line (stepped tool p input b).buffers.defaults 0
    going = record {
      line_room = omega (arith, done.line, (is-ready p b e).line);
      defaults_room = omega (arith, done.defaults, (is-ready p b e).defaults);
      held = done.held;
      kept = done.kept;
      numbers = omega arith;
    }

-- A step leaves the run where it can go on again.
module _ (tool : Tool) (p : Progress) (line defaults plan table out chunk rest : List ℕ) (o : Outcome) where
  pub step_goes_on : StepDone tool p chunk (lent line defaults plan table out) o → GoesOn p line defaults (count line_feed (chunk ++ rest))
      → GoesOn o.answer.progress o.buffers.line o.buffers.defaults (count line_feed (drop o.answer.used chunk ++ rest))
  step_goes_on done going = record {
    line_room = omega (arith, done.line, going.line_room);
    defaults_room = omega (arith, done.defaults, going.defaults_room);
    held = done.held;
    kept = done.kept;
    numbers =
        omega (arith, done.counted, going.numbers, count-append line_feed chunk rest, count-append line_feed (drop o.answer.used chunk) rest);
  }

-- ---- wherever calls have led
module _ {tool : Tool} {line defaults input : List ℕ} (h : 4097 ≤ length line) (k : 4096 ≤ length defaults) (few : count line_feed input < 2 ^ 64 - 1) where
  pub reached_goes_on : {p : Progress} {line' defaults' left : List ℕ} → Reached tool line defaults input p line' defaults' left
      → GoesOn p line' defaults' (count line_feed left)
  reached_goes_on at_start = start_goes_on line defaults (count line_feed input) h k few
  reached_goes_on (by_step {p} {line'} {defaults'} {left} plan table out chunk rest o before cut same ok) =
      step_goes_on tool p line' defaults' plan table out chunk rest o
      (subst (StepDone tool p chunk (lent line' defaults' plan table out)) (sym same)
      (step-done tool p chunk (lent line' defaults' plan table out)
      (step_was_ready tool p chunk (lent line' defaults' plan table out) (ap (λ x. x.answer.ok) (sym same) ∙ ok))))
      (subst (λ s. GoesOn p line' defaults' (count line_feed s)) cut (reached_goes_on before))

  -- The next call is accepted, be it a step over any chunk or the end.
  module _ {p : Progress} {line' defaults' left plan table out : List ℕ} (reached : Reached tool line defaults input p line' defaults' left)
      (roomy : Roomy plan table out) where
    pub next-step-accepted : (chunk : List ℕ) → (stepped tool p chunk (lent line' defaults' plan table out)).answer.ok ≡ true
    next-step-accepted chunk = (step-done tool p chunk (lent line' defaults' plan table out) (going_ready (reached_goes_on reached) roomy)).accepted

    pub end-accepted : (finished tool p (lent line' defaults' plan table out)).answer.ok ≡ true
    end-accepted = (end-done tool p (lent line' defaults' plan table out) (going_ready (reached_goes_on reached) roomy)).accepted

-- ---- every input has a run
module _ (tool : Tool) {plan table out : List ℕ} (roomy : Roomy plan table out) where
  abbrev RunsWithin : ℕ → Type 0
  RunsWithin most =
      (p : Progress) (line defaults input : List ℕ) → length input ≤ most → GoesOn p line defaults (count line_feed input)
      → Runs tool p line defaults input (remaining tool p line defaults input)

  ends_now : (p : Progress) (line defaults : List ℕ) → GoesOn p line defaults (count line_feed []) → Runs tool p line defaults [] (remaining tool p line defaults [])
  ends_now p line defaults going = ends plan table out done.accepted (sym done.prints)
    where
      done : EndDone tool p (lent line defaults plan table out) (finished tool p (lent line defaults plan table out))
      done = end-done tool p (lent line defaults plan table out) (going_ready going roomy)

  -- A step is lent all that is left of the input.
  steps_on : (most : ℕ) → RunsWithin most → (p : Progress) (line defaults input : List ℕ) → 0 < length input → length input ≤ suc most
      → GoesOn p line defaults (count line_feed input) → Runs tool p line defaults input (remaining tool p line defaults input)
  steps_on most later p line defaults input some h going =
      steps plan table out input [] (remaining_after tool o left) o (sym (append-nil input)) refl done.accepted
      (later o.answer.progress o.buffers.line o.buffers.defaults left shorter
      (step_goes_on tool p line defaults plan table out input [] o done
      (subst (λ l. GoesOn p line defaults (count line_feed l)) (sym (append-nil input)) going)))
      (ap (remaining tool p line defaults) (sym (append-nil input)) ∙ done.prints [])
    where
      o : Outcome
      o = stepped tool p input (lent line defaults plan table out)

      done : StepDone tool p input (lent line defaults plan table out) o
      done = step-done tool p input (lent line defaults plan table out) (going_ready going roomy)

      left : List ℕ
      left = drop o.answer.used input ++ []

      shorter : length left ≤ most
      shorter = omega (arith, done.moves some, ap length (append-nil (drop o.answer.used input)), length-drop o.answer.used input)

  runs_from : (most : ℕ) → RunsWithin most
  runs_from zero p line defaults [] h going = ends_now p line defaults going
  runs_from zero p line defaults (c ∷ s) h going = absurd (omega arith)
  runs_from (suc most) p line defaults [] h going = ends_now p line defaults going
  runs_from (suc most) p line defaults (c ∷ s) h going = steps_on most (runs_from most) p line defaults (c ∷ s) (omega arith) h going

  pub every-input_runs : (line defaults input : List ℕ) → 4097 ≤ length line → 4096 ≤ length defaults → count line_feed input < 2 ^ 64 - 1
      → Runs tool started line defaults input (run tool input)
  every-input_runs line defaults input h k few =
      subst (Runs tool started line defaults input) (sym (run-is-scan tool input))
      (runs_from (length input) started line defaults input (omega arith) (start_goes_on line defaults (count line_feed input) h k few))
