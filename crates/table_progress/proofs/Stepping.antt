-- One call of a run: what a step and the end print against the scan of the input, and what a step keeps, so that the next one is ready again.
use mathlib.Core.Path.{◌≡◌, refl, sym, ap, ap₂, ◌∙◌}
use mathlib.Core.Bool.{Bool, true, false, cond}
use mathlib.Core.List.{List, [], ◌∷◌, ◌++◌, append_assoc}
use Prim.Native.Nat.{ℕ, suc, ◌+◌, ◌≤◌, ◌<◌}
use native.Mathlib.Omega.{arith}
use lib.Dec.{eqb}
use lib.ListN.{length, take, drop, length-append, length-take}
use lib.Seq.{length-take-le, take-append_seam, take_at, drop-length}
use Rattle.formula.specs.Refusals.{count}
use Rattle.table.specs.Parts.{line_feed, before}
use Rattle.table.specs.declared.Tool.{Tool}
use Rattle.table.proofs.PartsFound.{empty_some}
use Rattle.table.proofs.PartsInLines.{some_counted}
use Rattle.table_progress.specs.declared.Progress.{Progress}
use Rattle.table_progress.specs.Run.{Awaits, line_prints, after_line, end_prints}
use Rattle.table_progress.specs.Steps.{awaits, ended, progress_after, defaults_after, Buffers, ready, held_with, over}
use Rattle.table_progress.specs.Steps.{Outcome, line_step, part_step, stepped, stays, with_end, finished}
use Rattle.table_progress.specs.Runs.{written}
use Rattle.table_progress.proofs.Scanned.{scan, scan-part, scan-line}
use Rattle.table_progress.proofs.HeldBytes.{first-bytes_print, first-bytes-after, first-bytes-scan}
use Rattle.table_progress.proofs.Readiness.{Ready, is-ready, by_step, by_end}
use Rattle.table_progress.proofs.WholeLines.{line-awaits, line_held, line_kept, line-number, length_over, length-defaults, length-plan-after, length-table-after}

-- What a run that stands at p, with these buffers, prints for the rest of its input.
abbrev pub remaining : Tool → Progress → (line defaults : List ℕ) → List ℕ → List ℕ
remaining tool p line defaults rest = scan tool (awaits p defaults) (take p.held line) rest

-- Where an outcome leaves the run.
abbrev pub remaining_after : Tool → Outcome → List ℕ → List ℕ
remaining_after tool o rest = remaining tool o.answer.progress o.buffers.line o.buffers.defaults rest

-- ---- the first line feed of an input is one of them
pub feed_counted : (s : List ℕ) → 0 < count line_feed s → count line_feed (drop (length (before line_feed s) + 1) s) + 1 ≡ count line_feed s
unfolding count before
feed_counted [] h = absurd (omega arith)
feed_counted (c ∷ s) h = go (eqb c line_feed) h (feed_counted s)
  where
    go : (t : Bool) → 0 < cond t (suc (count line_feed s)) (count line_feed s)
        → (0 < count line_feed s → count line_feed (drop (length (before line_feed s) + 1) s) + 1 ≡ count line_feed s)
        → count line_feed (drop (length (cond t [] (c ∷ before line_feed s)) + 1) (c ∷ s)) + 1 ≡ cond t (suc (count line_feed s)) (count line_feed s)
    go true some later = omega arith
    go false some later = ap (λ n. count line_feed (drop n (c ∷ s)) + 1) step ∙ later some
      where
        step : suc (length (before line_feed s)) + 1 ≡ suc (length (before line_feed s) + 1)
        step = omega arith

-- ---- a step
-- What is so of every accepted step.
pub record StepDone (tool : Tool) (p : Progress) (input : List ℕ) (b : Buffers) (o : Outcome) : Type 0 where
  pub accepted : o.answer.ok ≡ true
  pub within : o.answer.used ≤ length input
  pub moves : 0 < length input → 0 < o.answer.used
  pub held : o.answer.progress.held ≤ 4097
  pub kept : o.answer.progress.kept ≤ 4096
  -- A job is counted by its line feed.
  pub counted : o.answer.progress.number + count line_feed (drop o.answer.used input) ≤ p.number + count line_feed input
  pub line : length o.buffers.line ≡ length b.line
  pub defaults : length o.buffers.defaults ≡ length b.defaults
  pub plan : length o.buffers.plan ≡ length b.plan
  pub table : length o.buffers.table ≡ length b.table
  -- What is written and then what remains is what remained, whatever the rest of the input is.
  pub prints : (rest : List ℕ)
      → remaining tool p b.line b.defaults (input ++ rest) ≡ written o ++ remaining_after tool o (drop o.answer.used input ++ rest)

module _ (tool : Tool) (p : Progress) (input : List ℕ) (b : Buffers) (r : Ready p b) where
  abbrev now : Awaits
  now = awaits p b.defaults

  abbrev under_way : List ℕ
  under_way = take p.held b.line

  few : (s : List ℕ) → length (held_with p.held b.line s) ≤ 4097
  few s = omega (arith, length-take 4097 (under_way ++ s))

  -- The input ends within a line.
  module _ (none : count line_feed input ≡ 0) where
    abbrev part : List ℕ
    part = held_with p.held b.line input

    part-prints : (rest : List ℕ)
        → scan tool now under_way (input ++ rest) ≡ scan tool now (take (length part) (over part b.line)) (drop (length input) input ++ rest)
    part-prints rest =
        scan-part tool now under_way input rest none
        ∙ sym (first-bytes-scan tool now (under_way ++ input) rest)
        ∙ ap₂ (λ h s. scan tool now h (s ++ rest)) (sym (take-append_seam part (drop (length part) b.line))) (sym (drop-length input))

    part-done : StepDone tool p input b (part_step p part (length input) b)
    unfolding count
    part-done = record {
      accepted = refl;
      within = omega arith;
      moves = λ h. h;
      held = few input;
      kept = r.kept;
      counted = rw (drop-length input) (omega (arith, none));
      line = length_over part b.line (omega (arith, few input, r.line));
      defaults = refl;
      plan = refl;
      table = refl;
      prints = part-prints;
    }

  -- It has a line feed.
  module _ (some : 0 < count line_feed input) where
    abbrev line-now : List ℕ
    line-now = held_with p.held b.line (before line_feed input)

    abbrev used_now : ℕ
    used_now = length (before line_feed input) + 1

    line-prints : (rest : List ℕ)
        → scan tool now under_way (input ++ rest) ≡ written (line_step tool p line-now used_now b)
        ++ remaining_after tool (line_step tool p line-now used_now b) (drop used_now input ++ rest)
    line-prints rest =
        scan-line tool now under_way input rest some
        ∙ ap₂ (λ x a. x ++ scan tool a [] (drop used_now input ++ rest))
        (sym (first-bytes_print tool now whole)) (sym (first-bytes-after now whole) ∙ sym (line-awaits p.number p.kept line-now b.defaults p.awaited))
        ∙ ap₂ (λ x h. x ++ scan tool (awaits (progress_after p line-now) (defaults_after now line-now b.defaults)) h (drop used_now input ++ rest))
        (sym (take-append_seam (line_prints tool now line-now) (drop (length (line_prints tool now line-now)) b.out)))
        (ap (λ n. take n (over line-now b.line)) (sym (line_held p.number p.kept line-now b.defaults p.awaited)))
      where
        whole : List ℕ
        whole = under_way ++ before line_feed input

    line-done : StepDone tool p input b (line_step tool p line-now used_now b)
    line-done = record {
      accepted = refl;
      within = omega (arith, some_counted line_feed input some);
      moves = λ h. omega arith;
      held = omega (arith, line_held p.number p.kept line-now b.defaults p.awaited);
      kept = line_kept p.number p.kept line-now b.defaults p.awaited r.kept;
      counted = omega (arith, line-number p.number p.kept line-now b.defaults p.awaited, feed_counted input some);
      line = length_over line-now b.line (omega (arith, few (before line_feed input), r.line));
      defaults = length-defaults now line-now b.defaults r.defaults;
      plan = length-plan-after tool now line-now b.plan r.plan;
      table = length-table-after tool now line-now b.table r.table;
      prints = line-prints;
    }

pub step-done : (tool : Tool) (p : Progress) (input : List ℕ) (b : Buffers) → ready p b ≡ true → StepDone tool p input b (stepped tool p input b)
step-done tool p input b e =
    by_step tool (StepDone tool p input b) p b e input (λ some. line-done tool p input b (is-ready p b e) some) (λ none. part-done tool p input b (is-ready p b e) none)

-- ---- the end of the input
pub record EndDone (tool : Tool) (p : Progress) (b : Buffers) (o : Outcome) : Type 0 where
  pub accepted : o.answer.ok ≡ true
  pub ends : o.answer.progress ≡ ended
  pub uses : o.answer.used ≡ 0
  pub line : length o.buffers.line ≡ length b.line
  pub defaults : length o.buffers.defaults ≡ length b.defaults
  pub plan : length o.buffers.plan ≡ length b.plan
  pub table : length o.buffers.table ≡ length b.table
  pub prints : written o ≡ remaining tool p b.line b.defaults []

behind-written : (t s rest : List ℕ) (w : ℕ) → length t ≡ w → take (w + length s) (t ++ (s ++ rest)) ≡ t ++ s
behind-written t s rest w e =
    ap (λ l. take (w + length s) l) (sym (append_assoc t s rest))
    ∙ take_at (t ++ s) rest (w + length s) (length-append t s ∙ ap (λ n. n + length s) e)

module _ (tool : Tool) (p : Progress) (b : Buffers) (r : Ready p b) where
  abbrev here : Awaits
  here = awaits p b.defaults

  none_held : p.held ≡ 0 → written (with_end (stays p b)) ≡ remaining tool p b.line b.defaults []
  unfolding scan
  none_held e = behind-written [] (end_prints here) _ 0 refl ∙ ap (λ n. scan tool here (take n b.line) []) (sym e)

  stays-done : p.held ≡ 0 → EndDone tool p b (with_end (stays p b))
  stays-done none = record {
    accepted = refl;
    ends = refl;
    uses = refl;
    line = refl;
    defaults = refl;
    plan = refl;
    table = refl;
    prints = none_held none;
  }

  -- The bytes held are the last line.
  abbrev last_line : List ℕ
  last_line = take p.held b.line

  length-last-line : length last_line ≡ p.held
  length-last-line = length-take-le p.held b.line (omega (arith, r.held, r.line))

  some_held : 0 < p.held → written (with_end (line_step tool p last_line 0 b)) ≡ remaining tool p b.line b.defaults []
  unfolding scan
  some_held h =
      ap (λ x. take (length prints + length last) (x ++ (last ++ drop (length prints + length last) (over prints b.out))))
      (take-append_seam prints (drop (length prints) b.out))
      ∙ behind-written prints last _ (length prints) refl
      ∙ ap (λ a. prints ++ end_prints a) (line-awaits p.number p.kept last_line b.defaults p.awaited)
      ∙ ap (λ t. cond t (end_prints here) (prints ++ end_prints (after_line here last_line))) (sym (empty_some last_line (λ e. omega (arith, length-last-line))))
    where
      prints : List ℕ
      prints = line_prints tool here last_line

      last : List ℕ
      last = end_prints (awaits (progress_after p last_line) (defaults_after here last_line b.defaults))

  last-line-done : 0 < p.held → EndDone tool p b (with_end (line_step tool p last_line 0 b))
  last-line-done some = record {
    accepted = refl;
    ends = refl;
    uses = refl;
    line = length_over last_line b.line (omega (arith, length-last-line, r.held, r.line));
    defaults = length-defaults here last_line b.defaults r.defaults;
    plan = length-plan-after tool here last_line b.plan r.plan;
    table = length-table-after tool here last_line b.table r.table;
    prints = some_held some;
  }

pub end-done : (tool : Tool) (p : Progress) (b : Buffers) → ready p b ≡ true → EndDone tool p b (finished tool p b)
end-done tool p b e = by_end tool (EndDone tool p b) p b e (stays-done tool p b (is-ready p b e)) (last-line-done tool p b (is-ready p b e))
