-- What a call writes fits the lent output, and a call keeps the length of every buffer.
use mathlib.Core.Path.{◌≡◌, refl, sym, subst}
use mathlib.Core.Bool.{Bool, true, false, true≢false}
use mathlib.Core.List.{List, [], ◌++◌}
use Prim.Native.Nat.{ℕ, ◌+◌, ◌-◌, ◌^◌, ◌≤◌, ◌<◌}
use native.Mathlib.Omega.{arith}
use lib.Dec.{eqb}
use lib.ListN.{length, take, drop, length-append, length-take, length-drop}
use Rattle.fold.proofs.Rules.{picked as picks}
use Rattle.table.specs.NumberField.{is_empty, number_up_to}
use Rattle.table.specs.Parts.{line_feed, field, before, picked}
use Rattle.table.specs.Judged.{DefaultsLine, JobLine, is_header, is_misshapen, largest_word, most_points, bad_number, empty_field, defaults_at, judged_defaults, job_refused, judged_job}
use Rattle.table.proofs.PartsJudged.{job_small}
use Rattle.table.specs.Lines.{no_line}
use Rattle.table.specs.declared.Tool.{Tool}
use Rattle.table_progress.specs.Printed.{job_prints}
use Rattle.table_progress.proofs.Lengths.{no_line-most, job_most}
use Rattle.table_progress.specs.declared.Awaited.{Awaited}
use Rattle.table_progress.specs.declared.Awaited.TheVariants.{Header, Defaults, Job, Nothing}
use Rattle.table_progress.specs.declared.Progress.{Progress}
use Rattle.table_progress.specs.Run.{Awaits, the_header, the_defaults, a_job, nothing, line_prints, after_line, end_prints}
use Rattle.table_progress.specs.Steps.{awaited_by, awaits, most_printed, Buffers, ready, held_with, Outcome, refused_step, line_step, stepped, stays, with_end, finished}
use Rattle.table_progress.proofs.Readiness.{Ready, is-ready, by_step, by_end, refused-step, refused_end}
use Rattle.table_progress.proofs.WholeLines.{line-awaits, length_over}
use Rattle.table_progress.proofs.Stepping.{step-done, end-done}

-- ---- the places of refused lines
bad_number_small : (start step points : List ℕ) → bad_number start step points ≤ 4
bad_number_small start step points =
    picks (λ n. n ≤ 4) (number_up_to largest_word start).ok
    (λ _. picks (λ n. n ≤ 4) (number_up_to largest_word step).ok
    (λ _. picks (λ n. n ≤ 4) (number_up_to most_points points).ok (λ _. omega arith) (λ _. omega arith))
    (λ _. omega arith))
    (λ _. omega arith)

empty_field_small : (l : List ℕ) → empty_field l ≤ 4
empty_field_small l =
    picks (λ n. n ≤ 4) (is_empty (field 1 l)) (λ _. omega arith)
    (λ _. picks (λ n. n ≤ 4) (is_empty (field 2 l)) (λ _. omega arith)
    (λ _. picks (λ n. n ≤ 4) (is_empty (field 3 l)) (λ _. omega arith)
    (λ _. picks (λ n. n ≤ 4) (is_empty (field 4 l)) (λ _. omega arith) (λ _. omega arith))))

defaults_at_small : (n : ℕ) → n ≤ 4 → (defaults_at n).place ≤ 4
defaults_at_small n h = picks (λ (d : DefaultsLine). d.place ≤ 4) (eqb n 0) (λ _. omega arith) (λ _. h)

defaults-place_small : (l : List ℕ) → (judged_defaults l).place ≤ 4
unfolding judged_defaults
defaults-place_small l =
    picks (λ (d : DefaultsLine). d.place ≤ 4) (is_misshapen l) (λ _. omega arith)
    (λ _. picks (λ (d : DefaultsLine). d.place ≤ 4) (eqb (empty_field l) 0)
    (λ _. defaults_at_small (bad_number (field 2 l) (field 3 l) (field 4 l)) (bad_number_small (field 2 l) (field 3 l) (field 4 l)))
    (λ _. defaults_at_small (empty_field l) (empty_field_small l)))

refused-place : (place : ℕ) → place ≤ 4 → (job_refused place).place ≤ 4
refused-place place h = h

job_place_small : (l kept : List ℕ) → (judged_job l kept).place ≤ 4
unfolding judged_job
job_place_small l kept =
    picks (λ (j : JobLine). j.place ≤ 4) (is_misshapen l) (λ _. omega arith)
    (λ _. picks (λ (j : JobLine). j.place ≤ 4) (eqb bad 0) (λ _. omega arith)
    (λ _. refused-place bad (bad_number_small (picked 2 l kept) (picked 3 l kept) (picked 4 l kept))))
  where
    bad : ℕ
    bad = bad_number (picked 2 l kept) (picked 3 l kept) (picked 4 l kept)

-- ---- what a line prints, and what it and the end of the input print
jobs_fit : (tool : Tool) (n : ℕ) (l kept : List ℕ) → n < 2 ^ 64 - 1 → length (job_prints tool n l kept) ≤ most_printed
jobs_fit tool n l kept h =
    omega (
      arith,
      job_most tool n (judged_job l kept) (picked 1 l kept) (omega arith) (job_small l kept).count (omega (arith, job_place_small l kept)),
    )

header_refused-short : length (no_line 0 12 0) ≤ 67
header_refused-short = no_line-most 0 12 0 (omega arith) (omega arith) (omega arith)

defaults-refused-short : (place : ℕ) → place ≤ 4 → length (no_line 0 11 place) ≤ 67
defaults-refused-short place h = no_line-most 0 11 place (omega arith) (omega arith) (omega arith)

end_short : (awaits : Awaits) → length (end_prints awaits) ≤ 67
unfolding end_prints
end_short the_header = header_refused-short
end_short the_defaults = defaults-refused-short 0 (omega arith)
end_short (a_job kept n) = omega arith
end_short nothing = omega arith

header_short : (tool : Tool) (l : List ℕ) → length (line_prints tool the_header l) ≤ 67
unfolding line_prints
header_short tool l = picks (λ (s : List ℕ). length s ≤ 67) (is_header l) (λ _. omega arith) (λ _. header_refused-short)

defaults-short : (tool : Tool) (l : List ℕ) → length (line_prints tool the_defaults l) ≤ 67
unfolding line_prints
defaults-short tool l =
    picks (λ (s : List ℕ). length s ≤ 67) (judged_defaults l).ok (λ _. omega arith)
    (λ _. defaults-refused-short (judged_defaults l).place (defaults-place_small l))

module _ (tool : Tool) (n kept : ℕ) (l buffer : List ℕ) (h : n < 2 ^ 64 - 1) where
  line_fits : (a : Awaited)
      → length (line_prints tool (awaited_by a n kept buffer) l) + length (end_prints (after_line (awaited_by a n kept buffer) l)) ≤ most_printed
  unfolding line_prints after_line end_prints
  line_fits Header = omega (arith, header_short tool l, end_short (after_line the_header l))
  line_fits Defaults = omega (arith, defaults-short tool l, end_short (after_line the_defaults l))
  line_fits Job = omega (arith, jobs_fit tool n l (take kept buffer) h)
  line_fits Nothing = omega arith

-- ---- a call
abbrev OutFits : Buffers → Outcome → Type 0
OutFits b o = (o.answer.wrote ≤ length b.out) × (length o.buffers.out ≡ length b.out)

-- A line's.
module _ (tool : Tool) (p : Progress) (b : Buffers) (r : Ready p b) (l : List ℕ) where
  abbrev prints : List ℕ
  prints = line_prints tool (awaits p b.defaults) l

  line_room : length prints + length (end_prints (after_line (awaits p b.defaults) l)) ≤ length b.out
  line_room = omega (arith, line_fits tool p.number p.kept l b.defaults r.number p.awaited, r.out)

  line-out : (used : ℕ) → OutFits b (line_step tool p l used b)
  line-out used = (omega (arith, line_room), length_over prints b.out (omega (arith, line_room)))

-- What an accepted call writes fits the lent output.
pub step-out_fits : (tool : Tool) (p : Progress) (input : List ℕ) (b : Buffers) → ready p b ≡ true
    → ((stepped tool p input b).answer.wrote ≤ length b.out) × (length (stepped tool p input b).buffers.out ≡ length b.out)
step-out_fits tool p input b e =
    by_step tool (OutFits b) p b e input
    (λ _. line-out tool p b (is-ready p b e) (held_with p.held b.line (before line_feed input)) (length (before line_feed input) + 1))
    (λ _. (omega arith, refl))

-- The end's.
end-out : (b : Buffers) (o : Outcome) → o.answer.wrote + length (end_prints (awaits o.answer.progress o.buffers.defaults)) ≤ length b.out
    → length o.buffers.out ≡ length b.out → OutFits b (with_end o)
end-out b o h e = (h, long)
  where
    last : List ℕ
    last = end_prints (awaits o.answer.progress o.buffers.defaults)

    w : ℕ
    w = o.answer.wrote

    long : length (take w o.buffers.out ++ (last ++ drop (w + length last) o.buffers.out)) ≡ length b.out
    long =
        omega (
          arith,
          h,
          e,
          length-append (take w o.buffers.out) (last ++ drop (w + length last) o.buffers.out),
          length-append last (drop (w + length last) o.buffers.out),
          length-drop (w + length last) o.buffers.out,
          length-take w o.buffers.out,
        )

pub end-out_fits : (tool : Tool) (p : Progress) (b : Buffers) → ready p b ≡ true
    → ((finished tool p b).answer.wrote ≤ length b.out) × (length (finished tool p b).buffers.out ≡ length b.out)
end-out_fits tool p b e =
    by_end tool (OutFits b) p b e
    (λ _. end-out b (stays p b) (omega (arith, end_short (awaits p b.defaults), (is-ready p b e).out)) refl)
    (λ _. end-out b (line_step tool p l 0 b)
    (rw (line-awaits p.number p.kept l b.defaults p.awaited) (line_room tool p b (is-ready p b e) l))
    (line-out tool p b (is-ready p b e) l 0).1)
  where
    l : List ℕ
    l = take p.held b.line

-- ---- any call, accepted or refused
-- It uses and writes no more than it was lent, moves on if it was accepted with some input, and keeps every buffer's length.
pub record Within (input : List ℕ) (b : Buffers) (o : Outcome) : Type 0 where
  pub used : o.answer.used ≤ length input
  pub moves : o.answer.ok ≡ true → 0 < length input → 0 < o.answer.used
  pub wrote : o.answer.wrote ≤ length b.out
  pub line : length o.buffers.line ≡ length b.line
  pub defaults : length o.buffers.defaults ≡ length b.defaults
  pub plan : length o.buffers.plan ≡ length b.plan
  pub table : length o.buffers.table ≡ length b.table
  pub out : length o.buffers.out ≡ length b.out

refused-within : (p : Progress) (input : List ℕ) (b : Buffers) → Within input b (refused_step p b)
refused-within p input b = record {
  used = omega arith;
  moves = λ ok. absurd (true≢false (sym ok));
  wrote = omega arith;
  line = refl;
  defaults = refl;
  plan = refl;
  table = refl;
  out = refl;
}

pub step-within : (tool : Tool) (p : Progress) {input : List ℕ} {b : Buffers} {o : Outcome} → o ≡ stepped tool p input b → Within input b o
step-within tool p {input} {b} is = subst (λ o. Within input b o) (sym is) (go (ready p b) refl)
  where
    go : (t : Bool) → ready p b ≡ t → Within input b (stepped tool p input b)
    go true e =
        let done = step-done tool p input b e in
        let fits = step-out_fits tool p input b e in
        record {
          used = done.within;
          moves = λ _. done.moves;
          wrote = fits.0;
          line = done.line;
          defaults = done.defaults;
          plan = done.plan;
          table = done.table;
          out = fits.1;
        }
    go false e = subst (λ o. Within input b o) (sym (refused-step tool p input b e)) (refused-within p input b)

pub end-within : (tool : Tool) (p : Progress) {b : Buffers} {o : Outcome} → o ≡ finished tool p b → Within [] b o
end-within tool p {b} is = subst (λ o. Within [] b o) (sym is) (go (ready p b) refl)
  where
    go : (t : Bool) → ready p b ≡ t → Within [] b (finished tool p b)
    go true e =
        let done = end-done tool p b e in
        let fits = end-out_fits tool p b e in
        record {
          used = omega (arith, done.uses);
          moves = λ _ none. absurd (omega arith);
          wrote = fits.0;
          line = done.line;
          defaults = done.defaults;
          plan = done.plan;
          table = done.table;
          out = fits.1;
        }
    go false e = subst (λ o. Within [] b o) (sym (refused_end tool p b e)) (refused-within p [] b)
