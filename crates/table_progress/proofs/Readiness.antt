-- When a call is accepted, the ways through a step and through the end, and that a refused call changes nothing.
use mathlib.Core.Path.{◌≡◌, refl, sym, ap, ◌∙◌}
use mathlib.Core.Bool.{Bool, true, false, ◌&&◌, and-eq-true_iff, false≢true}
use mathlib.Core.List.{List}
use Prim.Native.Nat.{ℕ, zero, suc, ◌+◌, ◌-◌, ◌^◌, ◌≤◌, ◌<◌}
use native.Mathlib.Omega.{arith}
use lib.Dec.{eqb, leb, ltb}
use lib.ListN.{length, take}
use borrow.Author.Tests.{ltb-true, ltb-false, leb-true, eqb-true, eqb-false, lt-ltb, le-leb}
use Rattle.plan.specs.Measures.{plan_length}
use Rattle.formula.specs.Refusals.{count}
use Rattle.fold.proofs.Rules.{picked as picks}
use Rattle.table.specs.Parts.{line_feed, before}
use Rattle.table.specs.declared.Tool.{Tool}
use Rattle.table_progress.specs.declared.Progress.{Progress}
use Rattle.table_progress.specs.Steps.{Buffers, most_printed, have_room, is_within_bounds, ready, held_with}
use Rattle.table_progress.specs.Steps.{Outcome, refused_step, line_step, part_step, stepped, stays, with_end, finished}

-- ---- what ready means
pub record Ready (p : Progress) (b : Buffers) : Type 0 where
  pub line : 4097 ≤ length b.line
  pub defaults : 4096 ≤ length b.defaults
  pub plan : plan_length ≤ length b.plan
  pub table : 4096 ≤ length b.table
  pub out : most_printed ≤ length b.out
  pub held : p.held ≤ 4097
  pub kept : p.kept ≤ 4096
  pub number : p.number < 2 ^ 64 - 1

abbrev pub has_room : Buffers → Bool
has_room b = have_room (length b.line) (length b.defaults) (length b.plan) (length b.table) (length b.out)

both : (t u : Bool) → t ≡ true → u ≡ true → (t && u) ≡ true
both t u e f = (and-eq-true_iff t u).1 (e, f)

pub is-ready : (p : Progress) (b : Buffers) → ready p b ≡ true → Ready p b
is-ready p b e =
    let all = (and-eq-true_iff (has_room b) (is_within_bounds p)).0 e in
    let from-line = (and-eq-true_iff (leb 4097 (length b.line)) _).0 all.0 in
    let from-defaults = (and-eq-true_iff (leb 4096 (length b.defaults)) _).0 from-line.1 in
    let from-plan = (and-eq-true_iff (leb plan_length (length b.plan)) _).0 from-defaults.1 in
    let from-table = (and-eq-true_iff (leb 4096 (length b.table)) _).0 from-plan.1 in
    let from-held = (and-eq-true_iff (leb p.held 4097) _).0 all.1 in
    let from-kept = (and-eq-true_iff (leb p.kept 4096) _).0 from-held.1 in
    record {
      line = leb-true 4097 (length b.line) from-line.0;
      defaults = leb-true 4096 (length b.defaults) from-defaults.0;
      plan = leb-true plan_length (length b.plan) from-plan.0;
      table = leb-true 4096 (length b.table) from-table.0;
      out = leb-true most_printed (length b.out) from-table.1;
      held = leb-true p.held 4097 from-held.0;
      kept = leb-true p.kept 4096 from-kept.0;
      number = ltb-true p.number (2 ^ 64 - 1) from-kept.1;
    }

pub makes_ready : (p : Progress) (b : Buffers) → Ready p b → ready p b ≡ true
makes_ready p b r =
    both (has_room b) (is_within_bounds p)
    (both _ _ (le-leb 4097 (length b.line) r.line)
    (both _ _ (le-leb 4096 (length b.defaults) r.defaults)
    (both _ _ (le-leb plan_length (length b.plan) r.plan)
    (both _ _ (le-leb 4096 (length b.table) r.table) (le-leb most_printed (length b.out) r.out)))))
    (both _ _ (le-leb p.held 4097 r.held)
    (both _ _ (le-leb p.kept 4096 r.kept) (lt-ltb p.number (2 ^ 64 - 1) r.number)))

-- ---- the ways through a step and through the end
module _ (tool : Tool) (P : Outcome → Type 0) (p : Progress) (b : Buffers) (is_ready : ready p b ≡ true) where
  not-refused : {A : Type 0} → ready p b ≡ false → A
  not-refused e = absurd (false≢true (sym e ∙ is_ready))

  pub by_step : (input : List ℕ)
      → (0 < count line_feed input → P (line_step tool p (held_with p.held b.line (before line_feed input)) (length (before line_feed input) + 1) b))
      → (count line_feed input ≡ 0 → P (part_step p (held_with p.held b.line input) (length input) b)) → P (stepped tool p input b)
  unfolding stepped
  by_step input line part =
      picks P (ready p b)
      (λ _. picks P (ltb 0 (count line_feed input)) (λ e. line (ltb-true 0 (count line_feed input) e))
      (λ e. part (omega (arith, ltb-false 0 (count line_feed input) e))))
      not-refused

  pub by_end : (p.held ≡ 0 → P (with_end (stays p b))) → (0 < p.held → P (with_end (line_step tool p (take p.held b.line) 0 b))) → P (finished tool p b)
  unfolding finished
  by_end none some =
      picks P (ready p b)
      (λ _. picks (λ o. P (with_end o)) (eqb p.held 0) (λ e. none (eqb-true p.held 0 e)) (λ e. some (positive p.held (eqb-false p.held 0 e))))
      not-refused
    where
      positive : (n : ℕ) → (n ≡ 0 → ⊥) → 0 < n
      positive zero h = absurd (h refl)
      positive (suc n) h = omega arith

pub refused-step : (tool : Tool) (p : Progress) (input : List ℕ) (b : Buffers) → ready p b ≡ false → stepped tool p input b ≡ refused_step p b
unfolding stepped
refused-step tool p input b e = rw e

pub refused_end : (tool : Tool) (p : Progress) (b : Buffers) → ready p b ≡ false → finished tool p b ≡ refused_step p b
unfolding finished
refused_end tool p b e = rw e

-- A call that is accepted was ready.
pub step_was_ready : (tool : Tool) (p : Progress) (input : List ℕ) (b : Buffers) → (stepped tool p input b).answer.ok ≡ true → ready p b ≡ true
step_was_ready tool p input b ok = go (ready p b) refl
  where
    go : (t : Bool) → ready p b ≡ t → t ≡ true
    go true e = refl
    go false e = sym (ap (λ o. o.answer.ok) (refused-step tool p input b e)) ∙ ok

pub end_was_ready : (tool : Tool) (p : Progress) (b : Buffers) → (finished tool p b).answer.ok ≡ true → ready p b ≡ true
end_was_ready tool p b ok = go (ready p b) refl
  where
    go : (t : Bool) → ready p b ≡ t → t ≡ true
    go true e = refl
    go false e = sym (ap (λ o. o.answer.ok) (refused_end tool p b e)) ∙ ok

-- A call that is not done leaves everything as it was.
pub step_undone : (tool : Tool) (p : Progress) (input : List ℕ) (b : Buffers) → (stepped tool p input b).answer.ok ≡ false → stepped tool p input b ≡ refused_step p b
step_undone tool p input b undone = go (ready p b) refl
  where
    go : (t : Bool) → ready p b ≡ t → stepped tool p input b ≡ refused_step p b
    go true e = absurd (false≢true (sym undone ∙ by_step tool (λ o. o.answer.ok ≡ true) p b e input (λ _. refl) (λ _. refl)))
    go false e = refused-step tool p input b e

pub end_undone : (tool : Tool) (p : Progress) (b : Buffers) → (finished tool p b).answer.ok ≡ false → finished tool p b ≡ refused_step p b
end_undone tool p b undone = go (ready p b) refl
  where
    go : (t : Bool) → ready p b ≡ t → finished tool p b ≡ refused_step p b
    go true e = absurd (false≢true (sym undone ∙ by_end tool (λ o. o.answer.ok ≡ true) p b e (λ _. refl) (λ _. refl)))
    go false e = refused_end tool p b e
