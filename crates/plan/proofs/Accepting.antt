-- What it means that a plan is not refused, and the answers of the calls either way.
use mathlib.Core.Path.{◌≡◌, refl, sym, ap, ap₂, ◌∙◌}
use mathlib.Core.Bool.{Bool, true, false, cond}
use mathlib.Core.List.{List, ◌++◌}
use Prim.Native.Nat.{ℕ, ◌+◌, ◌*◌, ◌/◌, ◌≤◌, ◌<◌, min}
use native.Mathlib.Nat.{suc-ne-zero, le_trans, min-le_right, mul-le-mul_right, div-mul-le_self}
use native.Mathlib.Omega.{arith}
use lib.Dec.{ltb, eqb}
use lib.ListN.{length, drop, take-append-drop}
use borrow.Author.Tests.{lt-ltb, ltb-false, eqb-true, eqb-false, eq-eqb, ne_eqb}
use Rattle.plan.specs.Measures.{plan_length}
use Rattle.plan.specs.declared.Refusal.{Refusal}
use Rattle.plan.specs.declared.Refusal.TheVariants.{TooShort}
use Rattle.plan.specs.Answers.{refusal_number, SoundAnswer, CostAnswer, FillAnswer}
use Rattle.plan.specs.Plan.{sound, cost, refusal}
use Rattle.plan.specs.Filling.{Filled, point_cost, points_for, plan_after, point_values, filled, fill_refused, fill, cost_answer, sound_answer}
use Rattle.plan.proofs.Decoding.{refused-some}
use Rattle.plan.proofs.Lent.{lent_plan, lent_refusal, lent_cost, lent_points, lent_after}

-- ---- refusal
-- A plan that is not refused is long enough and sound.
pub accepted : (p : List ℕ) → refusal p ≡ 0 → (plan_length ≤ length p) × (sound p ≡ true)
accepted p = judged (ltb (length p) plan_length) (sound p) refl
  where
    judged : (short good : Bool) → ltb (length p) plan_length ≡ short → cond {A = ℕ} short 1 (cond good 0 9) ≡ 0 → (plan_length ≤ length p) × (good ≡ true)
    judged true good e h = absurd (suc-ne-zero 0 h)
    judged false true e h = (ltb-false (length p) plan_length e, refl)
    judged false false e h = absurd (suc-ne-zero 8 h)

-- What a call knows of a plan that was found sound.
pub found_sound : (p : List ℕ) → record { number = 0; place = 0 } ≡ sound_answer p → refusal p ≡ 0
found_sound p e = sym (ap (λ (r : SoundAnswer). r.number) e)

-- What a call says of words that are too few for a plan.
pub too_short : (p : List ℕ) → length p < plan_length → record { number = refusal_number TooShort; place = 0 } ≡ sound_answer p
too_short p few = rw (lt-ltb (length p) plan_length few)

-- ---- cost
abbrev costing : ℕ → ℕ → CostAnswer
costing number cost = record { number = number; place = 0; cost = cost }

pub cost_refused : (p : List ℕ) (e : Refusal) → record { number = refusal_number e; place = 0 } ≡ sound_answer p
    → record { number = refusal_number e; place = 0; cost = 0 } ≡ cost_answer p
cost_refused p e told =
    let same = ap (λ (r : SoundAnswer). r.number) told in
    ap₂ costing same (ap (λ b. cond b (cost p) 0) (sym (ne_eqb (refusal p) 0 (λ none. refused-some e (same ∙ none)))))

pub cost-accepted : (p : List ℕ) {c : ℕ} → refusal p ≡ 0 → c ≡ cost p → record { number = 0; place = 0; cost = c } ≡ cost_answer p
cost-accepted p e h = ap₂ costing (sym e) (h ∙ ap (λ b. cond b (cost p) 0) (sym (eq-eqb (refusal p) 0 e)))

-- ---- filling
abbrev answering : ℕ → ℕ → ℕ → FillAnswer
answering number points spent = record { number = number; place = 0; points = points; spent = spent }

pub fill-accepted : (w : ℕ) (p table : List ℕ) (budget : ℕ) → refusal p ≡ 0
    → fill w p table budget ≡ filled w (points_for p (length table) budget) p table
unfolding fill
fill-accepted w p table budget e =
    ap (λ n. cond (eqb n 0) (filled w (points_for p (length table) budget) p table) (fill_refused (refusal p) p table)) e

-- "a refusal alters no lent word".
pub refused_alters_nothing : (w : ℕ) (p table : List ℕ) (budget : ℕ) → (refusal p ≡ 0 → ⊥)
    → fill w p table budget ≡ fill_refused (refusal p) p table
unfolding fill
refused_alters_nothing w p table budget h =
    ap (λ b. cond b (filled w (points_for p (length table) budget) p table) (fill_refused (refusal p) p table)) (ne_eqb (refusal p) 0 h)

-- What the code of a refused fill answers and leaves.
pub fill_refuses : (p table : List ℕ) (budget : ℕ) (e : Refusal) → record { number = refusal_number e; place = 0 } ≡ sound_answer p
    → (record { number = refusal_number e; place = 0; points = 0; spent = 0 } ≡ (fill 64 p table budget).answer)
    × (table ≡ (fill 64 p table budget).table) × (p ≡ (fill 64 p table budget).plan)
fill_refuses p table budget e told =
    let same = ap (λ (r : SoundAnswer). r.number) told in
    rw (refused_alters_nothing 64 p table budget (λ none. refused-some e (same ∙ none))) (ap (λ n. answering n 0 0) same, refl, refl)

-- "points * (cost + 1)" is no more than the budget.
pub spent_fits : (budget cost n room : ℕ) → n ≡ min room (budget / (cost + 1)) → n * (cost + 1) ≤ budget
spent_fits budget cost n room e =
    le_trans (mul-le-mul_right (cost + 1) (omega (arith, e, min-le_right room (budget / (cost + 1))))) (div-mul-le_self budget (cost + 1))

-- What the code of an accepted fill answers and leaves.
pub fill_done : (p table : List ℕ) (budget : ℕ) {n spent : ℕ} {written left : List ℕ} → refusal p ≡ 0
    → n ≡ points_for p (length table) budget → spent ≡ n * point_cost p
    → written ≡ point_values 64 n p ++ drop n table → left ≡ plan_after 64 n p
    → (record { number = 0; place = 0; points = n; spent = spent } ≡ (fill 64 p table budget).answer)
    × (written ≡ (fill 64 p table budget).table) × (left ≡ (fill 64 p table budget).plan)
fill_done p table budget {n} e counts pays writes leaves =
    rw (fill-accepted 64 p table budget e) (
      ap₂ (λ k m. answering 0 k m) counts (pays ∙ ap (λ k. k * point_cost p) counts),
      writes ∙ ap (λ k. point_values 64 k p ++ drop k table) counts,
      leaves ∙ ap (λ k. plan_after 64 k p) counts,
    )

-- ---- the words that are lent after a plan change no answer, and stay
pub lent_cost_answer : (p : List ℕ) → plan_length ≤ length p → cost_answer (lent_plan p) ≡ cost_answer p
lent_cost_answer p long = ap₂ costing same (ap (λ n. cond (eqb n 0) (cost (lent_plan p)) 0) same ∙ pick (eqb (refusal p) 0) refl)
  where
    same : refusal (lent_plan p) ≡ refusal p
    same = lent_refusal p long

    pick : (b : Bool) → eqb (refusal p) 0 ≡ b → cond b (cost (lent_plan p)) 0 ≡ cond b (cost p) 0
    pick true e = lent_cost p (accepted p (eqb-true (refusal p) 0 e)).1
    pick false e = refl

module _ (w : ℕ) (p table : List ℕ) (budget : ℕ) where
  -- What a fill by the plan alone answers and leaves is what a fill by all that is lent does.
  abbrev pub FillsAlike : Filled → Filled → Type 0
  FillsAlike r s = (r.answer ≡ s.answer) × (r.table ≡ s.table) × (r.plan ++ drop plan_length p ≡ s.plan)

  pub lent_fill : {q : List ℕ} → plan_length ≤ length p → q ≡ lent_plan p → FillsAlike (fill w q table budget) (fill w p table budget)
  lent_fill long whole = rw whole (judged (eqb (refusal p) 0) refl)
    where
      same : refusal (lent_plan p) ≡ refusal p
      same = lent_refusal p long

      judged : (b : Bool) → eqb (refusal p) 0 ≡ b → FillsAlike (fill w (lent_plan p) table budget) (fill w p table budget)
      judged true e =
          let none = eqb-true (refusal p) 0 e in
          let good = (accepted p none).1 in
          let costs = lent_cost p good in
          let n = points_for p (length table) budget in
          let points = ap (λ k. min (length table) (budget / (k + 1))) costs in
          rw (fill-accepted w (lent_plan p) table budget (same ∙ none), fill-accepted w p table budget none) (
            ap₂ (λ k c. answering 0 k (k * (c + 1))) points costs,
            ap (λ k. point_values w k (lent_plan p) ++ drop k table) points ∙ ap (λ f. f ++ drop n table) (lent_points w n p good),
            ap (λ k. plan_after w k (lent_plan p) ++ drop plan_length p) points ∙ sym (lent_after w n p good),
          )
      judged false e =
          let some = eqb-false (refusal p) 0 e in
          rw (refused_alters_nothing w (lent_plan p) table budget (λ z. some (sym same ∙ z)), refused_alters_nothing w p table budget some)
          (ap (λ n. answering n 0 0) same, refl, take-append-drop plan_length p)
