-- Laws of filling with era count: crossings over points put together, the exact position, the sum's range, what the call answers either way, and calls one
-- after the other. What the root is as a chain is in RootChains.antt.
use mathlib.Core.Path.{◌≡◌, refl, sym, ap, ap₂, ◌∙◌}
use mathlib.Core.Bool.{Bool, true, false, cond, ◌||◌}
use mathlib.Core.Logic.{◌⊎◌, inl, inr}
use mathlib.Core.List.{List, [], ◌∷◌, ◌++◌}
use Prim.Native.Nat.{ℕ, zero, suc, ◌+◌, ◌-◌, ◌*◌, ◌^◌, ◌≤◌, ◌<◌}
use native.Mathlib.Nat.{suc-ne-zero}
use native.Mathlib.Omega.{arith}
use borrow.Author.Tests.{lt-ltb, eqb-true, eqb-false, eq-eqb, ne_eqb}
use lib.Dec.{eqb, le→leb}
use lib.IntN.{ℤ, pos, negsuc, nat_abs, neg_ℤ, ◌+ℤ◌, ◌*ℤ◌, +ℤ_assoc, +ℤ_comm}
use lib.ListN.{length, drop, take-append-drop}
use lib.Signed.{le_z, lt_z, ◌≤ℤ◌}
use Rattle.word.proofs.WholeNumbers.{last_two, times-sum}
use Rattle.word.proofs.Unique.{both_are}
use Rattle.word.specs.Signed.{signed}
use Rattle.chain.specs.Chain.{value}
use Rattle.chain.specs.Crossing.{signed_step, crossed_by, crossing}
use Rattle.chain.proofs.CrossingLaws.{exact_shift}
use Rattle.plan.specs.Measures.{plan_length, row_length}
use Rattle.plan.specs.declared.Refusal.{Refusal}
use Rattle.plan.specs.declared.Refusal.TheVariants.{TooShort}
use Rattle.plan.specs.Answers.{refusal_number, FillErasAnswer}
use Rattle.plan.specs.Row.{kind, word_a, first_element, row_cost, is_chain}
use Rattle.plan.specs.Plan.{row_count, sound, rows_from, first_rows, cost, cost_of, refusal}
use Rattle.plan.specs.Points.{shifted_plan}
use Rattle.plan.specs.Filling.{points_for, plan_after, filled, fill_refused, fill}
use Rattle.plan.specs.Calls.{Call, points_of}
use Rattle.plan.specs.Eras.{FilledEras, root_row, root_chain, eras_over, steps_over, position, AreWords, constant_or_sum, eras_refusal, with_sum, fill_eras, sum_of}
use Rattle.plan.proofs.RowLaws.{cost-append}
use Rattle.plan.proofs.SoundLaws.{sound-count, sound_keeps, kept_some, rows_split}
use Rattle.plan.proofs.Keeping.{sound-shifted, refusal-after}
use Rattle.plan.proofs.Counting.{counted_add, abs_counted, eras_counted}
use Rattle.plan.proofs.Decoding.{refused-some}
use Rattle.plan.proofs.Lent.{lent_plan, lent_refusal, lent_root_row, lent_eras}
use Rattle.plan.proofs.Accepting.{lent_fill, accepted, fill-accepted, spent_fits}
use Rattle.plan.proofs.RootChains.{root_kind, first_of, crosses_not, root_words, root_chain-shifted, root_words-shifted}

-- ---- n points and then m more
pub eras_add : (w n m : ℕ) (p : List ℕ) → eras_over w (n + m) p ≡ eras_over w n p +ℤ eras_over w m (plan_after w n p)
eras_add w n m p =
    eras_counted w (n + m) p
    ∙ counted_add (λ q. crossing w (root_chain q)) w n m p
    ∙ sym (ap₂ ◌+ℤ◌ (eras_counted w n p) (eras_counted w m (plan_after w n p)))

-- ---- the exact position
-- One point: the root's first element and its signed step are the first element after the shift and 2^w times the crossing.
exact_point : (w : ℕ) (p : List ℕ) → sound p ≡ true → constant_or_sum (root_row p) ≡ true → AreWords w (root_chain p)
    → pos (first_element (root_row p)) +ℤ signed_step w (root_chain p)
    ≡ pos (first_element (root_row (shifted_plan w p))) +ℤ pos (2 ^ w) *ℤ crossing w (root_chain p)
exact_point w p e told fits =
    ap (λ a. pos a +ℤ signed_step w (root_chain p)) (sym (first_of (root_row p)))
    ∙ exact_shift w (root_chain p) fits
    ∙ ap (λ a. pos a +ℤ pos (2 ^ w) *ℤ crossing w (root_chain p))
    (ap (value 0) (sym (root_chain-shifted w p e told fits)) ∙ first_of (root_row (shifted_plan w p)))

told_shifted : (w : ℕ) (p : List ℕ) → sound p ≡ true → constant_or_sum (root_row (shifted_plan w p)) ≡ constant_or_sum (root_row p)
told_shifted w p e = ap (λ k. eqb k 0 || eqb k 1) (root_kind w p e)

exact_chain : (w n : ℕ) (p : List ℕ) → sound p ≡ true → constant_or_sum (root_row p) ≡ true → AreWords w (root_chain p)
    → position w n p ≡ pos (first_element (root_row (plan_after w n p))) +ℤ pos (2 ^ w) *ℤ eras_over w n p
unfolding eras_over steps_over plan_after
exact_chain w zero p e told fits = ap pos (omega arith)
exact_chain w (suc n) p e told fits =
    let next = shifted_plan w p in
    let first = pos (first_element (root_row next)) in
    let last = pos (first_element (root_row (plan_after w n next))) in
    let era = pos (2 ^ w) in
    let here = crossing w (root_chain p) in
    let later = eras_over w n next in
    sym (+ℤ_assoc (pos (first_element (root_row p))) (signed_step w (root_chain p)) (steps_over w n next))
    ∙ ap (λ z. z +ℤ steps_over w n next) (exact_point w p e told fits)
    ∙ last_two first (era *ℤ here) (steps_over w n next)
    ∙ ap (λ z. z +ℤ era *ℤ here)
    (exact_chain w n next (sound-shifted w p ∙ e) (told_shifted w p e ∙ told) (root_words-shifted w p e told fits))
    ∙ +ℤ_assoc last (era *ℤ later) (era *ℤ here)
    ∙ ap (λ z. last +ℤ z) (+ℤ_comm (era *ℤ later) (era *ℤ here) ∙ sym (times-sum era here later))

pub exact_position : (w n : ℕ) (p : List ℕ) → AreWords w p → sound p ≡ true → constant_or_sum (root_row p) ≡ true
    → position w n p ≡ pos (first_element (root_row (plan_after w n p))) +ℤ pos (2 ^ w) *ℤ eras_over w n p
exact_position w n p fits e told = exact_chain w n p e told (root_words w p fits)

-- ---- the sum's range: a point adds 1 at most, or takes 1 away
pub abs_crossing : (w : ℕ) (f : List ℕ) → nat_abs (crossing w f) ≤ 1
unfolding crossed_by
abs_crossing w [] = omega arith
abs_crossing w (a ∷ []) = omega arith
abs_crossing w (a ∷ b ∷ f) = go (le_z (pos (2 ^ w)) (pos a +ℤ signed w b)) (lt_z (pos a +ℤ signed w b) (pos 0))
  where
    go : (up down : Bool) → nat_abs (cond up (pos 1) (cond down (negsuc 0) (pos 0))) ≤ 1
    go true down = omega arith
    go false true = omega arith
    go false false = omega arith

pub abs_eras : (w n : ℕ) (p : List ℕ) → nat_abs (eras_over w n p) ≤ n
abs_eras w n p = rw (eras_counted w n p) (abs_counted (λ q. crossing w (root_chain q)) (λ q. abs_crossing w (root_chain q)) w n p)

-- A root that is no sum chain never crosses.
eras_none : (w n : ℕ) (p : List ℕ) → sound p ≡ true → (kind (root_row p) ≡ 1 → ⊥) → eras_over w n p ≡ pos 0
unfolding eras_over
eras_none w zero p e other = refl
eras_none w (suc n) p e other =
    ap₂ ◌+ℤ◌ (crosses_not w (root_row p) other)
    (eras_none w n (shifted_plan w p) (sound-shifted w p ∙ e) (λ k. other (sym (root_kind w p e) ∙ k)))

-- A sum chain costs its length, 1 at least, so a point of a plan with such a root costs 2 at least.
root_cost : (p : List ℕ) → sound p ≡ true → kind (root_row p) ≡ 1 → 1 ≤ cost p
unfolding cost_of
root_cost p e k =
    let within : row_count p - 1 < row_count p = omega (arith, sound-count p e) in
    let kept = sound_keeps p (row_count p - 1) e within in
    let some = kept_some (row_count p - 1) (root_row p) kept (ap (λ n. is_chain n) k) in
    let counted : row_cost (root_row p) ≡ word_a (root_row p) = rw k in
    omega (
      arith,
      some,
      counted,
      ap cost_of (rows_split (row_count p) (row_count p - 1) p within),
      cost-append (first_rows (row_count p - 1) p) (root_row p ∷ rows_from (row_count p - suc (row_count p - 1)) (drop (row_length * suc (row_count p - 1)) (drop 1 p))),
    )

-- ---- refusals, and the answers either way
-- 1, then 9, then 16.
pub last-refusal : (p : List ℕ) → refusal p ≡ 0 → eras_refusal p ≡ cond (constant_or_sum (root_row p)) 0 16
unfolding eras_refusal
last-refusal p e = ap (λ b. cond b (cond (constant_or_sum (root_row p)) 0 16) (refusal p)) (eq-eqb (refusal p) 0 e)

pub eras_accepted : (p : List ℕ) → eras_refusal p ≡ 0 → (refusal p ≡ 0) × (constant_or_sum (root_row p) ≡ true)
unfolding eras_refusal
eras_accepted p = go (eqb (refusal p) 0) refl (constant_or_sum (root_row p))
  where
    go : (b : Bool) → eqb (refusal p) 0 ≡ b → (told : Bool) → cond b (cond told 0 16) (refusal p) ≡ 0 → (refusal p ≡ 0) × (told ≡ true)
    go true e true h = (eqb-true (refusal p) 0 e, refl)
    go true e false h = absurd (suc-ne-zero 15 h)
    go false e told h = absurd (eqb-false (refusal p) 0 e h)

-- "Filling with era count .. beside the old one": an accepted call is a fill with the sum; "a refused call answers 0 points, spent and sum", and alters
-- nothing that it was lent.
pub accepted-fills : (w : ℕ) (p table : List ℕ) (budget : ℕ) → eras_refusal p ≡ 0
    → fill_eras w p table budget ≡ with_sum (fill w p table budget) (eras_over w (fill w p table budget).answer.points p)
unfolding fill_eras
accepted-fills w p table budget e =
    let n = points_for p (length table) budget in
    ap (λ k. cond (eqb k 0) (with_sum (filled w n p table) (eras_over w n p)) (with_sum (fill_refused (eras_refusal p) p table) (pos 0))) e
    ∙ ap (λ r. with_sum r (eras_over w r.answer.points p)) (sym (fill-accepted w p table budget (eras_accepted p e).0))

pub refused_alters_nothing : (w : ℕ) (p table : List ℕ) (budget : ℕ) → (eras_refusal p ≡ 0 → ⊥)
    → fill_eras w p table budget ≡ with_sum (fill_refused (eras_refusal p) p table) (pos 0)
unfolding fill_eras
refused_alters_nothing w p table budget h =
    ap (λ b. cond b (with_sum (filled w (points_for p (length table) budget) p table) (eras_over w (points_for p (length table) budget) p)) (with_sum (fill_refused (eras_refusal p) p table) (pos 0)))
    (ne_eqb (eras_refusal p) 0 h)

pub number_is : (w : ℕ) (p table : List ℕ) (budget : ℕ) → (fill_eras w p table budget).answer.number ≡ eras_refusal p
unfolding fill_eras
number_is w p table budget = go (eqb (eras_refusal p) 0) refl
  where
    n : ℕ
    n = points_for p (length table) budget

    go : (b : Bool) → eqb (eras_refusal p) 0 ≡ b
        → (cond b (with_sum (filled w n p table) (eras_over w n p)) (with_sum (fill_refused (eras_refusal p) p table) (pos 0))).answer.number ≡ eras_refusal p
    go true e = sym (eqb-true (eras_refusal p) 0 e)
    go false e = refl

-- A plan that no fill refuses is refused 16 or not at all.
pub sound-number : (w : ℕ) (p table : List ℕ) (budget : ℕ) → refusal p ≡ 0
    → ((fill_eras w p table budget).answer.number ≡ 0) ⊎ ((fill_eras w p table budget).answer.number ≡ 16)
sound-number w p table budget e = go (constant_or_sum (root_row p)) refl
  where
    go : (b : Bool) → constant_or_sum (root_row p) ≡ b
        → ((fill_eras w p table budget).answer.number ≡ 0) ⊎ ((fill_eras w p table budget).answer.number ≡ 16)
    go true told = inl (number_is w p table budget ∙ last-refusal p e ∙ ap (λ b. cond b 0 16) told)
    go false other = inr (number_is w p table budget ∙ last-refusal p e ∙ ap (λ b. cond b 0 16) other)

pub eras_short : (p : List ℕ) → length p < plan_length → refusal_number TooShort ≡ eras_refusal p
unfolding eras_refusal
eras_short p few = rw (lt-ltb (length p) plan_length few)

-- What the code of a refused call answers and leaves, and that of an accepted one: what a fill does, and the sum.
pub eras_refuses : (p table : List ℕ) (budget : ℕ) (e : Refusal) → refusal_number e ≡ eras_refusal p
    → (record { number = refusal_number e; place = 0; points = 0; spent = 0; sum = pos 0 } ≡ (fill_eras 64 p table budget).answer)
    × (table ≡ (fill_eras 64 p table budget).table) × (p ≡ (fill_eras 64 p table budget).plan)
eras_refuses p table budget e told =
    rw (refused_alters_nothing 64 p table budget (λ none. refused-some e (told ∙ none)))
    (ap {B = FillErasAnswer} (λ n. record { number = n; place = 0; points = 0; spent = 0; sum = pos 0 }) told, refl, refl)

pub eras_done : (p table : List ℕ) (budget : ℕ) {n spent : ℕ} {written left : List ℕ} {z : ℤ} → eras_refusal p ≡ 0
    → (record { number = 0; place = 0; points = n; spent = spent } ≡ (fill 64 p table budget).answer)
    × (written ≡ (fill 64 p table budget).table) × (left ≡ (fill 64 p table budget).plan)
    → z ≡ eras_over 64 n p
    → (record { number = 0; place = 0; points = n; spent = spent; sum = z } ≡ (fill_eras 64 p table budget).answer)
    × (written ≡ (fill_eras 64 p table budget).table) × (left ≡ (fill_eras 64 p table budget).plan)
eras_done p table budget {n} {spent} {z = z} e done sums =
    rw (accepted-fills 64 p table budget e) (
      ap₂ {C = FillErasAnswer} (λ r s. record { number = r.number; place = r.place; points = r.points; spent = r.spent; sum = s }) done.0
          (sums ∙ ap (λ r. eras_over 64 r.points p) done.0),
      done.1,
      done.2,
    )

-- The words that are lent after a plan change no answer, and stay.
pub lent_eras_refusal : (p : List ℕ) → plan_length ≤ length p → eras_refusal (lent_plan p) ≡ eras_refusal p
unfolding eras_refusal
lent_eras_refusal p long = ap (λ n. cond (eqb n 0) (cond (constant_or_sum (root_row (lent_plan p))) 0 16) n) same ∙ pick (eqb (refusal p) 0) refl
  where
    same : refusal (lent_plan p) ≡ refusal p
    same = lent_refusal p long

    pick : (b : Bool) → eqb (refusal p) 0 ≡ b
        → cond b (cond (constant_or_sum (root_row (lent_plan p))) 0 16) (refusal p) ≡ cond b (cond (constant_or_sum (root_row p)) 0 16) (refusal p)
    pick true e = ap (λ row. cond (constant_or_sum row) 0 16) (lent_root_row p (accepted p (eqb-true (refusal p) 0 e)).1)
    pick false e = refl

abbrev pub CountsAlike : List ℕ → FilledEras → FilledEras → Type 0
CountsAlike p r s = (r.answer ≡ s.answer) × (r.table ≡ s.table) × (r.plan ++ drop plan_length p ≡ s.plan)

pub lent_fill_eras : (w : ℕ) (p table : List ℕ) (budget : ℕ) {q : List ℕ} → plan_length ≤ length p → q ≡ lent_plan p
    → CountsAlike p (fill_eras w q table budget) (fill_eras w p table budget)
lent_fill_eras w p table budget long whole = rw whole (judged (eqb (eras_refusal p) 0) refl)
  where
    same : eras_refusal (lent_plan p) ≡ eras_refusal p
    same = lent_eras_refusal p long

    judged : (b : Bool) → eqb (eras_refusal p) 0 ≡ b → CountsAlike p (fill_eras w (lent_plan p) table budget) (fill_eras w p table budget)
    judged true e =
        let none = eqb-true (eras_refusal p) 0 e in
        let good = (accepted p (eras_accepted p none).0).1 in
        let alike = lent_fill w p table budget long refl in
        rw (accepted-fills w (lent_plan p) table budget (same ∙ none), accepted-fills w p table budget none) (
          ap₂ {C = FillErasAnswer} (λ r z. record { number = r.number; place = r.place; points = r.points; spent = r.spent; sum = z }) alike.0
              (ap (λ r. eras_over w r.points (lent_plan p)) alike.0 ∙ lent_eras w (fill w p table budget).answer.points p good),
          alike.1,
          alike.2,
        )
    judged false e =
        let some = eqb-false (eras_refusal p) 0 e in
        rw (refused_alters_nothing w (lent_plan p) table budget (λ z. some (sym same ∙ z)), refused_alters_nothing w p table budget some)
        (ap {B = FillErasAnswer} (λ n. record { number = n; place = 0; points = 0; spent = 0; sum = pos 0 }) same, refl, take-append-drop plan_length p)

-- The sum is a signed number of 64 bits, whatever table and budget: a plan with a sum chain for its root has no more points than half the budget, and any
-- other root never crosses.
pub sum_range : (w : ℕ) (p : List ℕ) (room budget : ℕ) → sound p ≡ true → budget < 2 ^ 64 → nat_abs (eras_over w (points_for p room budget) p) < 2 ^ 63
sum_range w p room budget e few = go (eqb (kind (root_row p)) 1) refl
  where
    twice : (n c : ℕ) → 1 ≤ c → n * (c + 1) ≤ budget → n + n ≤ budget
    twice n zero some h = elim some [ ]
    twice n (suc c) some h = omega arith

    go : (b : Bool) → eqb (kind (root_row p)) 1 ≡ b → nat_abs (eras_over w (points_for p room budget) p) < 2 ^ 63
    go true k =
        let n = points_for p room budget in
        omega (
          arith,
          abs_eras w n p,
          twice n (cost p) (root_cost p e (eqb-true (kind (root_row p)) 1 k)) (spent_fits budget (cost p) n room refl),
          few,
        )
    go false k = rw (eras_none w (points_for p room budget) p e (eqb-false (kind (root_row p)) 1 k)) (omega arith)

-- ---- one accepted call, by its answer
module _ (p table : List ℕ) (budget : ℕ) (nought : (fill_eras 64 p table budget).answer.number ≡ 0) where
  good : eras_refusal p ≡ 0
  good = sym (number_is 64 p table budget) ∙ nought

  done : fill_eras 64 p table budget ≡ with_sum (filled 64 (points_for p (length table) budget) p table) (eras_over 64 (points_for p (length table) budget) p)
  done =
      accepted-fills 64 p table budget good
      ∙ ap (λ r. with_sum r (eras_over 64 r.answer.points p)) (fill-accepted 64 p table budget (eras_accepted p good).0)

  pub exact_call : AreWords 64 p
      → position 64 (fill_eras 64 p table budget).answer.points p
      ≡ pos (first_element (root_row (fill_eras 64 p table budget).plan)) +ℤ pos (2 ^ 64) *ℤ (fill_eras 64 p table budget).answer.sum
  exact_call words =
      rw done
      (exact_position 64 (points_for p (length table) budget) p words (accepted p (eras_accepted p good).0).1 (eras_accepted p good).1)

  pub sum_fits : budget < 2 ^ 64
      → (neg_ℤ (pos (2 ^ 63)) ≤ℤ (fill_eras 64 p table budget).answer.sum) × ((fill_eras 64 p table budget).answer.sum ≤ℤ pos (2 ^ 63 - 1))
  sum_fits few =
      rw done
      (range (eras_over 64 (points_for p (length table) budget) p)
      (sum_range 64 p (length table) budget (accepted p (eras_accepted p good).0).1 few))
    where
      range : (z : ℤ) → nat_abs z < 2 ^ 63 → (neg_ℤ (pos (2 ^ 63)) ≤ℤ z) × (z ≤ℤ pos (2 ^ 63 - 1))
      range (pos n) h = (record { le = tt }, record { le = le→leb n (2 ^ 63 - 1) (omega arith) })
      range (negsuc n) h = (record { le = le→leb n (2 ^ 63 - 1) (omega arith) }, record { le = tt })

-- ---- calls one after the other: their sums add up to that of all their points
told_after : (w n : ℕ) (p : List ℕ) → sound p ≡ true → constant_or_sum (root_row (plan_after w n p)) ≡ constant_or_sum (root_row p)
unfolding plan_after
told_after w zero p e = refl
told_after w (suc n) p e = told_after w n (shifted_plan w p) (sound-shifted w p ∙ e) ∙ told_shifted w p e

refusal_still : (w n : ℕ) (p : List ℕ) → eras_refusal p ≡ 0 → eras_refusal (plan_after w n p) ≡ 0
refusal_still w n p e =
    let (good, told) = eras_accepted p e in
    last-refusal (plan_after w n p) (refusal-after w n p ∙ good)
    ∙ ap (λ b. cond b 0 16) (told_after w n p (accepted p good).1 ∙ told)

pub sums_shared : (w : ℕ) (p : List ℕ) (calls : List Call) → eras_refusal p ≡ 0 → sum_of w p calls ≡ eras_over w (points_of w p calls) p
unfolding sum_of points_of eras_over
sums_shared w p [] e = refl
sums_shared w p (call ∷ calls) e =
    let n = points_for p (length call.table) call.budget in
    let fills = fill-accepted w p call.table call.budget (eras_accepted p e).0 in
    ap (λ r. r.answer.sum +ℤ sum_of w r.plan calls)
    (accepted-fills w p call.table call.budget e ∙ ap (λ r. with_sum r (eras_over w r.answer.points p)) fills)
    ∙ ap (λ z. eras_over w n p +ℤ z) (sums_shared w (plan_after w n p) calls (refusal_still w n p e))
    ∙ sym (eras_add w n (points_of w (plan_after w n p) calls) p)
    ∙ ap (λ k. eras_over w k p) (sym (ap (λ r. r.answer.points + points_of w r.plan calls) fills))

-- "The sums of any list of calls add up to the sum of one call over all their points."
pub shared_sums : (w : ℕ) (p : List ℕ) (calls : List Call) (table : List ℕ) (budget : ℕ) → eras_refusal p ≡ 0
    → (fill_eras w p table budget).answer.points ≡ points_of w p calls → sum_of w p calls ≡ (fill_eras w p table budget).answer.sum
shared_sums w p calls table budget e same =
    sums_shared w p calls e
    ∙ ap (λ n. eras_over w n p) (sym same ∙ ap (λ r. r.answer.points) (accepted-fills w p table budget e))
    ∙ sym (ap (λ r. r.answer.sum) (accepted-fills w p table budget e))

-- ---- any two answers that meet the contract of filling with era count are equal, with all that they leave in table and plan
pub fill_eras_unique : (p table : List ℕ) (budget : ℕ) (r s : FillErasAnswer) (t u q v : List ℕ)
    → r ≡ (fill_eras 64 p table budget).answer → t ≡ (fill_eras 64 p table budget).table → q ≡ (fill_eras 64 p table budget).plan
    → s ≡ (fill_eras 64 p table budget).answer → u ≡ (fill_eras 64 p table budget).table → v ≡ (fill_eras 64 p table budget).plan
    → (r ≡ s) × (t ≡ u) × (q ≡ v)
fill_eras_unique p table budget r s t u q v a b c d e f = (both_are a d, both_are b e, both_are c f)
