-- Filling: its points one after the other, how it is shared out over calls, and what its contracts leave no choice in.
use mathlib.Core.Path.{◌≡◌, refl, sym, ap, ap₂, ◌∙◌}
use mathlib.Core.List.{List, [], ◌∷◌, ◌++◌}
use Prim.Native.Nat.{ℕ, zero, suc, ◌+◌, ◌*◌, ◌≤◌, ◌<◌}
use native.Mathlib.Nat.{zero-add, suc-add, zero-mul, add-mul, le_of_suc-le-suc, not-suc-le-zero, le-min, le-div_iff_mul-le}
use native.Mathlib.Numerals.{add-one}
use native.Mathlib.Omega.{arith}
use lib.ListN.{length, get_or, set, take, drop}
use lib.Seq.{drop-cons, append_snoc, set_at, take_at}
use Rattle.word.proofs.Unique.{both_are}
use Rattle.plan.specs.Answers.{FillAnswer, CostAnswer, SoundAnswer}
use Rattle.plan.specs.Plan.{refusal}
use Rattle.plan.specs.Points.{root_value, shifted_plan}
use Rattle.plan.specs.Filling.{point_cost, points_for, plan_after, point_values, filled, fill, cost_answer, sound_answer}
use Rattle.plan.specs.Calls.{Call, called, written, plan_left, points_of, spent_of}
use Rattle.plan.proofs.Keeping.{cost-after, refusal-after}
use Rattle.plan.proofs.Accepting.{fill-accepted}

-- ---- n points and then m more
pub after-add : (w n m : ℕ) (p : List ℕ) → plan_after w (n + m) p ≡ plan_after w m (plan_after w n p)
unfolding plan_after
after-add w zero m p = rw (zero-add m)
after-add w (suc n) m p = rw (suc-add n m) (after-add w n m (shifted_plan w p))

pub points-add : (w n m : ℕ) (p : List ℕ) → point_values w (n + m) p ≡ point_values w n p ++ point_values w m (plan_after w n p)
unfolding plan_after point_values
points-add w zero m p = rw (zero-add m)
points-add w (suc n) m p = rw (suc-add n m) (ap {B = List ℕ} (λ l. root_value w p ∷ l) (points-add w n m (shifted_plan w p)))

pub length-points : (w n : ℕ) (p : List ℕ) → length (point_values w n p) ≡ n
unfolding point_values
length-points w zero p = refl
length-points w (suc n) p = ap suc (length-points w n (shifted_plan w p))

-- One point more.
pub after_next : (w n : ℕ) (p : List ℕ) → plan_after w (n + 1) p ≡ shifted_plan w (plan_after w n p)
unfolding plan_after
after_next w n p = after-add w n 1 p

pub points-next : (w n : ℕ) (p : List ℕ) → point_values w (n + 1) p ≡ point_values w n p ++ root_value w (plan_after w n p) ∷ []
unfolding point_values
points-next w n p = points-add w n 1 p

-- The same in a table: word n takes the next point, and the words after it stay.
pub points_store : (w n : ℕ) (p table : List ℕ) → n < length table
    → set (point_values w n p ++ drop n table) n (root_value w (plan_after w n p)) ≡ point_values w (n + 1) p ++ drop (n + 1) table
points_store w n p table h =
    ap (λ l. set (point_values w n p ++ l) n (root_value w (plan_after w n p))) (drop-cons table n 0 h)
    ∙ set_at (point_values w n p) (get_or table n 0) (drop (suc n) table) (root_value w (plan_after w n p)) n (length-points w n p)
    ∙ sym (append_snoc (point_values w n p) (root_value w (plan_after w n p)) (drop (suc n) table))
    ∙ ap₂ (λ f k. f ++ drop k table) (sym (points-next w n p)) (sym (add-one n))

-- Point i is the root's value of the plan after i points.
pub point_at : (w n : ℕ) (p : List ℕ) (i : ℕ) → i < n → get_or (point_values w n p) i 0 ≡ root_value w (plan_after w i p)
unfolding plan_after point_values
point_at w zero p i h = absurd (not-suc-le-zero h)
point_at w (suc n) p zero h = refl
point_at w (suc n) p (suc i) h = point_at w n (shifted_plan w p) i (le_of_suc-le-suc h)

-- ---- one call
-- A call with room and budget for a point writes one at least.
pub writes_one : (w : ℕ) (p table : List ℕ) (budget : ℕ) → refusal p ≡ 0 → 0 < length table → point_cost p ≤ budget
    → 0 < (fill w p table budget).answer.points
writes_one w p table budget e room enough =
    rw (fill-accepted w p table budget e) (le-min room ((le-div_iff_mul-le {k = point_cost p} (omega arith)).1 (omega arith)))

-- ---- calls one after the other
-- The points of an accepted call.
abbrev points_by : List ℕ → Call → ℕ
points_by p call = points_for p (length call.table) call.budget

accepted : (w : ℕ) (p : List ℕ) (call : Call) → refusal p ≡ 0 → called w p call ≡ filled w (points_by p call) p call.table
accepted w p call e = fill-accepted w p call.table call.budget e

points-first : (w : ℕ) (p : List ℕ) (call : Call) (calls : List Call) → refusal p ≡ 0
    → points_of w p (call ∷ calls) ≡ points_by p call + points_of w (plan_after w (points_by p call) p) calls
unfolding points_of
points-first w p call calls e = ap (λ r. r.answer.points + points_of w r.plan calls) (accepted w p call e)

-- The calls write the first points of the plan, as many as they answer, and leave it after them; a point costs what it cost at first.
written-points : (w : ℕ) (p : List ℕ) (calls : List Call) → refusal p ≡ 0 → written w p calls ≡ point_values w (points_of w p calls) p
unfolding written points_of point_values
written-points w p [] e = refl
written-points w p (call ∷ calls) e =
    let n = points_by p call in
    ap (λ r. take r.answer.points r.table ++ written w r.plan calls) (accepted w p call e)
    ∙ ap₂ ◌++◌ (take_at (point_values w n p) (drop n call.table) n (length-points w n p))
    (written-points w (plan_after w n p) calls (refusal-after w n p ∙ e))
    ∙ sym (points-add w n (points_of w (plan_after w n p) calls) p)
    ∙ ap (λ m. point_values w m p) (sym (points-first w p call calls e))

plan-left : (w : ℕ) (p : List ℕ) (calls : List Call) → refusal p ≡ 0 → plan_left w p calls ≡ plan_after w (points_of w p calls) p
unfolding plan_left points_of plan_after
plan-left w p [] e = refl
plan-left w p (call ∷ calls) e =
    let n = points_by p call in
    ap (λ r. plan_left w r.plan calls) (accepted w p call e)
    ∙ plan-left w (plan_after w n p) calls (refusal-after w n p ∙ e)
    ∙ sym (after-add w n (points_of w (plan_after w n p) calls) p)
    ∙ ap (λ m. plan_after w m p) (sym (points-first w p call calls e))

spent_points : (w : ℕ) (p : List ℕ) (calls : List Call) → refusal p ≡ 0 → spent_of w p calls ≡ points_of w p calls * point_cost p
unfolding spent_of points_of
spent_points w p [] e = sym (zero-mul (point_cost p))
spent_points w p (call ∷ calls) e =
    let n = points_by p call in
    ap (λ r. r.answer.spent + spent_of w r.plan calls) (accepted w p call e)
    ∙ ap (λ m. n * point_cost p + m) (spent_points w (plan_after w n p) calls (refusal-after w n p ∙ e))
    ∙ ap (λ c. n * point_cost p + points_of w (plan_after w n p) calls * (c + 1)) (cost-after w n p)
    ∙ sym (add-mul n (points_of w (plan_after w n p) calls) (point_cost p))
    ∙ ap (λ m. m * point_cost p) (sym (points-first w p call calls e))

pub shared : (w : ℕ) (p : List ℕ) (calls : List Call) → refusal p ≡ 0
    → (written w p calls ≡ point_values w (points_of w p calls) p)
    × (plan_left w p calls ≡ plan_after w (points_of w p calls) p)
    × (spent_of w p calls ≡ points_of w p calls * point_cost p)
shared w p calls e = (written-points w p calls e, plan-left w p calls e, spent_points w p calls e)

-- However the points are shared out over calls, the calls write the same words, leave the same plan and spend the same budget.
pub shared_alike : (w : ℕ) (p : List ℕ) (calls others : List Call) → refusal p ≡ 0 → points_of w p calls ≡ points_of w p others
    → (written w p calls ≡ written w p others) × (plan_left w p calls ≡ plan_left w p others) × (spent_of w p calls ≡ spent_of w p others)
shared_alike w p calls others e same = (
  written-points w p calls e ∙ ap (λ n. point_values w n p) same ∙ sym (written-points w p others e),
  plan-left w p calls e ∙ ap (λ n. plan_after w n p) same ∙ sym (plan-left w p others e),
  spent_points w p calls e ∙ ap (λ n. n * point_cost p) same ∙ sym (spent_points w p others e),
)

-- ---- any two answers that meet the contract of `fill`, `cost` or `sound` are equal, with all that they leave in table and plan
pub fill-unique : (p table : List ℕ) (budget : ℕ) (r s : FillAnswer) (t u q v : List ℕ)
    → r ≡ (fill 64 p table budget).answer → t ≡ (fill 64 p table budget).table → q ≡ (fill 64 p table budget).plan
    → s ≡ (fill 64 p table budget).answer → u ≡ (fill 64 p table budget).table → v ≡ (fill 64 p table budget).plan
    → (r ≡ s) × (t ≡ u) × (q ≡ v)
fill-unique p table budget r s t u q v a b c d e f = (both_are a d, both_are b e, both_are c f)

pub cost-unique : (p : List ℕ) (r s : CostAnswer) → r ≡ cost_answer p → s ≡ cost_answer p → r ≡ s
cost-unique p r s = both_are

pub sound-unique : (p : List ℕ) (r s : SoundAnswer) → r ≡ sound_answer p → s ≡ sound_answer p → r ≡ s
sound-unique p r s = both_are
