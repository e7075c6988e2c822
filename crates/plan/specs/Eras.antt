-- Filling with era count, request One of document 02: the root as a chain, its crossings over the points written, the exact position, and what the call answers,
-- refuses and leaves. One chain's crossing is in chain's Crossing.antt, filling itself in Filling.antt. The width w is a parameter; the calls have w = 64.
use Rattle.std.specs.Prelude.{Bool, cond, ◌||◌, List, [], ◌∷◌, ℕ, zero, suc, ◌-◌, ◌^◌, ◌<◌, eqb, ℤ, pos, ◌+ℤ◌, length, get_or}
use Rattle.chain.specs.Crossing.{signed_step, crossing}
use Rattle.plan.specs.Answers.{FillErasAnswer}
use Rattle.plan.specs.Row.{Row, kind, first_element}
use Rattle.plan.specs.Plan.{row_count, row, refusal}
use Rattle.plan.specs.Points.{chain_of, shifted_plan}
use Rattle.plan.specs.Filling.{Filled, points_for, filled, fill_refused}
use Rattle.plan.specs.Calls.{Call}

-- "root last".
abbrev pub root_row : List ℕ → Row
root_row p = row p (row_count p - 1)

-- A row as a chain: the elements of a sum chain, and of any other row the first element alone, as a constant stands.
abbrev pub as_chain : Row → List ℕ
as_chain x = cond (eqb (kind x) 1) (chain_of x) (first_element x ∷ [])

abbrev pub root_chain : List ℕ → List ℕ
root_chain p = as_chain (root_row p)

-- "Filling adds these up for the root over the points written": each point's own shift, the last one's too.
unfoldable pub eras_over : ℕ → ℕ → List ℕ → ℤ
eras_over w zero p = pos 0
eras_over w (suc n) p = crossing w (root_chain p) +ℤ eras_over w n (shifted_plan w p)

-- "all signed steps": at each point the root's second element, read as a signed number.
unfoldable pub steps_over : ℕ → ℕ → List ℕ → ℤ
steps_over w zero p = pos 0
steps_over w (suc n) p = signed_step w (root_chain p) +ℤ steps_over w n (shifted_plan w p)

-- "The exact position, start value plus all signed steps".
abbrev pub position : ℕ → ℕ → List ℕ → ℤ
position w n p = pos (first_element (root_row p)) +ℤ steps_over w n p

-- "All values are words modulo 2^64": what a lent plan holds.
abbrev pub AreWords : ℕ → List ℕ → Type 0
AreWords w p = (i : ℕ) → get_or p i 0 < 2 ^ w

-- "Refusals: 16, root row is not a constant or sum chain, place 0, after 9": 1, then 9, then 16.
abbrev pub constant_or_sum : Row → Bool
constant_or_sum row = eqb (kind row) 0 || eqb (kind row) 1

unfoldable pub eras_refusal : List ℕ → ℕ
eras_refusal p = cond (eqb (refusal p) 0) (cond (constant_or_sum (root_row p)) 0 16) (refusal p)

-- The answer, and every word of table and plan afterwards: as filling has them, with the sum.
pub record FilledEras : Type 0 where
  pub answer : FillErasAnswer
  pub table : List ℕ
  pub plan : List ℕ

abbrev pub with_sum : Filled → ℤ → FilledEras
with_sum r z = record {
  answer = record { number = r.answer.number; place = r.answer.place; points = r.answer.points; spent = r.answer.spent; sum = z };
  table = r.table;
  plan = r.plan;
}

-- "Filling with era count is a new call beside the old one"; "a refused call answers 0 points, spent and sum".
unfoldable pub fill_eras : ℕ → List ℕ → List ℕ → ℕ → FilledEras
fill_eras w p table budget =
    cond (eqb (eras_refusal p) 0)
    (with_sum (filled w (points_for p (length table) budget) p table) (eras_over w (points_for p (length table) budget) p))
    (with_sum (fill_refused (eras_refusal p) p table) (pos 0))

-- Such calls one after the other, each on the plan that the one before it left: their sums added up.
abbrev pub called_eras : ℕ → List ℕ → Call → FilledEras
called_eras w p call = fill_eras w p call.table call.budget

unfoldable pub sum_of : ℕ → List ℕ → List Call → ℤ
sum_of w p [] = pos 0
sum_of w p (call ∷ calls) = (called_eras w p call).answer.sum +ℤ sum_of w (called_eras w p call).plan calls
