-- What filling, cost and soundness answer, for all inputs and all refusals, and what filling leaves in table and plan.
use Rattle.std.specs.Prelude.{cond, List, [], ◌∷◌, ◌++◌, ℕ, zero, suc, ◌+◌, ◌*◌, ◌/◌, min, eqb, length, drop}
use Rattle.plan.specs.Answers.{FillAnswer, CostAnswer, SoundAnswer}
use Rattle.plan.specs.Plan.{cost, refusal}
use Rattle.plan.specs.Points.{root_value, shifted_plan}

-- "A point costs the plan's cost + 1."
abbrev pub point_cost : List ℕ → ℕ
point_cost p = cost p + 1

-- "The points written are the lesser of the table's length and the budget divided by that, rounded down."
abbrev pub points_for : List ℕ → ℕ → ℕ → ℕ
points_for p room budget = min room (budget / point_cost p)

-- "Each point writes the root's value and then shifts every chain once": the plan after n points, and the n words written.
unfoldable pub plan_after : ℕ → ℕ → List ℕ → List ℕ
plan_after w zero p = p
plan_after w (suc n) p = plan_after w n (shifted_plan w p)

unfoldable pub point_values : ℕ → ℕ → List ℕ → List ℕ
point_values w zero p = []
point_values w (suc n) p = root_value w p ∷ point_values w n (shifted_plan w p)

-- The answer of a fill, and every word of table and plan afterwards.
pub record Filled : Type 0 where
  pub answer : FillAnswer
  pub table : List ℕ
  pub plan : List ℕ

-- "The answer gives the points and the budget spent. The plan is left shifted by the points written; table words after them keep their
-- old values."
abbrev pub filled : ℕ → ℕ → List ℕ → List ℕ → Filled
filled w n p table = record {
  answer = record { number = 0; place = 0; points = n; spent = n * point_cost p };
  table = point_values w n p ++ drop n table;
  plan = plan_after w n p;
}

-- "a refused fill returns 0 points and 0 spent"; "a refusal alters no lent word".
abbrev pub fill_refused : ℕ → List ℕ → List ℕ → Filled
fill_refused n p table = record { answer = record { number = n; place = 0; points = 0; spent = 0 }; table = table; plan = p }

unfoldable pub fill : ℕ → List ℕ → List ℕ → ℕ → Filled
fill w p table budget = cond (eqb (refusal p) 0) (filled w (points_for p (length table) budget) p table) (fill_refused (refusal p) p table)

-- The cost of a plan, 0 beside a refusal; and whether a plan is sound: its refusal alone.
abbrev pub cost_answer : List ℕ → CostAnswer
cost_answer p = record { number = refusal p; place = 0; cost = cond (eqb (refusal p) 0) (cost p) 0 }

abbrev pub sound_answer : List ℕ → SoundAnswer
sound_answer p = record { number = refusal p; place = 0 }
