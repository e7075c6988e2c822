-- Fill calls one after the other, "each getting the plan as the last one left it": what they write, the plan that they leave, and the points and
-- the budget of all their answers. What one call answers and leaves is in Filling.antt.
use Rattle.std.specs.Prelude.{List, [], ◌∷◌, ◌++◌, ℕ, ◌+◌, take}
use Rattle.plan.specs.Filling.{Filled, fill}

-- A call has a table and a budget of its own.
pub record Call : Type 0 where
  pub table : List ℕ
  pub budget : ℕ

abbrev pub called : ℕ → List ℕ → Call → Filled
called w p call = fill w p call.table call.budget

-- What the calls write, each its points.
unfoldable pub written : ℕ → List ℕ → List Call → List ℕ
written w p [] = []
written w p (call ∷ calls) = take (called w p call).answer.points (called w p call).table ++ written w (called w p call).plan calls

-- The plan that they leave.
unfoldable pub plan_left : ℕ → List ℕ → List Call → List ℕ
plan_left w p [] = p
plan_left w p (call ∷ calls) = plan_left w (called w p call).plan calls

-- The points of all their answers, and the budget spent.
unfoldable pub points_of : ℕ → List ℕ → List Call → ℕ
points_of w p [] = 0
points_of w p (call ∷ calls) = (called w p call).answer.points + points_of w (called w p call).plan calls

unfoldable pub spent_of : ℕ → List ℕ → List Call → ℕ
spent_of w p [] = 0
spent_of w p (call ∷ calls) = (called w p call).answer.spent + spent_of w (called w p call).plan calls
