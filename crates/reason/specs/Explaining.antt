-- What the call answers for a lent plan and a row number, whatever they are: the row's reason and "its span".
use Rattle.std.specs.Prelude.{◌≡◌, List, ℕ, ◌≤◌, ◌<◌}
use Rattle.plan.specs.Row.{kind, first_byte, end_byte}
use Rattle.plan.specs.Plan.{row_count, row, refusal}
use Rattle.reason.specs.Answer.{ReasonAnswer}
use Rattle.reason.specs.RowTrees.{row_tree}
use Rattle.reason.specs.Reasons.{Reason}

abbrev pub refusing : ℕ → ReasonAnswer
refusing n = record { number = n; place = 0; reason = 0; first = 0; end = 0 }

-- A reason beside the span of row r.
abbrev pub explaining : List ℕ → ℕ → ℕ → ReasonAnswer
explaining p r n = record { number = 0; place = 0; reason = n; first = first_byte (row p r); end = end_byte (row p r) }

-- "Refusals: 1 and 9 as for filling." Then "for each row of kinds 3 to 8, its span and one reason"; a row of kinds 0 to 2 has its span alone, and a
-- row that word 0 doesn't count nothing.
pub data Explaining (w : ℕ) (p : List ℕ) (r : ℕ) : ReasonAnswer → Type 0 where
  refused : (refusal p ≡ 0 → ⊥) → Explaining w p r (refusing (refusal p))
  not-counted : refusal p ≡ 0 → row_count p ≤ r → Explaining w p r (refusing 0)
  no_operator : refusal p ≡ 0 → r < row_count p → kind (row p r) < 3 → Explaining w p r (explaining p r 0)
  operator : {n : ℕ} → refusal p ≡ 0 → r < row_count p → 3 ≤ kind (row p r) → Reason w (row_tree p r) n → Explaining w p r (explaining p r n)
