-- What compiling a text on a grid answers, and what the lent plan is afterwards, for all inputs and all refusals.
use Rattle.std.specs.Prelude.{List, ◌++◌, ℕ, ◌≤◌, ◌<◌, length, drop}
use Rattle.plan.specs.Measures.{plan_length}
use Rattle.formula.specs.Tree.{Tree, span_of}
use Rattle.formula.specs.Refusals.{Refused, Accepted}
use Rattle.fold.specs.Folding.{fold}
use Rattle.fold.specs.Layout.{plan_words}
use Rattle.fold.specs.Answer.{CompileAnswer}

-- "1: plan shorter than" its words, 2,817 now; then 2 to 8, "the first number that applies"; "a refusal alters no lent word". Otherwise "Compiling
-- writes all" of them; "words after these stay as they were": the plan of the folded tree, whose root came from all that the formula's root spans.
pub data Compiling (w : ℕ) (s : List ℕ) (start step : ℕ) (lent : List ℕ) : CompileAnswer → List ℕ → Type 0 where
  too_short : length lent < plan_length → Compiling w s start step lent (record { number = 1; place = 0 }) lent
  refused : {n p : ℕ} → plan_length ≤ length lent → Refused w s n p → Compiling w s start step lent (record { number = n; place = p }) lent
  accepted : {t : Tree} → plan_length ≤ length lent → Accepted w s t
      → Compiling w s start step lent (record { number = 0; place = 0 }) (plan_words (span_of t) (fold w start step t) ++ drop plan_length lent)
