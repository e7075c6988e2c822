-- A run as a list of calls: steps over whatever chunks of the input, and the end; and where calls may have led. What one call answers and leaves
-- is in Steps.antt.
use Rattle.std.specs.Prelude.{◌≡◌, true, List, [], ◌++◌, ℕ, ◌≤◌, length, take, drop}
use Rattle.plan.specs.Measures.{plan_length}
use Rattle.table.specs.declared.Tool.{Tool}
use Rattle.table_progress.specs.declared.Progress.{Progress}
use Rattle.table_progress.specs.Steps.{started, Buffers, Outcome, most_printed, stepped, finished}

-- The buffers that a call is lent.
abbrev pub lent : (line defaults plan table out : List ℕ) → Buffers
lent line defaults plan table out = record { line = line; defaults = defaults; plan = plan; table = table; out = out }

-- Plan, table and out that are long enough.
pub record Roomy (plan table out : List ℕ) : Type 0 where
  pub plan_room : plan_length ≤ length plan
  pub table_room : 4096 ≤ length table
  pub out_room : most_printed ≤ length out

-- What a call writes.
abbrev pub written : Outcome → List ℕ
written o = take o.answer.wrote o.buffers.out

-- `Runs tool p line defaults input output`: calls of the tool from p on, over buffers whose line and defaults are as the call before left them, take the input
-- and write the output. Between the calls the caller may do with plan, table and out what it likes, and lend others. A step is lent some
-- chunk of what is left of the input, and what it did not use is left for the next one. Every call is accepted.
pub data Runs (tool : Tool) : Progress → (line defaults input output : List ℕ) → Type 0 where
  ends : {p : Progress} {line defaults output : List ℕ} (plan table out : List ℕ)
      → (finished tool p (lent line defaults plan table out)).answer.ok ≡ true
      → output ≡ written (finished tool p (lent line defaults plan table out))
      → Runs tool p line defaults [] output
  steps : {p : Progress} {line defaults input output : List ℕ} (plan table out chunk rest later : List ℕ) (o : Outcome)
      → input ≡ chunk ++ rest
      → o ≡ stepped tool p chunk (lent line defaults plan table out)
      → o.answer.ok ≡ true
      → Runs tool o.answer.progress o.buffers.line o.buffers.defaults (drop o.answer.used chunk ++ rest) later
      → output ≡ written o ++ later
      → Runs tool p line defaults input output

-- `Reached tool line defaults input p line' defaults' left`: accepted steps from the start have led to p, with that much of the input left.
pub data Reached (tool : Tool) (line defaults input : List ℕ) : Progress → (line' defaults' left : List ℕ) → Type 0 where
  at_start : Reached tool line defaults input started line defaults input
  by_step : {p : Progress} {line' defaults' left : List ℕ} (plan table out chunk rest : List ℕ) (o : Outcome)
      → Reached tool line defaults input p line' defaults' left
      → left ≡ chunk ++ rest
      → o ≡ stepped tool p chunk (lent line' defaults' plan table out)
      → o.answer.ok ≡ true
      → Reached tool line defaults input o.answer.progress o.buffers.line o.buffers.defaults (drop o.answer.used chunk ++ rest)
