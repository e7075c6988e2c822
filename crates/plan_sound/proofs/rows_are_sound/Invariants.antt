-- `rows_are_sound` judges row after row. Invariant: the rows passed are sound.
use Rattle.std.proofs.Common.{◌≡◌, ◌≤◌, true, []}
use Rattle.plan.specs.Plan.{first_rows, sound_from}
use Rattle.plan_sound.proofs.rows_are_sound.Given as goal

abbrev pub invariant-loop-r : goal.invariant-loop-r
invariant-loop-r l = (l.r ≤ l.count) × (sound_from [] (first_rows l.r l.plan) ≡ true)
