-- `write_points` writes a value, counts and shifts the plan at each point. Invariant: as many values are written as words are passed, the plan is shifted as often,
-- and the sum is that of so many points.
use Rattle.std.proofs.Common.{◌≡◌, ◌++◌, drop}
use Rattle.plan.specs.Filling.{plan_after, point_values}
use Rattle.plan.proofs.Counting.{counted_over}
use Rattle.plan_points.proofs.write_points.Given as goal

abbrev pub invariant-loop-word : goal.invariant-loop-word
invariant-loop-word g l =
    (l.plan ≡ plan_after 64 l.word-index l.initial.plan)
    × (l.table ≡ point_values 64 l.word-index l.initial.plan ++ drop l.word-index l.initial.table)
    × (l.sum ≡ counted_over g.C.Count.counted 64 l.word-index l.initial.plan)
