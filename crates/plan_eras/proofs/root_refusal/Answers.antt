-- `root_refusal` judges the kind of the last row.
use Rattle.std.proofs.Common.{arith}
use Rattle.plan.proofs.SoundLaws.{sound-count}
use Rattle.plan_eras.proofs.root_refusal.Goals as goal

pub overflow_sub-plan : goal.overflow_sub-plan
overflow_sub-plan c = omega (arith, sound-count c.args.plan.now c.requires)

pub word-kind-requires-clause-r_lt_most_rows : goal.word-kind-requires-clause-r_lt_most_rows
word-kind-requires-clause-r_lt_most_rows c = omega (arith, sound-count c.args.plan.now c.requires)
