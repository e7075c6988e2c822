-- `root_crossing` answers by the root's kind, and by the first two elements of a sum chain.
use Rattle.std.proofs.Common.{◌∙◌, arith}
use mir.Syntax.{w64}
use mir.ValLaws.{to_z-of_z}
use Rattle.plan.proofs.SoundLaws.{sound-count}
use Rattle.plan.proofs.RootChains.{root_crosses}
use Rattle.plan_eras.proofs.root_crossing.Goals as goal

pub overflow_sub-root : goal.overflow_sub-root
overflow_sub-root c = omega (arith, sound-count c.args.plan.now c.requires)

pub word-requires-clause-r_lt_most_rows : goal.word-requires-clause-r_lt_most_rows
word-requires-clause-r_lt_most_rows c = omega (arith, sound-count c.args.plan.now c.requires)

pub returns : goal.returns
returns c =
    let first = c.word-2 in
    let second = c.word-3 in
    to_z-of_z w64 c.crossed.result (record { sfits = c.crossed.type_inv })
    ∙ c.crossed.ensures
    ∙ root_crosses 64 c.args.plan.now c.requires c.word.ensures (omega arith) first.ensures first.type_inv second.ensures
