use Rattle.std.proofs.Common.{◌^◌, ◌∙◌, arith}
use Rattle.word.proofs.Squaring.{turn_even, turn_odd}
use Rattle.word.proofs.power.Goals as goal
use Rattle.word.proofs.power.Goals.{then-left-eq1, else-left-eq1}

pub loop-left-preserved : goal.loop-left-preserved
loop-left-preserved c = elim c.if-left-eq1.branch [
  | then-left-eq1 w ↦
      (omega arith, turn_odd (2 ^ 64) _ _ _ w.if-left-eq1.true (w.result-is ∙ w.times-result.ensures) c.times-square.ensures ∙ c.loop-left.invariant.1)
  | else-left-eq1 w ↦
      (omega arith, rw w.result-is (turn_even (2 ^ 64) _ _ _ w.if-left-eq1.false c.times-square.ensures ∙ c.loop-left.invariant.1))
]
