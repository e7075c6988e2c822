-- `deep_place` finds the first ( that is too deep. Invariant: the brackets passed are counted, and none was too deep.
use Rattle.formula_scan.proofs.BracketCount.{DeepSoFar}
use Rattle.formula_read.proofs.depth.deep_place.Given as goal

abbrev pub invariant-loop-place : goal.invariant-loop-place
invariant-loop-place l = DeepSoFar l.text l.place l.opened l.closed
