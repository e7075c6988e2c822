-- `after_minus_signs` passes minus signs. Invariant: the scan has counted those passed.
use Rattle.formula_scan.proofs.Readings.{MinusSoFar}
use Rattle.formula_readers.proofs.after_minus_signs.Given as goal

abbrev pub invariant-loop-place : goal.invariant-loop-place
invariant-loop-place l = MinusSoFar l.text l.at l.place
