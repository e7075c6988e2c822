-- `read_number` reads 0, or digits. Invariant: the scan stands in the number that was read so far.
use mathlib.Core.Path.{◌≡◌}
use Prim.Native.Nat.{◌+◌}
use Rattle.formula_scan.specs.Fields.{as_numeral}
use Rattle.formula_scan.proofs.Readings.{NumberSoFar}
use Rattle.formula_digits.proofs.read_number.Given as goal

abbrev pub invariant-loop-byte : goal.invariant-loop-byte
invariant-loop-byte l = record { so_far : NumberSoFar 64 l.text l.at (as_numeral l.number); reached : l.number.at ≡ l.at + 1 + l.byte-index }
