-- `power` is the power modulo 2^64. Invariant: the product so far times the square to the rest of the exponent stays the same.
use Rattle.std.proofs.Common.{◌≡◌, ◌*◌, ◌%◌, ◌^◌, ◌<◌}
use Rattle.word.proofs.power.Given as goal

abbrev pub invariant-loop-left : goal.invariant-loop-left
invariant-loop-left l = (l.result < 2 ^ 64) × ((l.result * l.square ^ l.left) % 2 ^ 64 ≡ l.b ^ l.n % 2 ^ 64)

abbrev pub decreases-loop-left : goal.decreases-loop-left
decreases-loop-left l = l.left
