-- `last_other` looks from the end. Invariant: the elements from the place on are 0.
use Rattle.std.proofs.Common.{◌≡◌, ℕ, ◌<◌, ◌≤◌, get_or}
use Rattle.chain_coefficients.proofs.last_other.Given as goal

abbrev pub invariant-loop-at : goal.invariant-loop-at
invariant-loop-at l = (k : ℕ) → l.at ≤ k → k < 17 → get_or l.elements k 0 ≡ 0
