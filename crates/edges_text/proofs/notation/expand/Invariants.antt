-- `expand` ends: each token is read off what is left. Invariant: the end reached is within what is lent.
use Rattle.std.proofs.Common.{◌≤◌, length}
use Rattle.edges_text.proofs.notation.expand.Given as goal

abbrev pub invariant-loop-first : goal.invariant-loop-first
invariant-loop-first l = l.end ≤ length l.out

abbrev pub decreases-loop-first : goal.decreases-loop-first
decreases-loop-first l = length l.rest
