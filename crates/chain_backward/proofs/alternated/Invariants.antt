-- `alternated` gives every word the sign of its place. Invariant: the first i of them are stored.
use Rattle.std.proofs.Common.{◌≡◌, take}
use Rattle.chain.specs.Chain.{words, row}
use Rattle.chain_backward.specs.Alternating.{alternated}
use Rattle.chain_backward.proofs.alternated.Given as goal

abbrev pub invariant-loop-i : goal.invariant-loop-i
invariant-loop-i l = l.elements ≡ row 17 (take l.i (words 64 (alternated 64 l.f.elements)))
