-- `raise` takes every word to the n. Invariant: the first words are done.
use Rattle.std.proofs.Common.{◌≡◌}
use Rattle.word.specs.Word as Word
use Rattle.chain_values.proofs.Passing.{done}
use Rattle.chain_values.proofs.raise.Given as goal

abbrev pub invariant-loop-a : goal.invariant-loop-a
invariant-loop-a l = l.f ≡ done (λ a. Word.power 64 a l.n) l.a-index l.initial.f
