-- `word_by_word` works out each word of two arrays. Invariant: the first i words are stored.
use Rattle.std.proofs.Common.{◌≡◌, take}
use Rattle.chain.specs.Chain.{row}
use Rattle.chain_arrays.specs.Operations.{word_by_word}
use Rattle.chain_arrays.proofs.word_by_word.Given as goal

abbrev pub invariant-loop-i : goal.invariant-loop-i
invariant-loop-i g l = l.r ≡ row 17 (take l.i (word_by_word g.O.Operation.operation l.f l.g))
