-- `times` is the product modulo 2^64: the law of half words at 2^32.
use Rattle.word.proofs.HalfWords.{from_halves}
use Rattle.word.proofs.times.Goals as goal

pub returns : goal.returns
returns c = from_halves 4294967296 c.args.a c.args.b
