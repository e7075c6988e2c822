-- `from_coefficients` answers the trimmed chain of the coefficients, or refuses more than 17: the elements stay, only the length is found.
use Rattle.std.proofs.Common.{length, arith, le-ltb, lt-ltb}
use Rattle.chain.specs.Chain.{words}
use Rattle.chain.specs.Coefficients.{from_coefficients}
use Rattle.chain.proofs.CoefficientLaws.{row_coefficients}
use Rattle.chain.proofs.Trimming.{row-trimmed}
use Rattle.chain_coefficients.proofs.from_coefficients.Goals as goal

pub returns-then-a-gt17 : goal.returns-then-a-gt17
returns-then-a-gt17 c = rw (lt-ltb 17 (length c.args.a.now) (omega arith))

pub returns : goal.returns
returns c =
    let a = c.args.a.now in
    rw (
      c.last_other.ensures,
      c.elements-elements.ensures,
      le-ltb 17 (length a) (omega arith),
      row-trimmed 17 (words 64 (from_coefficients a)),
      row_coefficients 64 a,
    )
