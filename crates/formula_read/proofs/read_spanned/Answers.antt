-- `read_spanned` reads over 513 words, which hold the spans too.
use native.Mathlib.Omega.{arith}
use Rattle.formula_scan.proofs.Deciding.{over-spanned}
use Rattle.formula_read.proofs.read_spanned.Goals as goal

pub read_over-requires : goal.read_over-requires
read_over-requires c = omega (arith, c.requires)

pub returns : goal.returns
returns c = over-spanned (c.requires) (c.read_over.ensures)
