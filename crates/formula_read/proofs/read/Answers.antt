-- `read` reads over the first 257 words.
use native.Mathlib.Omega.{arith}
use lib.Seq.{length-take-le}
use Rattle.formula.specs.Words.{tree_length}
use Rattle.formula.specs.Refusals.{too_short}
use Rattle.formula_scan.proofs.Deciding.{over_reading}
use Rattle.formula_read.proofs.read.Goals as goal

pub returns-then-tree-lt-TREE_WORDS : goal.returns-then-tree-lt-TREE_WORDS
returns-then-tree-lt-TREE_WORDS c = too_short (omega arith)

pub read_over-requires : goal.read_over-requires
read_over-requires c = omega (arith, length-take-le tree_length c.args.tree.now (omega arith))

pub returns : goal.returns
returns c = over_reading (omega arith) (c.read_over.ensures)
