-- `nodes_fault` codes refusal 7.
use native.Mathlib.Omega.{arith}
use borrow.Author.Tests.{lt-ltb, le-ltb}
use Rattle.formula.specs.Words.{most_nodes}
use Rattle.formula_read.proofs.nodes_fault.Goals as goal

pub returns-then-nodes-gt-MOST_NODES : goal.returns-then-nodes-gt-MOST_NODES
returns-then-nodes-gt-MOST_NODES c = rw (lt-ltb most_nodes c.args.nodes (omega arith)) c.fault.ensures

pub returns : goal.returns
returns c = rw (le-ltb most_nodes c.args.nodes (omega arith))
