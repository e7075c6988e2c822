-- `put` writes a node where it has room: two words, or four with its span.
use mathlib.Core.Path.{sym}
use native.Mathlib.Omega.{arith}
use lib.ListN.{length-set}
use Rattle.formula.specs.Tree.{span}
use Rattle.formula_scan.proofs.Written.{put-past, put_nowhere, put-plain, put-spanned}
use Rattle.formula_nodes.proofs.put.Goals as goal

pub returns-then-n-ge-MOST_NODES : goal.returns-then-n-ge-MOST_NODES
returns-then-n-ge-MOST_NODES c = sym (put-past c.args.tree.now (c.args.n) (c.args.kind) (c.args.word) (span (c.args.first) (c.args.end)) (omega arith))

pub returns-then-tree-lt-PLAIN_WORDS : goal.returns-then-tree-lt-PLAIN_WORDS
returns-then-tree-lt-PLAIN_WORDS c = sym (put_nowhere c.args.tree.now (c.args.n) (c.args.kind) (c.args.word) (span (c.args.first) (c.args.end)) (omega arith) (omega arith))

pub bounds-tree-start : goal.bounds-tree-start
bounds-tree-start c = omega arith

pub bounds-tree-start-then-tree-lt-SPANNED_WORDS : goal.bounds-tree-start-then-tree-lt-SPANNED_WORDS
bounds-tree-start-then-tree-lt-SPANNED_WORDS c = simp length-set (omega arith)

pub returns-then-tree-lt-SPANNED_WORDS : goal.returns-then-tree-lt-SPANNED_WORDS
returns-then-tree-lt-SPANNED_WORDS c = sym (put-plain c.args.tree.now (c.args.n) (c.args.kind) (c.args.word) (span (c.args.first) (c.args.end)) (omega arith) (omega arith) (omega arith))

pub bounds-tree-start-2 : goal.bounds-tree-start-2
bounds-tree-start-2 c = omega arith

pub bounds-tree-start-3 : goal.bounds-tree-start-3
bounds-tree-start-3 c = simp length-set (omega arith)

pub bounds-tree-start-4 : goal.bounds-tree-start-4
bounds-tree-start-4 c = simp length-set (omega arith)

pub bounds-tree-start-5 : goal.bounds-tree-start-5
bounds-tree-start-5 c = simp length-set (omega arith)

pub returns : goal.returns
returns c = sym (put-spanned c.args.tree.now (c.args.n) (c.args.kind) (c.args.word) (c.args.first) (c.args.end) (omega arith) (omega arith))
