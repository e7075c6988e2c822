-- `fold_nodes` folds node after node. Invariant: some trees are finished, and the node words left make the tree of them.
use Prim.Native.Nat.{◌≤◌}
use Rattle.plan.specs.Measures.{most_rows}
use Rattle.formula.specs.Tree.{Tree}
use Rattle.compile.specs.Machine.{Compilable, Written}
use Rattle.compile.proofs.Turns.{Turn}
use Rattle.compile.proofs.machine.fold_nodes.Given as goal

abbrev pub invariant-loop-n : goal.invariant-loop-n
invariant-loop-n l =
    (l.count ≤ most_rows)
    × ((t : Tree) → Compilable l.grid.start l.grid.step t → Written l.initial.plan t → Turn t l.grid.start l.grid.step l.initial.plan l.plan l.end l.n)
