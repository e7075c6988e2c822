-- `first_row` goes down from the operand's root. Invariant: row r is the root of a tree that begins where the operand does.
use Prim.Native.Nat.{ℕ, ◌<◌}
use Rattle.plan.specs.Measures.{most_rows}
use Rattle.fold_operands.specs.Operands.{One}
use Rattle.compile.proofs.Finding.{Reached}
use Rattle.compile.proofs.machine.first_row.Given as goal

abbrev pub invariant-loop-r : goal.invariant-loop-r
invariant-loop-r l = (l.r < most_rows) × ((first : ℕ) → One l.plan first l.end → Reached l.plan first l.r)

abbrev pub decreases-loop-r : goal.decreases-loop-r
decreases-loop-r l = l.r
