use native.Mathlib.Omega.{arith}
use Rattle.fold.proofs.ReadBack.{some_rows}
use Rattle.compile.proofs.Finding.{reached_root, reached_next, reached_leaf}
use Rattle.compile.proofs.machine.first_row.Goals as goal

pub overflow_sub-r : goal.overflow_sub-r
overflow_sub-r c = omega (arith, c.requires.ends.1.2.behind, some_rows c.requires.ends.1.1)

pub loop-r-init : goal.loop-r-init
loop-r-init c = (omega (arith, c.requires.end_le_most_rows, c.requires.ends.1.2.behind, some_rows c.requires.ends.1.1), λ first operand. reached_root c.args.plan.now first (c.args.end) operand)

pub word-requires-clause-r_lt_most_rows : goal.word-requires-clause-r_lt_most_rows
word-requires-clause-r_lt_most_rows c = c.loop-r.invariant.0

pub word-r-requires-clause-r_lt_most_rows : goal.word-r-requires-clause-r_lt_most_rows
word-r-requires-clause-r_lt_most_rows c = c.loop-r.invariant.0

pub loop-r-smaller : goal.loop-r-smaller
loop-r-smaller c = (reached_next c.args.plan.now c.requires.ends.0 (c.loop-r.r) (c.loop-r.invariant.1 c.requires.ends.0 c.requires.ends.1) (c.word.ensures) (c.word-r.ensures) (c.loop-r-test.true)).0

pub loop-r-preserved : goal.loop-r-preserved
loop-r-preserved c = (omega (arith, c.loop-r.invariant.0, (reached_next c.args.plan.now c.requires.ends.0 (c.loop-r.r) (c.loop-r.invariant.1 c.requires.ends.0 c.requires.ends.1) (c.word.ensures) (c.word-r.ensures) (c.loop-r-test.true)).0), λ first operand. (reached_next c.args.plan.now first (c.loop-r.r) (c.loop-r.invariant.1 first operand) (c.word.ensures) (c.word-r.ensures) (c.loop-r-test.true)).1)

pub returns : goal.returns
returns c = λ first operand. reached_leaf c.args.plan.now first (c.loop-r.r) (c.loop-r.invariant.1 first operand) (c.word.ensures) (c.loop-r-test.false)
