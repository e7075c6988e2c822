-- `move_row` writes row r, lowered, one row further down, and puts its span in there.
use mathlib.Core.Path.{◌≡◌, ap, ◌∙◌}
use mathlib.Core.List.{[], ◌∷◌}
use Prim.Native.Nat.{◌-◌}
use native.Mathlib.Omega.{arith}
use lib.ListN.{length}
use Rattle.plan.specs.Measures.{element_count}
use Rattle.plan.specs.Plan.{row}
use Rattle.formula.specs.Tree.{span}
use Rattle.fold_rows.specs.Standing.{with_row}
use Rattle.fold_rows.proofs.Placing.{lowered-row}
use Rattle.fold_rows.proofs.Stood.{span-behind}
use borrow.Author.Rules.{rules}
use Rattle.fold_rows.proofs.moved_rows.move_row.Goals as goal

pub returns : goal.returns
returns c =
    let long : length c.elements-e.result ≡ element_count = search rules in
    let plan = c.args.plan.now in
    let r = c.args.r in
    span-behind plan (r - 1) c.word-kind.result c.lowered-a.result c.lowered-b.result c.elements-e.result (0 ∷ 0 ∷ [])
    (span c.word-first.result c.word-end.result) (omega arith) long (omega arith)
    c.write.ensures c.put_span.ensures
    ∙ ap (with_row plan (r - 1))
    (lowered-row (row plan r) c.word-kind.ensures c.operand_count-operands.ensures c.word.ensures
    c.word-2.ensures c.lowered-a.ensures c.lowered-b.ensures c.elements-e.ensures
    c.word-first.ensures c.word-end.ensures)
