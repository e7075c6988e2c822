-- `row` is the part of the plan that is row r.
use mathlib.Core.Path.{sym, ap, ◌∙◌}
use Prim.Native.Nat.{◌+◌}
use lib.ListN.{length}
use Rattle.plan.specs.Measures.{row_length}
use Rattle.plan.proofs.RowLaws.{part, row-part, length-row}
use Rattle.plan_rows.proofs.row.Goals as goal

pub returns : goal.returns
returns c = let plan = c.args.plan.now in
    let r = c.args.r in
    let asked = c.requires in
    let same = ap (λ k. part k (k + row_length) plan) c.start-at.ensures ∙ sym (row-part plan r) in record { result_value = same; result_len = ap length same ∙ length-row plan r asked.r_lt_most_rows asked.plan_length_in_bounds }
