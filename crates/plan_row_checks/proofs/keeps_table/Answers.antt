-- `keeps_table` judges kind, a, b and the words past the elements used, in this order.
use Rattle.std.proofs.Common.{drop, sym, ap, ◌∙◌, lt-ltb}
use Rattle.plan.specs.Row.{all_zero, elements}
use Rattle.plan.proofs.RowLaws.{elements-past}
use Rattle.plan_rows.specs.Kinds.{kind_number}
use Rattle.plan_rows.proofs.Numbering.{kind_number_few}
use Rattle.plan_row_checks.proofs.keeps_table.Goals as goal

pub returns : goal.returns
returns c =
    let row = c.args.row.now in
    let kind = c.in-Ok.kind in
    rw (
      ← c.in-Ok.ensures,
      lt-ltb (kind_number kind) 9 (kind_number_few kind),
      sym c.a_is_sound.ensures ∙ c.if-not-a_is_sound.false,
      sym c.b_is_sound.ensures ∙ c.if-not-b_is_sound.false,
    ) (c.all_zero.ensures ∙ ap all_zero (elements-past row c.elements_used-unused.result)
    ∙ ap (λ n. all_zero (drop n (elements row))) c.elements_used-unused.ensures)
