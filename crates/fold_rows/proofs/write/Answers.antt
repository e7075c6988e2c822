-- `write` writes one row and leaves every other word.
use borrow.Author.Rules.{rules}
use Rattle.std.proofs.Common.{length, ◌≡◌}
use Rattle.plan.specs.Measures.{row_length, row_start, element_count}
use Rattle.fold_rows.proofs.RowWords.{words-put, length_row}
use Rattle.fold_rows.proofs.write.Goals as goal

pub returns : goal.returns
returns c =
    let args = c.args in
    let long : length args.elements ≡ element_count = search rules in
    words-put args.plan.now row_length (row_start args.r) c.start-at.ensures c.write_row.ensures
    (length_row args.kind args.a args.b args.elements long)
