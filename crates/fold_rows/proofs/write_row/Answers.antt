-- `write_row` writes kind, a and b, copies the elements behind them, and clears the span.
use borrow.Author.Rules.{rules}
use Rattle.fold_rows.proofs.RowWords.{row_written}
use Rattle.fold_rows.proofs.write_row.Goals as goal

pub returns : goal.returns
returns c =
    let args = c.args in
    row_written args.row.now args.elements args.kind args.a args.b c.requires (search rules) c.copy_from_slice.ensures.after
