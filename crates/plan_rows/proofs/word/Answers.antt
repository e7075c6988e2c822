-- `word` reads a word of a row where the plan has it.
use mathlib.Core.Path.{sym, ap, ◌∙◌}
use Prim.Native.Nat.{◌+◌}
use lib.ListN.{get_or}
use Rattle.plan.proofs.RowLaws.{word_at}
use Rattle.plan_rows.proofs.word.Goals as goal

pub returns : goal.returns
returns c =
    let args = c.args in
    ap (λ k. get_or args.plan.now (k + args.i) 0) c.start.ensures
    ∙ sym (word_at args.plan.now args.r args.i c.requires.i_lt_row_length)
