-- `kept` copies the words up to the given length over zeros.
use Rattle.std.proofs.Common.{◌≡◌, ◌+◌, length, take, arith, length-take-le, rules}
use Rattle.chain.proofs.Rows.{row-laid}
use Rattle.chain_arrays.proofs.kept.Goals as goal

pub returns : goal.returns
returns c =
    let f = c.args.f in
    let n = c.args.last + 1 in
    let long : length f ≡ 17 = search rules in
    let copied = c.copy_from_slice.ensures.after in
    rw (copied, c.zeros-r.ensures) (row-laid 17 n (take n f) (length-take-le n f (omega arith)) (omega arith))
