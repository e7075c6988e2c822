-- `signed_at` leaves a word at an even place, and takes it from 0 at an odd one.
use Rattle.std.proofs.Common.{sym, ◌∙◌, mod-eq_of_lt, arith}
use Rattle.word.proofs.Ring.{difference-found}
use Rattle.chain_backward.proofs.Products.{even_sign, odd_sign}
use Rattle.chain_backward.proofs.signed_at.Goals as goal

pub returns-then-at-eq0 : goal.returns-then-at-eq0
returns-then-at-eq0 c =
    let args = c.args in
    sym (even_sign 64 args.at args.a c.if-at-eq0.true ∙ mod-eq_of_lt (omega arith))

pub returns : goal.returns
returns c =
    let args = c.args in
    difference-found 64 0 args.a c.wrapping_neg.result c.wrapping_neg.type_inv (omega arith) c.wrapping_neg.ensures
    ∙ sym (odd_sign 64 args.at args.a c.if-at-eq0.false)
