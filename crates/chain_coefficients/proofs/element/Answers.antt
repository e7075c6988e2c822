use Rattle.std.proofs.Common.{◌*◌, ◌%◌, ◌^◌, get_or, sym, refl, ap, ◌∙◌, zero-add, arith}
use Rattle.chain.proofs.CoefficientLaws.{element_turn, element_done}
use Rattle.chain.specs.Coefficients.{element_from}
use Rattle.chain_coefficients.proofs.element.Goals as goal

pub loop-j-init : goal.loop-j-init
loop-j-init c = ap (λ z. z % 2 ^ 64) (zero-add (element_from 0 c.args.a.now c.args.m))

pub loop-j-preserved : goal.loop-j-preserved
loop-j-preserved c =
    let turn = c.loop-j in
    let a = c.args.a.now in
    let term = c.times-total.ensures ∙ ap (λ z. (get_or a turn.j 0 * z) % 2 ^ 64) c.onto.ensures in
    element_turn (2 ^ 64) a turn.j c.args.m turn.total (omega arith) term refl ∙ turn.invariant

pub returns : goal.returns
returns c =
    let turn = c.loop-j in
    sym (element_done (2 ^ 64) c.args.a.now turn.j c.args.m turn.total (omega arith) (omega arith)) ∙ turn.invariant
