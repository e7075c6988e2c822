use Rattle.std.proofs.Common.{◌≡◌, ◌-◌, length, get_or, arith, rules}
use Rattle.chain.proofs.Trimming.{trimmed_to, trimmed_to_one}
use Rattle.chain_coefficients.proofs.last_other.Goals as goal

pub returns-then-elements-at-ne0 : goal.returns-then-elements-at-ne0
returns-then-elements-at-ne0 c =
    let f = c.args.elements in
    let turn = c.loop-at in
    let long : length f ≡ 17 = search rules in
    let other : get_or f (turn.at - 1) 0 ≡ 0 → ⊥ = λ e. c.if-elements-at-ne0.true e in
    omega (arith, trimmed_to 0 f (turn.at - 1) (omega arith) other (λ k h l. turn.invariant k (omega arith) (omega arith)))

pub returns : goal.returns
returns c =
    let f = c.args.elements in
    let long : length f ≡ 17 = search rules in
    omega (arith, trimmed_to_one 0 f (λ k h. c.loop-at.invariant k (omega arith) (omega arith)))
