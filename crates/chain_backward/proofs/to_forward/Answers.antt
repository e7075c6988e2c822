-- `to_forward` converts with sums.
use Rattle.std.proofs.Common.{ℕ, get_or, ◌∙◌, w64, Fits, rules}
use Rattle.chain_backward.proofs.Steps.{to_forward_done}
use Rattle.chain_backward.proofs.to_forward.Goals as goal

pub returns : goal.returns
returns c =
    let f = c.args.f in
    let fits : (i : ℕ) → Fits w64 (get_or f.elements i 0) = λ i. search rules in
    c.conversion.ensures ∙ to_forward_done f.elements f.length (search rules) (λ i. (fits i).fits)
