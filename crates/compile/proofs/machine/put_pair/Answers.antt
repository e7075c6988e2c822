-- `put_pair` puts the trimmed chain of two elements.
use Rattle.std.proofs.Common.{sym, ap, ◌∙◌}
use Rattle.chain.specs.Answer.{as_chain_answer}
use Rattle.chain.proofs.Decoding.{accepted-ok}
use Rattle.compile.proofs.Pairs.{pair_placed}
use Rattle.compile.proofs.machine.put_pair.Goals as goal

pub unwrap-requires : goal.unwrap-requires
unwrap-requires c = rw (accepted-ok _ _ c.trim-trimmed.ensures).1

pub returns : goal.returns
returns c =
    let args = c.args in
    pair_placed args.plan.now args.r args.first args.second c.zeros-elements.ensures
    (ap as_chain_answer (sym c.unwrap.ensures) ∙ c.trim-trimmed.ensures) c.put_sum.ensures
