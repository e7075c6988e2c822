-- `trim` answers the trimmed chain of the words up to the given length.
use Rattle.std.proofs.Common.{le-ltb, rules}
use Rattle.chain.proofs.Calls.{kept-trimmed}
use Rattle.chain_calls.proofs.trim.Goals as goal

pub returns : goal.returns
returns c =
    let f = c.args.f in
    let kept = c.in_ok-kept.ensures in
    rw (c.accepted.ensures, kept.1, le-ltb 16 f.length kept.0, kept-trimmed f.elements f.length (search rules))
