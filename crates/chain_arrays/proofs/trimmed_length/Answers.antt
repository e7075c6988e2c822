-- `trimmed_length` finds the last word that is not the unit.
use Rattle.std.proofs.Common.{length, refl, rules}
use Rattle.chain.proofs.Trimming.{IsLastOther, by_last_other}
use Rattle.chain_arrays.proofs.trimmed_length.Goals as goal

pub returns : goal.returns
returns c =
    let unit = c.args.unit in
    let f = c.args.f.now in
    let found : IsLastOther unit (length f) f c.rposition.result = search rules in
    rw c.unwrap_or.ensures (by_last_other unit (length f) f c.rposition.result refl found)
