-- `difference` answers the trimmed difference of the trimmed inputs.
use Rattle.std.proofs.Common.{◌+◌, take, rules}
use Rattle.chain.proofs.Trimming.{length-row}
use Rattle.chain.proofs.Calls.{difference_trims}
use Rattle.chain_arrays.proofs.Paired.{differences_by_word}
use Rattle.chain_calls.proofs.difference.Goals as goal

pub returns : goal.returns
returns c =
    let f = c.args.f in
    let g = c.args.g in
    rw (
      c.combined.ensures,
      differences_by_word _ (length-row 17 (take (f.length + 1) f.elements)) _ (length-row 17 (take (g.length + 1) g.elements)),
      difference_trims 64 f.elements f.length (search rules) g.elements g.length (search rules),
    )
