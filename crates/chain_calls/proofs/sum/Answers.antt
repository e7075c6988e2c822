-- `sum` answers the trimmed sum of the trimmed inputs.
use Rattle.std.proofs.Common.{◌+◌, take, rules}
use Rattle.chain.proofs.Trimming.{length-row}
use Rattle.chain.proofs.Calls.{sum_trims}
use Rattle.chain_arrays.proofs.Paired.{sums_by_word}
use Rattle.chain_calls.proofs.sum.Goals as goal

pub returns : goal.returns
returns c =
    let f = c.args.f in
    let g = c.args.g in
    rw (
      c.combined.ensures,
      sums_by_word _ (length-row 17 (take (f.length + 1) f.elements)) _ (length-row 17 (take (g.length + 1) g.elements)),
      sum_trims 64 f.elements f.length (search rules) g.elements g.length (search rules),
    )
