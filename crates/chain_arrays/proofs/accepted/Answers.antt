-- `accepted` gives the trimmed chain of all 17 words: the words stay, only the length is found.
use Rattle.std.proofs.Common.{rules}
use Rattle.chain.proofs.Trimming.{row-trimmed}
use Rattle.chain.proofs.Rows.{row-whole}
use Rattle.chain_arrays.proofs.accepted.Goals as goal

pub returns : goal.returns
returns c = rw (c.trimmed_length.ensures, row-trimmed 17 c.args.elements, row-whole 17 c.args.elements (search rules))
