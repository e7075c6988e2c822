-- `power_of` is the power of the kept words, trimmed.
use borrow.Author.Rules.{rules}
use Rattle.fold_powers.proofs.PowerChains.{power_trims, once_short}
use Rattle.fold_powers.proofs.power_of.Goals as goal

pub kept-kept-requires : goal.kept-kept-requires
kept-kept-requires c = once_short c.args.f.length c.args.n c.requires.le_n c.requires.n_bound

pub returns : goal.returns
returns c =
    let f = c.args.f in
    rw (c.accepted.ensures, c.power.ensures, c.kept-kept.ensures, power_trims f.elements f.length c.args.n (search rules) c.requires.n_bound)
