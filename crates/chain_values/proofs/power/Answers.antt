-- `power` goes by the values of the chain.
use borrow.Author.Rules.{rules}
use Rattle.chain_values.proofs.ByValues.{power_by_values}
use Rattle.chain_values.proofs.power.Goals as goal

pub returns : goal.returns
returns c =
    let args = c.args in
    power_by_values args.f (search rules) c.passes.ensures args.n c.raise.ensures c.passes-2.ensures
