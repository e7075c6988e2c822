-- `facts` reads the table of row kinds.
use Rattle.std.proofs.Common.{rules}
use Rattle.plan.specs.Row.{kind_facts}
use Rattle.plan_rows.proofs.kinds.facts.Goals as goal

pub returns : goal.returns
unfolding kind_facts
returns c = search rules
