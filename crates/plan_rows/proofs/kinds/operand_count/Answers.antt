-- `operand_count` reads the table; what is no kind has no operands.
use Rattle.std.proofs.Common.{sym, ap, arith}
use lib.ListN.{get_or-eq_default}
use Rattle.plan.specs.declared.Kind.{Kind}
use Rattle.plan.specs.Row.{costing, kind_table, kind_facts}
use Rattle.plan_rows.proofs.kinds.operand_count.Goals as goal

pub returns-in-Err : goal.returns-in-Err
unfolding kind_facts
returns-in-Err c = sym (ap (λ (k : Kind). k.operands) (get_or-eq_default kind_table (costing 0 0) {n = c.args.kind} (omega (arith, c.in-Err.ensures))))
