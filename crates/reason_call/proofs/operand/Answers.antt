-- `operand` looks at row r of a sound plan.
use mathlib.Core.Path.{ap, ◌∙◌}
use native.Mathlib.Omega.{arith}
use Rattle.plan.proofs.SoundLaws.{sound-count, row_facts}
use Rattle.reason.proofs.TreeLaws.{seen_in}
use Rattle.reason_call.proofs.operand.Goals as goal

pub row-requires : goal.row-requires
row-requires c = record { plan_length_in_bounds = c.requires.plan_length_in_bounds; r_lt_most_rows = omega (arith, sound-count c.args.plan.now c.requires.plan_value) }

pub seen-requires : goal.seen-requires
seen-requires c = let asked = c.requires in
    let facts = row_facts c.args.plan.now c.args.r asked.plan_length_in_bounds asked.plan_value asked.r_bound c.row.ensures.result_value in record { row_len = c.row.ensures.result_len; row_bound = facts.chain }

pub returns : goal.returns
returns c = record { value = c.seen.ensures.value ∙ ap seen_in c.row.ensures.result_value; length_bound = c.seen.ensures.length_bound }
