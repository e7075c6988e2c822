-- `write_row` passes over a row of kinds 0 to 2, and writes the line of another.
use native.Mathlib.Omega.{arith}
use Rattle.plan.proofs.Accepting.{accepted}
use Rattle.plan.proofs.SoundLaws.{sound-count, row_facts}
use Rattle.table_progress.proofs.RowLines.{row-text, nothing-written, line-written}
use Rattle.table_rows.proofs.write_row.Goals as goal

pub row_reason-requires : goal.row_reason-requires
row_reason-requires c =
    let (long, sound) = accepted c.args.plan.now c.requires.plan_value in
    record { plan_length_in_bounds = long; plan_value = sound; r_bound = c.requires.r_bound }

pub row-words-requires : goal.row-words-requires
row-words-requires c =
    let (long, sound) = accepted c.args.plan.now c.requires.plan_value in
    record { plan_length_in_bounds = long; r_lt_most_rows = omega (arith, sound-count c.args.plan.now sound) }

pub row_cost-cost-requires : goal.row_cost-cost-requires
row_cost-cost-requires c =
    let (long, sound) = accepted c.args.plan.now c.requires.plan_value in
    let facts = row_facts c.args.plan.now c.args.r long sound c.requires.r_bound c.row-words.ensures.result_value in
    record { row_len = facts.words; row_bound = facts.known; bound = facts.exponent }

pub write_row_line-requires : goal.write_row_line-requires
write_row_line-requires c =
    let p = c.args.plan.now in
    let text = row-text c.args.formula.now p c.requires.plan_value c.requires.texts_within c.args.r c.requires.r_bound c.row-words.ensures.result_value in
    record {
      row_len = c.row-words.ensures.result_len;
      row_bound = text.0;
      row_in_bounds = text.1;
      row_bound_2 = text.2;
      cost_value = c.row_cost-cost.ensures;
      room = c.requires.room;
    }

pub returns-in_default-clause-wrote : goal.returns-in_default-clause-wrote
returns-in_default-clause-wrote c =
    let args = c.args in
    nothing-written args.formula.now args.plan.now c.requires.plan_value args.r c.requires.r_bound c.in_default.ensures args.writer.now

pub returns : goal.returns
returns c =
    let line = c.write_row_line.ensures in
    record {
      wrote = line-written c.args.formula.now c.args.plan.now c.requires.plan_value c.args.r c.requires.r_bound c.row-words.ensures.result_value
          c.in-Some.reason c.in-Some.ensures line.wrote;
      upper_bound = line.upper_bound;
    }
