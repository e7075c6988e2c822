-- `write_row_line` writes the numbers, the reason, the part of the formula and the end of the line.
use Rattle.std.proofs.Common.{rules, sym, ap, ap₂, ℕ, List, [], ◌∷◌, ◌++◌, length, arith}
use lib.ListN.{length-take}
use Rattle.plan.specs.Row.{Row, first_byte, end_byte}
use Rattle.plan.proofs.RowLaws.{slice-part}
use Rattle.reason.specs.Answer.{reason_number}
use Rattle.reason.specs.Wording.{reason_text}
use Rattle.table.specs.Decimal.{decimal}
use Rattle.table.specs.Parts.{tab, line_feed}
use Rattle.table_fields.proofs.Joining.{wrote_same, written_as, both_written}
use Rattle.table_progress.proofs.Lengths.{reason_short}
use Rattle.table_row_lines.proofs.write_row_line.Goals as goal

abbrev front : ℕ → Row → ℕ → List ℕ
front number x cost = 114 ∷ 111 ∷ 119 ∷ tab ∷ decimal number ++ tab ∷ decimal (first_byte x) ++ tab ∷ decimal (end_byte x) ++ tab ∷ decimal cost

pub write_text-requires : goal.write_text-requires
write_text-requires c = omega (arith, ap length c.words.ensures, reason_short (reason_number c.args.reason))

pub write_text-requires-2 : goal.write_text-requires-2
write_text-requires-2 c = omega (arith, ap length c.words.ensures, reason_short (reason_number c.args.reason), length-take {A = ℕ})

pub byte-requires : goal.byte-requires
byte-requires c = omega (arith, ap length c.words.ensures, reason_short (reason_number c.args.reason), length-take {A = ℕ})

pub returns : goal.returns
returns c =
    let x = c.args.row.now in
    let f = c.args.formula.now in
    let reason = written_as (ap (λ s. tab ∷ s) c.words.ensures) c.write_text.ensures in
    let whole =
    both_written (omega arith) (both_written (omega arith) (both_written (omega arith) c.write_numbers.ensures.wrote reason) c.write_text-2.ensures)
    c.byte.ensures in
    record {
      wrote =
          written_as
          (ap₂ (λ k s. front c.args.number x k ++ tab ∷ reason_text (reason_number c.args.reason) ++ tab ∷ s ++ line_feed ∷ [])
          c.requires.cost_value (sym (slice-part (first_byte x) (end_byte x) f)))
          whole;
      upper_bound = omega (arith, ap length c.words.ensures, reason_short (reason_number c.args.reason), length-take {A = ℕ});
    }
