use Rattle.std.proofs.Common.{◌≡◌, ◌+◌, ◌%◌, sym, ap, ◌∙◌, ◌∷◌, [], arith}
use Rattle.table.proofs.Digits.{one_digit, last-digit, length_one_digit, length-last-digit}
use Rattle.table_fields.proofs.Joining.{written_as, both_written}
use Rattle.table_fields.proofs.writer.Writer.+decimal.Goals as goal
use Rattle.table_fields.proofs.writer.Writer.+decimal.Goals.{then-n-ge10, else-n-ge10}

pub decimal-requires : goal.decimal-requires
decimal-requires t c = (omega arith, omega (arith, length-last-digit c.args.n (omega arith)))

pub byte-requires : goal.byte-requires
byte-requires t c =
    elim c.if-n-ge10.branch [
      | then-n-ge10 w ↦ rw w.self-is (omega (arith, length-last-digit c.args.n (omega arith)))
      | else-n-ge10 w ↦ rw w.self-is (omega (arith, length_one_digit c.args.n (omega arith)))
    ]

pub returns : goal.returns
returns t c =
    elim c.if-n-ge10.branch [
      | then-n-ge10 w ↦
          written_as (sym (last-digit c.args.n (omega arith)))
          (both_written (omega arith) w.decimal.ensures (rw w.self-is at c.byte.ensures))
      | else-n-ge10 w ↦
          let whole : c.args.n % 10 ≡ c.args.n = omega arith in
          written_as (ap (λ d. (48 + d) ∷ []) whole ∙ sym (one_digit c.args.n (omega arith))) (rw w.self-is at c.byte.ensures)
    ]
