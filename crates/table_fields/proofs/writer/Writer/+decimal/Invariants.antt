-- `decimal` writes the digits in front and then the last one; the number falls at each call.
use Rattle.table_fields.proofs.writer.Writer.+decimal.Given as goal

abbrev pub decreases-decimal : goal.decreases-decimal
decreases-decimal l = l.n
