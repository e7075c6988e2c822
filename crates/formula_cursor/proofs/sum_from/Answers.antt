-- `sum_from` reads a sum from a place on, and unpacks what the reader answers.
use Rattle.formula_scan.proofs.Packing.{told_read}
use Rattle.formula_cursor.proofs.sum_from.Goals as goal

pub returns : goal.returns
returns c = told_read c.unpacked.result c.unpacked.ensures c.read_sum.ensures
