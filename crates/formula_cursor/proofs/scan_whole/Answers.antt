-- `scan_whole` reads a whole text with no tree to write into.
use Rattle.formula_scan.specs.Fields.{as_found}
use Rattle.formula_cursor.proofs.Wholes.{none_written}
use Rattle.formula_cursor.proofs.scan_whole.Goals as goal

pub returns : goal.returns
returns c = none_written c.args.text.now (as_found c.read_whole.result) c.read_whole.new.tree c.read_whole.ensures c.read_whole.auto.tree
