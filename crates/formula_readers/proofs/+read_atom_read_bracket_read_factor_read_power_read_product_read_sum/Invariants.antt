-- The readers meet their contracts together: the bytes left fall at each call, and at the same place the level does.
-- The loops carry the product or the sum so far.
use Rattle.std.proofs.Common.{◌≡◌, length, ◌+◌, ◌-◌, ◌*◌}
use Rattle.formula_scan.specs.Fields.{as_parsed}
use Rattle.formula_scan.specs.Packing.{left_of}
use Rattle.formula_scan.proofs.Ways.{Waits, ProductSoFar, SumSoFar}
use Rattle.formula_readers.proofs.+read_atom_read_bracket_read_factor_read_power_read_product_read_sum.Given as goal

abbrev pub decreases-read_atom : goal.decreases-read_atom
decreases-read_atom l = 8 * (length l.text.now - l.at) + 1

abbrev pub decreases-read_bracket : goal.decreases-read_bracket
decreases-read_bracket l = 8 * (length l.text.now - l.at) + 0

abbrev pub decreases-read_factor : goal.decreases-read_factor
decreases-read_factor l = 8 * (length l.text.now - l.at) + 3

abbrev pub decreases-read_power : goal.decreases-read_power
decreases-read_power l = 8 * (length l.text.now - l.at) + 2

abbrev pub decreases-read_product : goal.decreases-read_product
decreases-read_product l = 8 * (length l.text.now - l.at) + 4

abbrev pub decreases-read_sum : goal.decreases-read_sum
decreases-read_sum l = 8 * (length l.text.now - l.at) + 5

abbrev pub invariant-read_product-loop-right : goal.invariant-read_product-loop-right
invariant-read_product-loop-right l = record {
  so_far : ProductSoFar 64 l.text l.fn.at l.fn.nodes l.fn.fault l.fn.tree (as_parsed l.next) (left_of l.waits).sign l.tree;
  waits : Waits (left_of l.waits) l.fn.at (as_parsed l.next);
  same_length : length l.tree ≡ length l.fn.tree;
}

abbrev pub decreases-read_product-loop-right : goal.decreases-read_product-loop-right
decreases-read_product-loop-right l = length l.text - l.next.at

abbrev pub invariant-read_sum-loop-right : goal.invariant-read_sum-loop-right
invariant-read_sum-loop-right l = record {
  so_far : SumSoFar 64 l.text l.fn.at l.fn.nodes l.fn.fault l.fn.tree (as_parsed l.next) (left_of l.waits).sign l.tree;
  waits : Waits (left_of l.waits) l.fn.at (as_parsed l.next);
  same_length : length l.tree ≡ length l.fn.tree;
}

abbrev pub decreases-read_sum-loop-right : goal.decreases-read_sum-loop-right
decreases-read_sum-loop-right l = length l.text - l.next.at
