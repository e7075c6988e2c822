-- `negated` puts a node for each minus sign. Invariant: those from `place` on are put and counted.
use mathlib.Core.Path.{◌≡◌}
use Prim.Native.Nat.{◌+◌, ◌-◌, ◌≤◌}
use lib.ListN.{length}
use Rattle.formula_scan.specs.Fields.{as_parsed}
use Rattle.formula_scan.specs.Readers.{wrote_minus, finding}
use Rattle.formula_nodes.proofs.negated.Given as goal

abbrev pub invariant-loop-place : goal.invariant-loop-place
invariant-loop-place l = record {
  within : l.at ≤ l.place;
  counted : as_parsed l.negative ≡ finding l.fn.power.variable l.fn.power.odd l.fn.power.at (l.fn.power.nodes + (l.first - l.place)) l.fn.power.fault;
  put : l.tree ≡ wrote_minus (l.first - l.place) l.first l.fn.power.at l.fn.power.nodes l.fn.tree;
  same_length : length l.tree ≡ length l.fn.tree;
}
