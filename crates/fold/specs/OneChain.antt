-- Plans of one chain: those "that each compile to one constant or one sum chain".
use Rattle.std.specs.Prelude.{◌≡◌, List, ℕ, ◌≤◌}
use Rattle.plan.specs.Row.{Row, kind, word_a, elements}
use Rattle.plan.specs.Plan as Plan

-- A plan of one row, of kind 0, a constant, or of kind 1, a sum chain.
pub record OneSum (p : List ℕ) : Type 0 where
  pub single : Plan.row_count p ≡ 1
  pub summing : kind (Plan.row p 0) ≤ 1

-- "the chains are equal": in kind, length and elements. The rows' spans are left out, since two texts differ in them.
pub record SameChain (x y : Row) : Type 0 where
  pub kinds : kind x ≡ kind y
  pub lengths : word_a x ≡ word_a y
  pub elements : elements x ≡ elements y
