-- What the readers answer one another, as the definitions speak of it: a flag beside each value that may be missing.
use Rattle.std.specs.Prelude.{Bool, true, false, Result, Ok, Err, ℕ, is_none, unwrap_or}
use Rattle.formula_scan.specs.declared.Decimal.{Decimal}
use Rattle.formula_scan.specs.declared.LeftOperand.{LeftOperand}
use Rattle.formula_scan.specs.declared.Parsed.{Parsed}

-- A number's end, its value if it fits a word (the largest word if not), whether it is over, and 1 if it is odd.
pub record Numeral : Type 0 where
  pub at : ℕ
  pub value : ℕ
  pub over : Bool
  pub odd : ℕ

-- What waits on the left of a sign: the first byte of its text, the sign (0 if there is nothing yet), whether x stands in it, 1 if its value is odd.
pub record Left : Type 0 where
  pub first : ℕ
  pub sign : ℕ
  pub variable : Bool
  pub odd : ℕ

-- How far a reader came. If `ok`, it read a tree that ends before `at`: whether x stands in it, 1 if its value is odd, the nodes and the
-- least fault so far. If not, no formula goes on past `at`.
pub record Found : Type 0 where
  pub ok : Bool
  pub variable : Bool
  pub odd : ℕ
  pub at : ℕ
  pub nodes : ℕ
  pub fault : ℕ

abbrev pub largest_word : ℕ
largest_word = 18446744073709551615

abbrev pub as_numeral : Decimal → Numeral
as_numeral d = record { at = d.at; value = unwrap_or d.value largest_word; over = is_none d.value; odd = d.odd }

abbrev pub as_left : LeftOperand → Left
as_left l = record { first = l.first; sign = unwrap_or l.sign 0; variable = l.variable; odd = l.odd }

abbrev pub as_parsed : Parsed → Found
as_parsed p = record { ok = true; variable = p.variable; odd = p.odd; at = p.at; nodes = p.nodes; fault = p.fault }

abbrev pub as_found : Result Parsed ℕ → Found
as_found (Ok p) = as_parsed p
as_found (Err at) = record { ok = false; variable = false; odd = 0; at = at; nodes = 0; fault = 0 }
