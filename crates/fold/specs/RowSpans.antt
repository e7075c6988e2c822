-- What the spans of a plan's rows say: those of operand rows lie within their operator's, left before right, without overlap; and the text of a row,
-- compiled alone, gives that row again.
use Rattle.std.specs.Prelude.{◌≡◌, true, List, ℕ, ◌≤◌, length}
use Rattle.std.proofs.Math.Seq.{slice}
use Rattle.plan.specs.Measures.{plan_length}
use Rattle.plan.specs.Row.{Row, kind, word_a, word_b, first_byte, end_byte, is_chain, operand_count}
use Rattle.plan.specs.Row as Row
use Rattle.plan.specs.Eras.{root_row}
use Rattle.fold.specs.Compiling.{Compiling}

pub record Inside (whole operand : Row) : Type 0 where
  pub from : first_byte whole ≤ first_byte operand
  pub upto : end_byte operand ≤ end_byte whole

pub record Apart (whole left right : Row) : Type 0 where
  pub from : first_byte whole ≤ first_byte left
  pub between : end_byte left ≤ first_byte right
  pub upto : end_byte right ≤ end_byte whole

-- A row of a plan and the rows that it names, by their number.
pub record Ordered (rows : ℕ → Row) (x : Row) : Type 0 where
  pub alone : operand_count (kind x) ≡ 1 → Inside x (rows (word_a x))
  pub both : operand_count (kind x) ≡ 2 → Apart x (rows (word_a x)) (rows (word_b x))

-- The same in kind, chain length, literal exponent and elements; the numbers of operand rows depend on where the rows stand.
pub record SameRow (x y : Row) : Type 0 where
  pub kinds : kind x ≡ kind y
  pub lengths : is_chain (kind x) ≡ true → word_a x ≡ word_a y
  pub exponents : kind x ≡ 7 → word_b x ≡ word_b y
  pub elements : Row.elements x ≡ Row.elements y

-- The text of a row: "first byte and end byte (the byte after the last) of the text it came from".
abbrev pub text_of : List ℕ → Row → List ℕ
text_of s x = slice (first_byte x) (end_byte x) s

-- A row of a text's plan says what it is: its text, compiled alone on the same grid, gives a plan whose root row is that row.
abbrev pub Says : ℕ → List ℕ → ℕ → ℕ → Row → Type 0
Says w s start step x =
    (lent : List ℕ) → plan_length ≤ length lent
    → (q : List ℕ) × Compiling w (text_of s x) start step lent (record { number = 0; place = 0 }) q × SameRow x (root_row q)
