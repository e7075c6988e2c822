-- The grammar as a scan from left to right, one byte after the other, with what is pending as its state. The readers' own contracts
-- go by it and closed texts are decided by it; proofs/ shows that it reads exactly what `formula`'s Grammar.antt says. Nobody has to believe it.
-- Places come from the marks alone, which need not be neighbours.
use Rattle.std.specs.Prelude.{cond, ◌&&◌, List, [], ◌∷◌, ℕ, suc, ◌+◌, ◌-◌, ◌*◌, eqb, leb}
use Rattle.formula.specs.Bytes.{open_bracket, close_bracket, star, plus_sign, minus_sign, caret, letter_x}
use Rattle.formula.specs.Marks.{Mark, mark}
use Rattle.formula.specs.Tree.{Span, span, first, end, Tree, number, variable, sum, difference, product, minus, literal_power, raise}

-- What a byte is to the scan.
pub data Byte : Type 0 where
  plus_byte : Byte
  minus_byte : Byte
  star_byte : Byte
  caret_byte : Byte
  open_byte : Byte
  close_byte : Byte
  x_byte : Byte
  zero_byte : Byte
  digit_byte : ℕ → Byte
  other_byte : Byte

unfoldable pub byte_of : ℕ → Byte
byte_of c =
    cond (eqb c open_bracket) open_byte
    (cond (eqb c close_bracket) close_byte
    (cond (eqb c star) star_byte
    (cond (eqb c plus_sign) plus_byte
    (cond (eqb c minus_sign) minus_byte
    (cond (eqb c 48) zero_byte
    (cond (leb 49 c && leb c 57) (digit_byte (c - 48))
    (cond (eqb c caret) caret_byte
    (cond (eqb c letter_x) x_byte other_byte))))))))

-- A tree, and the span of the text that stands for it, brackets around the tree counted in.
pub record Piece : Type 0 where
  pub text : Span
  pub tree : Tree

abbrev pub piece : Span → Tree → Piece
piece s t = record { text = s; tree = t }

-- A node is made over the whole text that stands for it: one alone, one behind an operand, one over two.
abbrev pub noded : Span → (Span → Tree) → Piece
noded s node = piece s (node s)

abbrev pub number_to : (place value end : ℕ) → Piece
number_to p v e = noded (span p e) (λ s. number s p v)

abbrev pub letter_at : ℕ → Piece
letter_at p = noded (span p (suc p)) variable

abbrev pub negative : ℕ → Piece → Piece
negative p x = noded (span p (end x.text)) (λ s. minus s x.tree)

abbrev pub literal_to : Piece → (place n end : ℕ) → Piece
literal_to x p n e = noded (span (first x.text) e) (λ s. literal_power s x.tree p n)

abbrev pub raise_to : Piece → ℕ → Tree → ℕ → Piece
raise_to x p t e = noded (span (first x.text) e) (λ s. raise s x.tree p t)

abbrev pub joined : (Span → Tree → Tree → Tree) → Piece → Piece → Piece
joined node a x = noded (span (first a.text) (end x.text)) (λ s. node s a.tree x.tree)

-- What waits at one level of brackets: a sum's left operand, a product's left operand, minus signs, the last one first, and what the brackets stand
-- in, with the place of the ( or of the ^.
pub data PendingSum : Type 0 where
  no_sum : PendingSum
  adding : Piece → PendingSum
  subtracting : Piece → PendingSum

pub data PendingProduct : Type 0 where
  no_product : PendingProduct
  multiplying : Piece → PendingProduct

mutual
  pub data Level : Type 0 where
    level : PendingSum → PendingProduct → List ℕ → Outer → Level

  pub data Outer : Type 0 where
    bottom : Outer
    in_brackets : Level → ℕ → Outer
    in_exponent : Level → Piece → ℕ → Outer

abbrev pub fresh : Outer → Level
fresh o = level no_sum no_product [] o

-- Where the scan stands: before an operand, in a number, after an atom, after a ^, in a literal exponent, after a power; or stopped. Digits know where
-- the last one ended.
pub data State : Type 0 where
  operand : Level → State
  in_number : Level → (place value end : ℕ) → State
  atomed : Level → Piece → State
  after_caret : Level → Piece → ℕ → State
  in_literal : Level → Piece → (place n end : ℕ) → State
  powered : Level → Piece → State
  stopped : ℕ → State

unfoldable pub negatives : List ℕ → Piece → Piece
negatives [] x = x
negatives (p ∷ m) x = negatives m (negative p x)

unfoldable pub product_with : PendingProduct → Piece → Piece
product_with no_product x = x
product_with (multiplying a) x = joined product a x

unfoldable pub sum_with : PendingSum → Piece → Piece
sum_with no_sum x = x
sum_with (adding a) x = joined sum a x
sum_with (subtracting a) x = joined difference a x

-- The product, and the sum, that end with the power x.
abbrev pub product_value : PendingProduct → List ℕ → Piece → Piece
product_value π m x = product_with π (negatives m x)

abbrev pub sum_value : PendingSum → PendingProduct → List ℕ → Piece → Piece
sum_value σ π m x = sum_with σ (product_value π m x)

-- A closing bracket after the sum x.
unfoldable pub closed : Outer → Piece → ℕ → State
closed bottom x at = stopped at
closed (in_brackets lv p) x at = atomed lv (piece (span p (suc at)) x.tree)
closed (in_exponent lv a p) x at = powered lv (raise_to a p x.tree (suc at))

-- A byte after the power x.
unfoldable pub after_power : Level → Piece → ℕ → Byte → State
after_power (level σ π m o) x at plus_byte = operand (level (adding (sum_value σ π m x)) no_product [] o)
after_power (level σ π m o) x at minus_byte = operand (level (subtracting (sum_value σ π m x)) no_product [] o)
after_power (level σ π m o) x at star_byte = operand (level σ (multiplying (product_value π m x)) [] o)
after_power (level σ π m o) x at close_byte = closed o (sum_value σ π m x) at
after_power (level σ π m o) x at caret_byte = stopped at
after_power (level σ π m o) x at open_byte = stopped at
after_power (level σ π m o) x at x_byte = stopped at
after_power (level σ π m o) x at zero_byte = stopped at
after_power (level σ π m o) x at (digit_byte d) = stopped at
after_power (level σ π m o) x at other_byte = stopped at

-- A byte after the atom x.
unfoldable pub after_atom : Level → Piece → ℕ → Byte → State
after_atom lv x at caret_byte = after_caret lv x at
after_atom lv x at plus_byte = after_power lv x at plus_byte
after_atom lv x at minus_byte = after_power lv x at minus_byte
after_atom lv x at star_byte = after_power lv x at star_byte
after_atom lv x at close_byte = after_power lv x at close_byte
after_atom lv x at open_byte = stopped at
after_atom lv x at x_byte = stopped at
after_atom lv x at zero_byte = stopped at
after_atom lv x at (digit_byte d) = stopped at
after_atom lv x at other_byte = stopped at

-- A byte in a number that began at p, has the value v so far and ended at e.
unfoldable pub after_digit : Level → (place value end : ℕ) → ℕ → Byte → State
after_digit lv p v e at zero_byte = in_number lv p (10 * v + 0) (suc at)
after_digit lv p v e at (digit_byte d) = in_number lv p (10 * v + d) (suc at)
after_digit lv p v e at plus_byte = after_atom lv (number_to p v e) at plus_byte
after_digit lv p v e at minus_byte = after_atom lv (number_to p v e) at minus_byte
after_digit lv p v e at star_byte = after_atom lv (number_to p v e) at star_byte
after_digit lv p v e at caret_byte = after_atom lv (number_to p v e) at caret_byte
after_digit lv p v e at open_byte = after_atom lv (number_to p v e) at open_byte
after_digit lv p v e at close_byte = after_atom lv (number_to p v e) at close_byte
after_digit lv p v e at x_byte = after_atom lv (number_to p v e) at x_byte
after_digit lv p v e at other_byte = after_atom lv (number_to p v e) at other_byte

-- A byte in the literal exponent n of the base x, with its ^ at p, that ended at e.
unfoldable pub after_literal_digit : Level → Piece → (place n end : ℕ) → ℕ → Byte → State
after_literal_digit lv x p n e at zero_byte = in_literal lv x p (10 * n + 0) (suc at)
after_literal_digit lv x p n e at (digit_byte d) = in_literal lv x p (10 * n + d) (suc at)
after_literal_digit lv x p n e at plus_byte = after_power lv (literal_to x p n e) at plus_byte
after_literal_digit lv x p n e at minus_byte = after_power lv (literal_to x p n e) at minus_byte
after_literal_digit lv x p n e at star_byte = after_power lv (literal_to x p n e) at star_byte
after_literal_digit lv x p n e at caret_byte = after_power lv (literal_to x p n e) at caret_byte
after_literal_digit lv x p n e at open_byte = after_power lv (literal_to x p n e) at open_byte
after_literal_digit lv x p n e at close_byte = after_power lv (literal_to x p n e) at close_byte
after_literal_digit lv x p n e at x_byte = after_power lv (literal_to x p n e) at x_byte
after_literal_digit lv x p n e at other_byte = after_power lv (literal_to x p n e) at other_byte

-- One more minus sign.
abbrev pub one_minus : ℕ → Level → Level
one_minus p (level σ π m o) = level σ π (p ∷ m) o

-- A byte where an operand may begin.
unfoldable pub before_operand : Level → ℕ → Byte → State
before_operand lv at minus_byte = operand (one_minus at lv)
before_operand lv at open_byte = operand (fresh (in_brackets lv at))
before_operand lv at x_byte = atomed lv (letter_at at)
before_operand lv at zero_byte = atomed lv (number_to at 0 (suc at))
before_operand lv at (digit_byte d) = in_number lv at d (suc at)
before_operand lv at plus_byte = stopped at
before_operand lv at star_byte = stopped at
before_operand lv at caret_byte = stopped at
before_operand lv at close_byte = stopped at
before_operand lv at other_byte = stopped at

-- A byte right after the ^ at p of the base x.
unfoldable pub before_exponent : Level → Piece → ℕ → ℕ → Byte → State
before_exponent lv x p at zero_byte = powered lv (literal_to x p 0 (suc at))
before_exponent lv x p at (digit_byte d) = in_literal lv x p d (suc at)
before_exponent lv x p at open_byte = operand (fresh (in_exponent lv x p))
before_exponent lv x p at plus_byte = stopped at
before_exponent lv x p at minus_byte = stopped at
before_exponent lv x p at star_byte = stopped at
before_exponent lv x p at caret_byte = stopped at
before_exponent lv x p at close_byte = stopped at
before_exponent lv x p at x_byte = stopped at
before_exponent lv x p at other_byte = stopped at

unfoldable pub step : State → ℕ → Byte → State
step (operand lv) at b = before_operand lv at b
step (in_number lv p v e) at b = after_digit lv p v e at b
step (atomed lv x) at b = after_atom lv x at b
step (after_caret lv x p) at b = before_exponent lv x p at b
step (in_literal lv x p n e) at b = after_literal_digit lv x p n e at b
step (powered lv x) at b = after_power lv x at b
step (stopped p) at b = stopped p

-- A scan reads a whole text as a tree, or stops at a place.
pub data Outcome : Type 0 where
  reads : Tree → Outcome
  stops : ℕ → Outcome

-- The text ends after the power x.
unfoldable pub ended : Level → Piece → ℕ → Outcome
ended (level σ π m bottom) x at = reads (sum_value σ π m x).tree
ended (level σ π m (in_brackets lv p)) x at = stops at
ended (level σ π m (in_exponent lv a p)) x at = stops at

unfoldable pub ending : State → ℕ → Outcome
ending (operand lv) at = stops at
ending (in_number lv p v e) at = ended lv (number_to p v e) at
ending (atomed lv x) at = ended lv x at
ending (after_caret lv x p) at = stops at
ending (in_literal lv x p n e) at = ended lv (literal_to x p n e) at
ending (powered lv x) at = ended lv x at
ending (stopped p) at = stops p

-- The state after some marks.
unfoldable pub fed : State → List Mark → State
fed S [] = S
fed S (mark p c ∷ m) = fed (step S p (byte_of c)) m

-- The outcome of some bytes that stand at a place and of the text's end.
unfoldable pub run : State → ℕ → List ℕ → Outcome
run S at [] = ending S at
run S at (c ∷ s) = run (step S at (byte_of c)) (suc at) s

-- What the scan makes of a whole text.
abbrev pub scanned : List ℕ → Outcome
scanned s = run (operand (fresh bottom)) 0 s
