-- The seven reasons why a row of kinds 3 to 8 is still there, over its folded tree, whose operands are "trimmed" and "as they stand" (RowTrees.antt).
-- Each is a relation under its own sentence of request Six. What 01's rules fold is cited from Folding.antt, and their numbers are in 02's order.
use Rattle.std.specs.Prelude.{◌≡◌, Bool, true, false, not, ◌||◌, ℕ, ◌+◌, ◌*◌, ◌<◌}
use Rattle.formula.specs.Tree.{Span}
use Rattle.fold.specs.Folded.{Spans, Folded, constant, sum_chain, product_chain, sum_row, difference_row, product_row, minus_row, power_row, raise_row}
use Rattle.fold.specs.Folded.{is_constant, is_sum_chain, is_product_chain, trimmed_sum, trimmed_product}
use Rattle.fold.specs.Folding.{is_sum, length_of, fold_sum, fold_difference, fold_product, fold_minus, fold_power, fold_raise}

-- ---- "given exactly when the rules in 01 fold that row, its chain operands trimmed and its other operands as they stand"
-- What the rules give for an operator over its operands. A chain is trimmed, and there is nothing else to do.
unfoldable pub folded_again : ℕ → Folded → Folded
folded_again w (constant c) = constant c
folded_again w (sum_chain f) = trimmed_sum f
folded_again w (product_chain f) = trimmed_product f
folded_again w (sum_row s a b) = fold_sum w s a b
folded_again w (difference_row s a b) = fold_difference w s a b
folded_again w (product_row s a b) = fold_product w s a b
folded_again w (minus_row s a) = fold_minus w s a
folded_again w (power_row s a n) = fold_power w s a n
folded_again w (raise_row s a b) = fold_raise w s a b

-- "Anything else stays a row of the plan": the rules give the row itself; or they fold it.
abbrev pub Stays : ℕ → Folded → Type 0
Stays w t = folded_again w t ≡ t

abbrev pub Folds : ℕ → Folded → Type 0
Folds w t = Stays w t → ⊥

-- ---- the rows that the other reasons speak of: "under + or -", and those with *
pub data PlusOrMinus : Folded → Folded → Folded → Type 0 where
  plus : (s : Spans) (a b : Folded) → PlusOrMinus (sum_row s a b) a b
  less : (s : Spans) (a b : Folded) → PlusOrMinus (difference_row s a b) a b

pub data OfTwo : Folded → Folded → Folded → Type 0 where
  added : {t a b : Folded} → PlusOrMinus t a b → OfTwo t a b
  times : (s : Spans) (a b : Folded) → OfTwo (product_row s a b) a b

-- "itself of kinds 3 to 8": neither a constant nor a chain.
abbrev pub is_operator : Folded → Bool
is_operator a = not (is_constant a || (is_sum_chain a || is_product_chain a))

-- ---- "an operand is itself of kinds 3 to 8 (not for raise)"
pub data OperandStays : Folded → Type 0 where
  left-stays : {t a b : Folded} → OfTwo t a b → is_operator a ≡ true → OperandStays t
  right-stays : {t a b : Folded} → OfTwo t a b → is_operator b ≡ true → OperandStays t
  under-minus : (s : Span) (a : Folded) → is_operator a ≡ true → OperandStays (minus_row s a)
  under-power : (s : Span) (a : Folded) (n : ℕ) → is_operator a ≡ true → OperandStays (power_row s a n)

-- ---- "lengths add over 16": those of two sum chains under *
pub data LengthsAddOver : Folded → Type 0 where
  of_chains : (s : Spans) (a b : Folded) → is_sum_chain a ≡ true → is_sum_chain b ≡ true → 16 < length_of a + length_of b
      → LengthsAddOver (product_row s a b)

-- ---- "length times n over 16": that of a sum chain under a literal power
pub data LengthTimesOver : Folded → Type 0 where
  of_chain : (s : Span) (a : Folded) (n : ℕ) → is_sum_chain a ≡ true → 16 < length_of a * n → LengthTimesOver (power_row s a n)

-- ---- "sum chain or constant against product chain", under + - and *
pub data AgainstProduct : Folded → Type 0 where
  on_the_right : {t a b : Folded} → OfTwo t a b → is_sum a ≡ true → is_product_chain b ≡ true → AgainstProduct t
  on_the_left : {t a b : Folded} → OfTwo t a b → is_product_chain a ≡ true → is_sum b ≡ true → AgainstProduct t

-- ---- "two product chains under + or -"
pub data TwoProducts : Folded → Type 0 where
  of_both : {t a b : Folded} → PlusOrMinus t a b → is_product_chain a ≡ true → is_product_chain b ≡ true → TwoProducts t

-- ---- "exponent of a raise neither constant nor sum chain"
pub data ExponentNeither : Folded → Type 0 where
  of_raise : (s : Spans) (a b : Folded) → is_sum b ≡ false → ExponentNeither (raise_row s a b)

-- ---- the list, in 02's order. "The last is judged first"; "The other reasons speak only of rows that 01 doesn't fold".
pub data Named : Folded → ℕ → Type 0 where
  operand-stays : {t : Folded} → OperandStays t → Named t 1
  lengths-add : {t : Folded} → LengthsAddOver t → Named t 2
  length-times : {t : Folded} → LengthTimesOver t → Named t 3
  against_product : {t : Folded} → AgainstProduct t → Named t 4
  two_products : {t : Folded} → TwoProducts t → Named t 5
  exponent-neither : {t : Folded} → ExponentNeither t → Named t 6

pub data Reason (w : ℕ) (t : Folded) : ℕ → Type 0 where
  would_fold : Folds w t → Reason w t 7
  stays : {n : ℕ} → Stays w t → Named t n → Reason w t n
