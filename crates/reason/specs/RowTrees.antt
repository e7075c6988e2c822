-- The folded tree that a row of a plan stands for, as 01's rules see it: made from the row's words and the trees of the rows before it.
-- Why a row is still there is in Reasons.antt.
use Rattle.std.specs.Prelude.{cond, List, [], ◌∷◌, ◌++◌, ℕ, zero, suc, eqb, get_or}
use Rattle.formula.specs.Tree.{Span, span}
use Rattle.plan.specs.Row.{Row, kind, word_a, word_b, first_element, first_byte, end_byte}
use Rattle.plan.specs.Plan.{row}
use Rattle.plan.specs.Points.{chain_of}
use Rattle.fold.specs.Folded.{Spans, Folded, constant, sum_row, difference_row, product_row, minus_row, power_row, raise_row, trimmed_sum, trimmed_product}

-- "first byte and end byte (the byte after the last) of the text it came from": those of the rows that a row names as a and b.
abbrev pub span_in : Row → Span
span_in x = span (first_byte x) (end_byte x)

abbrev pub operand_spans : List ℕ → Row → Spans
operand_spans p x = record { left = span_in (row p (word_a x)); right = span_in (row p (word_b x)) }

-- "3, 4, 5: + - *", "6: minus", "7: literal power", "8: raise", over the trees left and right of the rows a and b; n is the word b.
unfoldable pub operator_over : (kind n : ℕ) → Spans → Folded → Folded → Folded
operator_over kind n s left right =
    cond (eqb kind 3) (sum_row s left right)
    (cond (eqb kind 4) (difference_row s left right)
    (cond (eqb kind 5) (product_row s left right)
    (cond (eqb kind 6) (minus_row s.left left)
    (cond (eqb kind 7) (power_row s.left left n)
    (raise_row s left right)))))

-- The tree of a row over those of the rows a and b: "its chain operands trimmed and its other operands as they stand", "so a product chain with first
-- element 0 counts as a constant".
unfoldable pub tree_over : Spans → Folded → Folded → Row → Folded
tree_over s left right x =
    cond (eqb (kind x) 0) (constant (first_element x))
    (cond (eqb (kind x) 1) (trimmed_sum (chain_of x))
    (cond (eqb (kind x) 2) (trimmed_product (chain_of x))
    (operator_over (kind x) (word_b x) s left right)))

-- The tree of a row, given those of the rows before it; of a sound plan "every operand row is earlier", and nothing stands in for one.
abbrev pub tree_after : List ℕ → List Folded → Row → Folded
tree_after p earlier x = tree_over (operand_spans p x) (get_or earlier (word_a x) (constant 0)) (get_or earlier (word_b x) (constant 0)) x

-- The trees of the first r rows, and that of row r.
unfoldable pub trees : List ℕ → ℕ → List Folded
trees p zero = []
trees p (suc r) = trees p r ++ tree_after p (trees p r) (row p r) ∷ []

abbrev pub row_tree : List ℕ → ℕ → Folded
row_tree p r = tree_after p (trees p r) (row p r)
