-- The plan of a folded tree and its root's span: its rows and its 2,817 words.
use Rattle.std.specs.Prelude.{List, [], ◌∷◌, ◌++◌, ℕ, ◌+◌, ◌-◌, ◌*◌, length, replicate}
use Rattle.plan.specs.Measures.{element_count, row_length, rows_length}
use Rattle.chain.specs.Chain as Chain
use Rattle.plan.specs.Row.{Row}
use Rattle.formula.specs.Tree.{Span, first, end}
use Rattle.fold.specs.Folded.{Folded, constant, sum_chain, product_chain, sum_row, difference_row, product_row, minus_row, power_row, raise_row}

-- The number of rows.
unfoldable pub row_count : Folded → ℕ
row_count (constant c) = 1
row_count (sum_chain f) = 1
row_count (product_chain f) = 1
row_count (sum_row s a b) = row_count a + row_count b + 1
row_count (difference_row s a b) = row_count a + row_count b + 1
row_count (product_row s a b) = row_count a + row_count b + 1
row_count (minus_row s a) = row_count a + 1
row_count (power_row s a n) = row_count a + 1
row_count (raise_row s a b) = row_count a + row_count b + 1

-- "kind, a, b, then 17 element words. Unused words are 0." "Each plan row gets two more words at its end, first byte and end byte".
abbrev pub row_words : ℕ → ℕ → ℕ → List ℕ → Span → Row
row_words kind a b elements whole = kind ∷ a ∷ b ∷ Chain.row element_count elements ++ first whole ∷ end whole ∷ []

-- "Rows stand in postfix order of the folded tree, left operand first, root last": the rows of a tree whose first row is row n and whose root has
-- a given span, and the number of its root's row.
abbrev pub root_row : ℕ → Folded → ℕ
root_row n a = n + row_count a - 1

-- The row of an operator of two operands, behind their rows.
abbrev pub behind_both : ℕ → ℕ → Span → Folded → Folded → List Row → List Row → List Row
behind_both n kind whole a b left right = left ++ right ++ row_words kind (root_row n a) (root_row (n + row_count a) b) [] whole ∷ []

unfoldable pub rows_from : ℕ → Span → Folded → List Row
rows_from n whole (constant c) = row_words 0 0 0 (c ∷ []) whole ∷ []
rows_from n whole (sum_chain f) = row_words 1 (length f - 1) 0 f whole ∷ []
rows_from n whole (product_chain f) = row_words 2 (length f - 1) 0 f whole ∷ []
rows_from n whole (sum_row s a b) = behind_both n 3 whole a b (rows_from n s.left a) (rows_from (n + row_count a) s.right b)
rows_from n whole (difference_row s a b) = behind_both n 4 whole a b (rows_from n s.left a) (rows_from (n + row_count a) s.right b)
rows_from n whole (product_row s a b) = behind_both n 5 whole a b (rows_from n s.left a) (rows_from (n + row_count a) s.right b)
rows_from n whole (minus_row s a) = rows_from n s a ++ row_words 6 (root_row n a) 0 [] whole ∷ []
rows_from n whole (power_row s a e) = rows_from n s a ++ row_words 7 (root_row n a) e [] whole ∷ []
rows_from n whole (raise_row s a b) = behind_both n 8 whole a b (rows_from n s.left a) (rows_from (n + row_count a) s.right b)

-- The words of rows, one row after the other.
unfoldable pub words_of : List Row → List ℕ
words_of [] = []
words_of (row ∷ rows) = row ++ words_of rows

-- "Compiling writes all" 2,817 words: the number of rows, the rows, and 0.
abbrev pub plan_words : Span → Folded → List ℕ
plan_words whole a = row_count a ∷ words_of (rows_from 0 whole a) ++ replicate (rows_length - row_length * row_count a) 0
