-- The value of each row of a plan at the present point, and one shift of all its chains. Words are computed modulo 2^w.
use Rattle.std.specs.Prelude.{cond, List, [], ◌∷◌, ◌++◌, ℕ, zero, suc, ◌+◌, ◌-◌, eqb, get_or, take, drop}
use Rattle.plan.specs.Measures.{elements_start, element_count, row_length}
use Rattle.word.specs.Word as Word
use Rattle.chain.specs.Chain.{words}
use Rattle.chain.specs.SumChain.{sum_shift}
use Rattle.chain.specs.ProductChain.{product_shift}
use Rattle.plan.specs.Row.{Row, kind, word_a, word_b, elements, first_element}
use Rattle.plan.specs.Plan.{row_count, rows}

-- "3, 4, 5: + - *", "6: minus", "7: literal power", "8: raise", of the values left and right of the rows a and b.
-- A constant and a chain have the value of their element 0.
abbrev pub operator_value : ℕ → Row → ℕ → ℕ → ℕ
operator_value w row left right =
    cond (eqb (kind row) 3) (Word.sum w left right)
    (cond (eqb (kind row) 4) (Word.difference w left right)
    (cond (eqb (kind row) 5) (Word.product w left right)
    (cond (eqb (kind row) 6) (Word.negation w left)
    (cond (eqb (kind row) 7) (Word.power w left (word_b row))
    (cond (eqb (kind row) 8) (Word.power w left right)
    (first_element row))))))

-- The value of a row, given those of the rows before it.
abbrev pub row_value : ℕ → List ℕ → Row → ℕ
row_value w earlier row = operator_value w row (get_or earlier (word_a row) 0) (get_or earlier (word_b row) 0)

-- The values of the rows before and of these, one after the other.
unfoldable pub values_from : ℕ → List ℕ → List Row → List ℕ
values_from w earlier [] = earlier
values_from w earlier (row ∷ more) = values_from w (earlier ++ row_value w earlier row ∷ []) more

-- "root last": the value of the plan is that of its last row.
abbrev pub values : ℕ → List ℕ → List ℕ
values w p = values_from w [] (rows p)

unfoldable pub root_value : ℕ → List ℕ → ℕ
root_value w p = get_or (values w p) (row_count p - 1) 0

-- The elements 0 to a of a chain's row replaced by others; the other elements, and the words before and after the elements, stay.
abbrev pub with_chain : Row → List ℕ → Row
with_chain row f = take elements_start row ++ ((f ++ drop (1 + word_a row) (elements row)) ++ drop (elements_start + element_count) row)

abbrev pub chain_of : Row → List ℕ
chain_of row = take (1 + word_a row) (elements row)

-- One shift of a row: only chains change.
unfoldable pub shifted_row : ℕ → Row → Row
shifted_row w row =
    cond (eqb (kind row) 1) (with_chain row (words w (sum_shift (chain_of row))))
    (cond (eqb (kind row) 2) (with_chain row (words w (product_shift (chain_of row)))) row)

-- The first n rows shifted; the words after them stay.
unfoldable pub shifted_from : ℕ → ℕ → List ℕ → List ℕ
shifted_from w zero f = f
shifted_from w (suc n) f = shifted_row w (take row_length f) ++ shifted_from w n (drop row_length f)

-- "then shifts every chain once".
unfoldable pub shifted_plan : ℕ → List ℕ → List ℕ
shifted_plan w p = take 1 p ++ shifted_from w (row_count p) (drop 1 p)
