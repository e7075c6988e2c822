-- Folding, from the bottom of the tree up: one definition for each operator, with 01's rules in 01's order, each under its sentence.
-- "With C constant, S sum chain, P product chain"; A is any operand. "Results are trimmed." Words are computed modulo 2^w. What stays a row is given
-- the spans of its operands.
use Rattle.std.specs.Prelude.{Bool, cond, ◌&&◌, ◌||◌, [], ◌∷◌, map, ℕ, ◌+◌, ◌-◌, ◌*◌, eqb, leb, length}
use Rattle.word.specs.Word as Word
use Rattle.chain.specs.Chain.{value, rest, words}
use Rattle.chain.specs.SumChain as SumChain
use Rattle.chain.specs.ProductChain as ProductChain
use Rattle.formula.specs.Tree as Tree
use Rattle.formula.specs.Tree.{Span, Tree}
use Rattle.fold.specs.Folded.{Spans, Folded, constant, sum_row, difference_row, product_row, minus_row, power_row, raise_row, is_constant, is_sum_chain, is_product_chain, elements, trimmed_sum, trimmed_product}

-- ---- the operands that the rules speak of
-- The word of a constant.
abbrev pub word_of : Folded → ℕ
word_of a = value 0 (elements a)

-- The constant n.
abbrev pub is : ℕ → Folded → Bool
is n a = is_constant a && eqb (word_of a) n

abbrev pub constants : Folded → Folded → Bool
constants a b = is_constant a && is_constant b

-- C or S, "C standing as f0".
abbrev pub is_sum : Folded → Bool
is_sum a = is_constant a || is_sum_chain a

-- The length k of a chain f0..fk.
abbrev pub length_of : Folded → ℕ
length_of a = length (elements a) - 1

-- ---- sum and difference
unfoldable pub fold_sum : ℕ → Spans → Folded → Folded → Folded
fold_sum w s a b =
    -- "An operator whose operands are all constants: always worked out."
    cond (constants a b) (constant (Word.sum w (word_of a) (word_of b)))
    -- "C+S, S+C, S+S: element by element, the shorter one filled with zeros, C standing as f0."
    (cond (is_sum a && is_sum b) (trimmed_sum (words w (SumChain.sum (elements a) (elements b))))
    -- "A+0, 0+A: A."
    (cond (is 0 b) a
    (cond (is 0 a) b
    -- "Anything else stays a row of the plan."
    (sum_row s a b))))

unfoldable pub fold_minus : ℕ → Span → Folded → Folded
fold_minus w s a =
    -- "An operator whose operands are all constants, minus among them."
    cond (is_constant a) (constant (Word.negation w (word_of a)))
    -- "minus S: every element; minus P: f0 only."
    (cond (is_sum_chain a) (trimmed_sum (map (λ f. Word.negation w f) (elements a)))
    (cond (is_product_chain a) (trimmed_product (Word.negation w (word_of a) ∷ rest (elements a)))
    (minus_row s a)))

unfoldable pub fold_difference : ℕ → Spans → Folded → Folded → Folded
fold_difference w s a b =
    cond (constants a b) (constant (Word.difference w (word_of a) (word_of b)))
    -- "and the same under -".
    (cond (is_sum a && is_sum b) (trimmed_sum (SumChain.difference w (elements a) (elements b)))
    -- "A-0: A."
    (cond (is 0 b) a
    -- "0-A: as minus A."
    (cond (is 0 a) (fold_minus w s.right b)
    (difference_row s a b))))

-- ---- product
unfoldable pub fold_product : ℕ → Spans → Folded → Folded → Folded
fold_product w s a b =
    cond (constants a b) (constant (Word.product w (word_of a) (word_of b)))
    -- "1*A, A*1: A. 0*A, A*0: constant 0."
    (cond (is 1 a) b
    (cond (is 1 b) a
    (cond (is 0 a || is 0 b) (constant 0)
    -- "C*S and S*C: every element."
    (cond (is_constant a && is_sum_chain b) (trimmed_sum (words w (SumChain.scaled (word_of a) (elements b))))
    (cond (is_sum_chain a && is_constant b) (trimmed_sum (words w (SumChain.scaled (word_of b) (elements a))))
    -- "C*P and P*C: f0 only."
    (cond (is_constant a && is_product_chain b) (trimmed_product (words w (ProductChain.scaled_first (word_of a) (elements b))))
    (cond (is_product_chain a && is_constant b) (trimmed_product (words w (ProductChain.scaled_first (word_of b) (elements a))))
    -- "P*P: element by element, filled with ones."
    (cond (is_product_chain a && is_product_chain b) (trimmed_product (words w (ProductChain.joint_product (elements a) (elements b))))
    -- "S*S with lengths k + l at most 16: document 000's rule."
    (cond (is_sum_chain a && is_sum_chain b && leb (length_of a + length_of b) 16) (trimmed_sum (words w (SumChain.product (elements a) (elements b))))
    (product_row s a b))))))))))

-- ---- literal power and raise
unfoldable pub fold_power : ℕ → Span → Folded → ℕ → Folded
fold_power w s a n =
    -- "An operator whose operands are all constants, literal power among them."
    cond (is_constant a) (constant (Word.power w (word_of a) n))
    -- "A^0 is 1, A^1 is A."
    (cond (eqb n 0) (constant 1)
    (cond (eqb n 1) a
    -- "S^n if k*n is at most 16."
    (cond (is_sum_chain a && leb (length_of a * n) 16) (trimmed_sum (words w (SumChain.power (elements a) n)))
    -- "P^n: every element to the n."
    (cond (is_product_chain a) (trimmed_product (words w (ProductChain.power_of_each (elements a) n)))
    (power_row s a n)))))

unfoldable pub fold_raise : ℕ → Spans → Folded → Folded → Folded
fold_raise w s a b =
    -- "raise: C by C worked out; C by S becomes a product chain with elements C^fj."
    cond (constants a b) (constant (Word.power w (word_of a) (word_of b)))
    (cond (is_constant a && is_sum_chain b) (trimmed_product (words w (ProductChain.raised (word_of a) (elements b))))
    (raise_row s a b))

-- ---- the folded tree of a formula on a grid. "x is the sum chain (start, step), trimmed."
abbrev pub operands : Tree → Tree → Spans
operands a b = record { left = Tree.span_of a; right = Tree.span_of b }

unfoldable pub fold : ℕ → ℕ → ℕ → Tree → Folded
fold w start step (Tree.number s place v) = constant (Word.word w v)
fold w start step (Tree.variable s) = trimmed_sum (words w (start ∷ step ∷ []))
fold w start step (Tree.sum s a b) = fold_sum w (operands a b) (fold w start step a) (fold w start step b)
fold w start step (Tree.difference s a b) = fold_difference w (operands a b) (fold w start step a) (fold w start step b)
fold w start step (Tree.product s a b) = fold_product w (operands a b) (fold w start step a) (fold w start step b)
fold w start step (Tree.minus s a) = fold_minus w (Tree.span_of a) (fold w start step a)
fold w start step (Tree.literal_power s a place n) = fold_power w (Tree.span_of a) (fold w start step a) n
fold w start step (Tree.raise s a place b) = fold_raise w (operands a b) (fold w start step a) (fold w start step b)
