-- A folded tree: a constant, a trimmed chain, or an operator that stays a row of the plan. Its rules are in Folding.antt.
use Rattle.std.specs.Prelude.{Bool, true, false, List, [], ◌∷◌, ℕ}
use Rattle.word.specs.Word as Word
use Rattle.chain.specs.Chain as Chain
use Rattle.chain.specs.SumChain.{sum_at}
use Rattle.chain.specs.ProductChain.{product_at}
use Rattle.chain.specs.ProductChain as ProductChain
use Rattle.formula.specs.Tree.{Span}

-- "first byte and end byte (the byte after the last) of the text it came from" (request Five): an operator knows the spans of its operands. The
-- whole tree's own is given beside it, so that an operand "passed through unchanged" "takes the whole span" of where it goes.
pub record Spans : Type 0 where
  pub left : Span
  pub right : Span

pub data Folded : Type 0 where
  constant : ℕ → Folded
  sum_chain : (elements : List ℕ) → Folded
  product_chain : (elements : List ℕ) → Folded
  sum_row : Spans → Folded → Folded → Folded
  difference_row : Spans → Folded → Folded → Folded
  product_row : Spans → Folded → Folded → Folded
  minus_row : Span → Folded → Folded
  power_row : Span → Folded → (n : ℕ) → Folded
  raise_row : Spans → Folded → Folded → Folded

-- ---- "With C constant, S sum chain, P product chain"
abbrev pub is_constant : Folded → Bool
is_constant (constant c) = true
is_constant (sum_chain f) = false
is_constant (product_chain f) = false
is_constant (sum_row s a b) = false
is_constant (difference_row s a b) = false
is_constant (product_row s a b) = false
is_constant (minus_row s a) = false
is_constant (power_row s a n) = false
is_constant (raise_row s a b) = false

abbrev pub is_sum_chain : Folded → Bool
is_sum_chain (constant c) = false
is_sum_chain (sum_chain f) = true
is_sum_chain (product_chain f) = false
is_sum_chain (sum_row s a b) = false
is_sum_chain (difference_row s a b) = false
is_sum_chain (product_row s a b) = false
is_sum_chain (minus_row s a) = false
is_sum_chain (power_row s a n) = false
is_sum_chain (raise_row s a b) = false

abbrev pub is_product_chain : Folded → Bool
is_product_chain (constant c) = false
is_product_chain (sum_chain f) = false
is_product_chain (product_chain f) = true
is_product_chain (sum_row s a b) = false
is_product_chain (difference_row s a b) = false
is_product_chain (product_row s a b) = false
is_product_chain (minus_row s a) = false
is_product_chain (power_row s a n) = false
is_product_chain (raise_row s a b) = false

-- The elements f0..fk of a chain; a constant has f0 alone, and an operator none.
abbrev pub elements : Folded → List ℕ
elements (constant c) = c ∷ []
elements (sum_chain f) = f
elements (product_chain f) = f
elements (sum_row s a b) = []
elements (difference_row s a b) = []
elements (product_row s a b) = []
elements (minus_row s a) = []
elements (power_row s a n) = []
elements (raise_row s a b) = []

-- ---- "a sum chain drops trailing zeros, a product chain trailing ones; at length 0 it is a constant. A product chain with f0 = 0 is
-- the constant 0."
abbrev pub of_sum : List ℕ → Folded
of_sum [] = constant 0
of_sum (a ∷ []) = constant a
of_sum (a ∷ b ∷ f) = sum_chain (a ∷ b ∷ f)

abbrev pub of_product : List ℕ → Folded
of_product [] = constant 1
of_product (a ∷ []) = constant a
of_product (a ∷ b ∷ f) = product_chain (a ∷ b ∷ f)

abbrev pub trimmed_sum : List ℕ → Folded
trimmed_sum f = of_sum (Chain.trimmed 0 f)

abbrev pub trimmed_product : List ℕ → Folded
trimmed_product f = of_product (ProductChain.trimmed_product f)

-- ---- the value of a folded tree at index i: its chains after i shifts, its operators worked out on words
unfoldable pub value_at : ℕ → Folded → ℕ → ℕ
value_at w (constant c) i = Word.word w c
value_at w (sum_chain f) i = Word.word w (sum_at f i)
value_at w (product_chain f) i = Word.word w (product_at f i)
value_at w (sum_row s a b) i = Word.sum w (value_at w a i) (value_at w b i)
value_at w (difference_row s a b) i = Word.difference w (value_at w a i) (value_at w b i)
value_at w (product_row s a b) i = Word.product w (value_at w a i) (value_at w b i)
value_at w (minus_row s a) i = Word.negation w (value_at w a i)
value_at w (power_row s a n) i = Word.power w (value_at w a i) n
value_at w (raise_row s a b) i = Word.power w (value_at w a i) (value_at w b i)
