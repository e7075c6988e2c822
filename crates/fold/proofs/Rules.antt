-- What holds of the result of each rule of an operator, where the rule is taken, holds of what the operator folds to; and what holds of
-- constants, trimmed chains and rows holds of every folded tree.
use mathlib.Core.Path.{◌≡◌, refl}
use mathlib.Core.Bool.{Bool, true, false, cond, ◌&&◌, ◌||◌}
use mathlib.Core.List.{List, ◌∷◌, map}
use Prim.Native.Nat.{ℕ, ◌+◌, ◌*◌}
use lib.Dec.{eqb, leb}
use Rattle.word.specs.Word as Word
use Rattle.chain.specs.Chain.{rest, words}
use Rattle.chain.specs.SumChain as SumChain
use Rattle.chain.specs.ProductChain as ProductChain
use Rattle.formula.specs.Tree.{Span, Tree}
use Rattle.fold.specs.Folded.{Spans, Folded, constant, sum_row, difference_row, product_row, minus_row, power_row, raise_row}
use Rattle.fold.specs.Folded.{is_constant, is_sum_chain, is_product_chain, elements, trimmed_sum, trimmed_product}
use Rattle.fold.specs.Folding.{word_of, is, constants, is_sum, length_of, fold_sum, fold_minus, fold_difference, fold_product, fold_power, fold_raise, fold}

-- What a test picks has a property if both have it, each where it is picked.
pub picked : {A : Type 0} (P : A → Type 0) (t : Bool) {x y : A} → (t ≡ true → P x) → (t ≡ false → P y) → P (cond t x y)
picked P true first second = first refl
picked P false first second = second refl

-- ---- the rules of each operator, in their order
module _ (P : Folded → Type 0) (w : ℕ) where
  -- A rule, and the rules after it.
  rule : (t : Bool) {x y : Folded} → (t ≡ true → P x) → P y → P (cond t x y)
  rule t here later = picked P t here (λ e. later)

  module _ (s : Spans) (a b : Folded) where
    pub sum-rules : (constants a b ≡ true → P (constant (Word.sum w (word_of a) (word_of b))))
        → ((is_sum a && is_sum b) ≡ true → P (trimmed_sum (words w (SumChain.sum (elements a) (elements b)))))
        → (is 0 b ≡ true → P a)
        → (is 0 a ≡ true → P b)
        → P (sum_row s a b)
        → P (fold_sum w s a b)
    unfolding fold_sum
    sum-rules worked sums right_zero left-zero row =
        rule (constants a b) worked (rule (is_sum a && is_sum b) sums (rule (is 0 b) right_zero (rule (is 0 a) left-zero row)))

    pub difference-rules : (constants a b ≡ true → P (constant (Word.difference w (word_of a) (word_of b))))
        → ((is_sum a && is_sum b) ≡ true → P (trimmed_sum (SumChain.difference w (elements a) (elements b))))
        → (is 0 b ≡ true → P a)
        → (is 0 a ≡ true → P (fold_minus w s.right b))
        → P (difference_row s a b)
        → P (fold_difference w s a b)
    unfolding fold_difference
    difference-rules worked sums right_zero left-zero row =
        rule (constants a b) worked (rule (is_sum a && is_sum b) sums (rule (is 0 b) right_zero (rule (is 0 a) left-zero row)))

    pub product-rules : (constants a b ≡ true → P (constant (Word.product w (word_of a) (word_of b))))
        → (is 1 a ≡ true → P b)
        → (is 1 b ≡ true → P a)
        → ((is 0 a || is 0 b) ≡ true → P (constant 0))
        → ((is_constant a && is_sum_chain b) ≡ true → P (trimmed_sum (words w (SumChain.scaled (word_of a) (elements b)))))
        → ((is_sum_chain a && is_constant b) ≡ true → P (trimmed_sum (words w (SumChain.scaled (word_of b) (elements a)))))
        → ((is_constant a && is_product_chain b) ≡ true → P (trimmed_product (words w (ProductChain.scaled_first (word_of a) (elements b)))))
        → ((is_product_chain a && is_constant b) ≡ true → P (trimmed_product (words w (ProductChain.scaled_first (word_of b) (elements a)))))
        → ((is_product_chain a && is_product_chain b) ≡ true → P (trimmed_product (words w (ProductChain.joint_product (elements a) (elements b)))))
        → ((is_sum_chain a && is_sum_chain b && leb (length_of a + length_of b) 16) ≡ true
        → P (trimmed_sum (words w (SumChain.product (elements a) (elements b)))))
        → P (product_row s a b)
        → P (fold_product w s a b)
    unfolding fold_product
    product-rules worked left_one right_one zeros left-scaled right-scaled left-first right-first products sums row =
        rule (constants a b) worked
        (rule (is 1 a) left_one
        (rule (is 1 b) right_one
        (rule (is 0 a || is 0 b) zeros
        (rule (is_constant a && is_sum_chain b) left-scaled
        (rule (is_sum_chain a && is_constant b) right-scaled
        (rule (is_constant a && is_product_chain b) left-first
        (rule (is_product_chain a && is_constant b) right-first
        (rule (is_product_chain a && is_product_chain b) products
        (rule (is_sum_chain a && is_sum_chain b && leb (length_of a + length_of b) 16) sums row)))))))))

    pub raise-rules : (constants a b ≡ true → P (constant (Word.power w (word_of a) (word_of b))))
        → ((is_constant a && is_sum_chain b) ≡ true → P (trimmed_product (words w (ProductChain.raised (word_of a) (elements b)))))
        → P (raise_row s a b)
        → P (fold_raise w s a b)
    unfolding fold_raise
    raise-rules worked raises row = rule (constants a b) worked (rule (is_constant a && is_sum_chain b) raises row)

  module _ (s : Span) (a : Folded) where
    pub minus-rules : (is_constant a ≡ true → P (constant (Word.negation w (word_of a))))
        → (is_sum_chain a ≡ true → P (trimmed_sum (map (λ f. Word.negation w f) (elements a))))
        → (is_product_chain a ≡ true → P (trimmed_product (Word.negation w (word_of a) ∷ rest (elements a))))
        → P (minus_row s a)
        → P (fold_minus w s a)
    unfolding fold_minus
    minus-rules worked every first row = rule (is_constant a) worked (rule (is_sum_chain a) every (rule (is_product_chain a) first row))

    -- A power stays a row only if n is neither 0 nor 1.
    pub power-rules : (n : ℕ) → (is_constant a ≡ true → P (constant (Word.power w (word_of a) n)))
        → (eqb n 0 ≡ true → P (constant 1))
        → (eqb n 1 ≡ true → P a)
        → ((is_sum_chain a && leb (length_of a * n) 16) ≡ true → P (trimmed_sum (words w (SumChain.power (elements a) n))))
        → (is_product_chain a ≡ true → P (trimmed_product (words w (ProductChain.power_of_each (elements a) n))))
        → (eqb n 0 ≡ false → eqb n 1 ≡ false → P (power_row s a n))
        → P (fold_power w s a n)
    unfolding fold_power
    power-rules n worked none once sums each row =
        rule (is_constant a) worked
        (picked P (eqb n 0) none
        (λ some. picked P (eqb n 1) once
        (λ more. rule (is_sum_chain a && leb (length_of a * n) 16) sums (rule (is_product_chain a) each (row some more)))))

-- ---- every folded tree
module _ (P : Folded → Type 0) (of-constant : (c : ℕ) → P (constant c)) (of-sum : (f : List ℕ) → P (trimmed_sum f))
    (of-product : (f : List ℕ) → P (trimmed_product f))
    (of_row : (a : Folded) → is_constant a ≡ false → is_sum_chain a ≡ false → is_product_chain a ≡ false → P a) (w : ℕ) where
  each_minus : (s : Span) (a : Folded) → P (fold_minus w s a)
  each_minus s a =
      minus-rules P w s a (λ e. of-constant _) (λ e. of-sum _) (λ e. of-product (Word.negation w (word_of a) ∷ rest (elements a))) (of_row _ refl refl refl)

  each_product : (s : Spans) (a b : Folded) → P a → P b → P (fold_product w s a b)
  each_product s a b p q =
      product-rules P w s a b (λ e. of-constant _) (λ e. q) (λ e. p) (λ e. of-constant 0) (λ e. of-sum _) (λ e. of-sum _)
      (λ e. of-product (words w (ProductChain.scaled_first (word_of a) (elements b))))
      (λ e. of-product (words w (ProductChain.scaled_first (word_of b) (elements a))))
      (λ e. of-product (words w (ProductChain.joint_product (elements a) (elements b))))
      (λ e. of-sum _) (of_row _ refl refl refl)

  each_power : (s : Span) (a : Folded) (n : ℕ) → P a → P (fold_power w s a n)
  each_power s a n p =
      power-rules P w s a n (λ e. of-constant _) (λ e. of-constant 1) (λ e. p) (λ e. of-sum _)
      (λ e. of-product (words w (ProductChain.power_of_each (elements a) n))) (λ some more. of_row _ refl refl refl)

  each_raise : (s : Spans) (a b : Folded) → P (fold_raise w s a b)
  each_raise s a b =
      raise-rules P w s a b (λ e. of-constant _) (λ e. of-product (words w (ProductChain.raised (word_of a) (elements b)))) (of_row _ refl refl refl)

  pub fold_each : (start step : ℕ) (t : Tree) → P (fold w start step t)
  unfolding fold
  fold_each start step (Tree.number s p v) = of-constant _
  fold_each start step (Tree.variable s) = of-sum _
  fold_each start step (Tree.sum s a b) =
      sum-rules P w _ _ _ (λ e. of-constant _) (λ e. of-sum _) (λ e. fold_each start step a) (λ e. fold_each start step b) (of_row _ refl refl refl)
  fold_each start step (Tree.difference s a b) =
      difference-rules P w _ _ _ (λ e. of-constant _) (λ e. of-sum _) (λ e. fold_each start step a) (λ e. each_minus _ _) (of_row _ refl refl refl)
  fold_each start step (Tree.product s a b) = each_product _ _ _ (fold_each start step a) (fold_each start step b)
  fold_each start step (Tree.minus s a) = each_minus _ _
  fold_each start step (Tree.literal_power s a p n) = each_power _ _ n (fold_each start step a)
  fold_each start step (Tree.raise s a p b) = each_raise _ _ _
