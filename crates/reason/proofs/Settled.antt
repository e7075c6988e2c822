-- Nothing is left to fold in what folding gives: 01's rules give each constant, chain and row of a folded tree back as it is.
use mathlib.Core.Path.{◌≡◌, refl, ap, ◌∙◌}
use mathlib.Core.Bool.{Bool, true, false, cond}
use mathlib.Core.List.{List, [], ◌∷◌}
use Prim.Native.Nat.{ℕ}
use lib.Dec.{eqb}
use Rattle.word.specs.Word as Word
use Rattle.chain.specs.Chain.{value, rest, words, without_trailing, trimmed}
use Rattle.chain.specs.ProductChain as ProductChain
use Rattle.chain.proofs.Trimming.{trimmed_twice}
use Rattle.formula.specs.Tree.{Span, Tree, span_of}
use Rattle.fold.specs.Folded.{Spans, Folded, elements, of_sum, of_product, trimmed_sum, trimmed_product}
use Rattle.fold.specs.Folding.{word_of, fold_sum, fold_minus, fold_difference, fold_product, fold_power, fold_raise, operands, fold}
use Rattle.fold.proofs.Rules.{sum-rules, minus-rules, difference-rules, product-rules, power-rules, raise-rules}
use Rattle.reason.specs.Reasons.{folded_again, Stays}

-- ---- trimmed chains are trimmed
trimmed-sum-stays : (w : ℕ) (f : List ℕ) → Stays w (trimmed_sum f)
unfolding folded_again
trimmed-sum-stays w f = go (trimmed 0 f) (trimmed_twice 0 f)
  where
    go : (g : List ℕ) → trimmed 0 g ≡ g → Stays w (of_sum g)
    go [] e = refl
    go (a ∷ []) e = refl
    go (a ∷ b ∷ g) e = ap of_sum e

trimmed-product-stays : (w : ℕ) (f : List ℕ) → Stays w (trimmed_product f)
unfolding folded_again trimmed
trimmed-product-stays w f = go (eqb (value 1 f) 0) refl
  where
    again : (a : ℕ) (g : List ℕ) → eqb a 0 ≡ false → trimmed 1 (a ∷ g) ≡ a ∷ g → Stays w (of_product (a ∷ g))
    again a [] some e = refl
    again a (b ∷ g) some e = ap (λ t. of_product (cond t (0 ∷ []) (trimmed 1 (a ∷ b ∷ g)))) some ∙ ap of_product e

    go : (t : Bool) → eqb (value 1 f) 0 ≡ t → Stays w (of_product (cond t (0 ∷ []) (trimmed 1 f)))
    go true e = refl
    go false e = again (value 1 f) (without_trailing 1 (rest f)) e (trimmed_twice 1 f)

-- ---- what each operator leaves: where it leaves its own row, the rules give that row
module _ (w : ℕ) where
  minus_settled : (s : Span) (a : Folded) → Stays w (fold_minus w s a)
  unfolding folded_again
  minus_settled s a =
      minus-rules (λ f. fold_minus w s a ≡ f → Stays w f) w s a (λ _ _. refl) (λ _ _. trimmed-sum-stays w _)
      (λ _ _. trimmed-product-stays w (Word.negation w (word_of a) ∷ rest (elements a))) (λ e. e) refl

  module _ (s : Spans) (a b : Folded) (left : Stays w a) (right : Stays w b) where
    sum_settled : Stays w (fold_sum w s a b)
    unfolding folded_again
    sum_settled =
        sum-rules (λ f. fold_sum w s a b ≡ f → Stays w f) w s a b (λ _ _. refl) (λ _ _. trimmed-sum-stays w _) (λ _ _. left) (λ _ _. right) (λ e. e) refl

    difference_settled : Stays w (fold_difference w s a b)
    unfolding folded_again
    difference_settled =
        difference-rules (λ f. fold_difference w s a b ≡ f → Stays w f) w s a b (λ _ _. refl) (λ _ _. trimmed-sum-stays w _) (λ _ _. left)
        (λ _ _. minus_settled s.right b) (λ e. e) refl

    product_settled : Stays w (fold_product w s a b)
    unfolding folded_again
    product_settled =
        product-rules (λ f. fold_product w s a b ≡ f → Stays w f) w s a b (λ _ _. refl) (λ _ _. right) (λ _ _. left) (λ _ _. refl)
        (λ _ _. trimmed-sum-stays w _) (λ _ _. trimmed-sum-stays w _)
        (λ _ _. trimmed-product-stays w (words w (ProductChain.scaled_first (word_of a) (elements b))))
        (λ _ _. trimmed-product-stays w (words w (ProductChain.scaled_first (word_of b) (elements a))))
        (λ _ _. trimmed-product-stays w (words w (ProductChain.joint_product (elements a) (elements b)))) (λ _ _. trimmed-sum-stays w _) (λ e. e) refl

    raise_settled : Stays w (fold_raise w s a b)
    unfolding folded_again
    raise_settled =
        raise-rules (λ f. fold_raise w s a b ≡ f → Stays w f) w s a b (λ _ _. refl)
        (λ _ _. trimmed-product-stays w (words w (ProductChain.raised (word_of a) (elements b)))) (λ e. e) refl

  power_settled : (s : Span) (a : Folded) (n : ℕ) → Stays w a → Stays w (fold_power w s a n)
  unfolding folded_again
  power_settled s a n left =
      power-rules (λ f. fold_power w s a n ≡ f → Stays w f) w s a n (λ _ _. refl) (λ _ _. refl) (λ _ _. left) (λ _ _. trimmed-sum-stays w _)
      (λ _ _. trimmed-product-stays w (words w (ProductChain.power_of_each (elements a) n))) (λ _ _ e. e) refl

  pub fold_settled : (start step : ℕ) (t : Tree) → Stays w (fold w start step t)
  unfolding fold folded_again
  fold_settled start step (Tree.number s p v) = refl
  fold_settled start step (Tree.variable s) = trimmed-sum-stays w _
  fold_settled start step (Tree.sum s a b) = sum_settled (operands a b) _ _ (fold_settled start step a) (fold_settled start step b)
  fold_settled start step (Tree.difference s a b) = difference_settled (operands a b) _ _ (fold_settled start step a) (fold_settled start step b)
  fold_settled start step (Tree.product s a b) = product_settled (operands a b) _ _ (fold_settled start step a) (fold_settled start step b)
  fold_settled start step (Tree.minus s a) = minus_settled (span_of a) _
  fold_settled start step (Tree.literal_power s a p n) = power_settled (span_of a) _ n (fold_settled start step a)
  fold_settled start step (Tree.raise s a p b) = raise_settled (operands a b) _ _ (fold_settled start step a) (fold_settled start step b)
