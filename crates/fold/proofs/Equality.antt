-- Two folded trees that are constants or sum chains are equal exactly when their values agree at indices 0 to 16; and so the folded trees
-- of two formulas, each on its own grid, exactly when the direct values agree there.
use mathlib.Core.Path.{◌≡◌, refl, sym, ap, subst, ◌∙◌}
use mathlib.Core.Bool.{true, false, false≢true}
use mathlib.Core.Logic.{◌↔◌}
use mathlib.Core.List.{List, [], ◌∷◌}
use Prim.Native.Nat.{ℕ, ◌≤◌}
use native.Mathlib.Nat.{mod-eq_of_lt}
use native.Mathlib.Omega.{arith}
use lib.ListN.{length}
use Rattle.chain.specs.Chain.{value, rest, words, without_trailing, trimmed}
use Rattle.chain.specs.ProductChain as ProductChain
use Rattle.chain.proofs.Trimming.{trimmed_twice}
use Rattle.chain.proofs.Rows.{words-whole}
use Rattle.chain.proofs.Canonical.{canonical}
use Rattle.formula.specs.Tree.{Tree}
use Rattle.formula.specs.Value.{direct_value}
use Rattle.formula_scan.proofs.Parity.{OddBases}
use Rattle.fold.specs.Folded.{Folded, constant, sum_chain, is_constant, is_sum_chain, is_product_chain, elements, of_sum, of_product, value_at}
use Rattle.fold.specs.Folding.{word_of, is_sum, fold}
use Rattle.fold.proofs.Shape.{WellFormed}
use Rattle.fold.proofs.Tests.{either, shaped, sum-chain_again}
use Rattle.fold.proofs.Rules.{fold_each}
use Rattle.fold.proofs.FoldValues.{sum-value, fold-value}

-- ---- a constant or sum chain of a folded tree is trimmed
abbrev TrimmedSum : Folded → Type 0
TrimmedSum a = is_sum a ≡ true → elements a ≡ trimmed 0 (elements a)

fold-trimmed : (w start step : ℕ) (t : Tree) → TrimmedSum (fold w start step t)
unfolding trimmed without_trailing
fold-trimmed w start step t =
    fold_each TrimmedSum (λ c e. refl) sums (λ f. products (ProductChain.trimmed_product f)) rows w start step t
  where
    sums : (f : List ℕ) → TrimmedSum (of_sum (trimmed 0 f))
    sums f e = subst (λ g. g ≡ trimmed 0 g) (sym (kept (value 0 f) (without_trailing 0 (rest f)))) (sym (trimmed_twice 0 f))
      where
        kept : (a : ℕ) (g : List ℕ) → elements (of_sum (a ∷ g)) ≡ a ∷ g
        kept a [] = refl
        kept a (b ∷ g) = refl

    products : (f : List ℕ) → TrimmedSum (of_product f)
    products [] e = refl
    products (a ∷ []) e = refl
    products (a ∷ b ∷ f) e = absurd (false≢true e)

    rows : (a : Folded) → is_constant a ≡ false → is_sum_chain a ≡ false → is_product_chain a ≡ false → TrimmedSum a
    rows a c s p e = absurd (either (is_constant a) (is_sum_chain a) e (λ t. false≢true (sym c ∙ t)) (λ t. false≢true (sym s ∙ t)))

-- ---- a well_formed one fits 17 words, and is made again from its elements
record FitsRow (w : ℕ) (a : Folded) : Type 0 where
  short : length (elements a) ≤ 17
  as_words : words w (elements a) ≡ elements a
  again : of_sum (elements a) ≡ a

fits_row : (w : ℕ) (a : Folded) → is_sum a ≡ true → WellFormed w a → FitsRow w a
unfolding WellFormed
fits_row w a e =
    either (is_constant a) (is_sum_chain a) e
    (λ c. subst Fitting (sym ((shaped a).constantly c)) (constants (word_of a)))
    (λ s. subst Fitting (sym ((shaped a).summed s)) (chains (elements a)))
  where
    Fitting : Folded → Type 0
    Fitting b = WellFormed w b → FitsRow w b

    constants : (c : ℕ) → Fitting (constant c)
    constants c h = record { short = omega arith; as_words = ap (λ z. z ∷ []) (mod-eq_of_lt h); again = refl }

    chains : (f : List ℕ) → Fitting (sum_chain f)
    chains f h = record { short = h.most; as_words = words-whole w f h.words; again = sum-chain_again w f h }

-- ---- equality
equal_values : (w : ℕ) (a b : Folded) → is_sum a ≡ true → is_sum b ≡ true → WellFormed w a → WellFormed w b → TrimmedSum a → TrimmedSum b
    → (a ≡ b) ↔ ((i : ℕ) → i ≤ 16 → value_at w a i ≡ value_at w b i)
equal_values w a b p q well-a well-b trimmed-a trimmed-b =
    (λ e i h. ap (λ c. value_at w c i) e, λ same. sym left.again ∙ ap of_sum (elements_equal same) ∙ right.again)
  where
    left : FitsRow w a
    left = fits_row w a p well-a

    right : FitsRow w b
    right = fits_row w b q well-b

    elements_equal : ((i : ℕ) → i ≤ 16 → value_at w a i ≡ value_at w b i) → elements a ≡ elements b
    elements_equal same =
        (canonical w (elements a) (elements b)
        (trimmed-a p ∙ ap (trimmed 0) (sym left.as_words)) (trimmed-b q ∙ ap (trimmed 0) (sym right.as_words))
        left.short right.short
        ).1 (λ i h. sym (sum-value w a i p) ∙ same i h ∙ sum-value w b i q)

-- Two formulas, each on its own grid.
pub equal_folds : (w start step start' step' : ℕ) (t u : Tree) → OddBases w t → OddBases w u
    → WellFormed w (fold w start step t) → WellFormed w (fold w start' step' u)
    → is_sum (fold w start step t) ≡ true → is_sum (fold w start' step' u) ≡ true
    → (fold w start step t ≡ fold w start' step' u) ↔ ((i : ℕ) → i ≤ 16 → direct_value w start step t i ≡ direct_value w start' step' u i)
equal_folds w start step start' step' t u odd-t odd-u well-t well-u sum-t sum-u = (
  λ e i h. sym (fold-value w start step t odd-t i) ∙ both.0 e i h ∙ fold-value w start' step' u odd-u i,
  λ same. both.1 (λ i h. fold-value w start step t odd-t i ∙ same i h ∙ sym (fold-value w start' step' u odd-u i)),
)
  where
    both : (fold w start step t ≡ fold w start' step' u)
        ↔ ((i : ℕ) → i ≤ 16 → value_at w (fold w start step t) i ≡ value_at w (fold w start' step' u) i)
    both =
        equal_values w (fold w start step t) (fold w start' step' u) sum-t sum-u well-t well-u
        (fold-trimmed w start step t) (fold-trimmed w start' step' u)
