-- "x*x-x^2+7, any grid: constant 7": on every grid the folded tree of such a text is the constant 7. What follows from it is in Expectations.antt.
use mathlib.Core.Path.{◌≡◌, refl, sym, ap, ap₂, ◌∙◌}
use mathlib.Core.Bool.{Bool, true, false, cond, ◌&&◌, false≢true}
use mathlib.Core.List.{List, [], ◌∷◌}
use Prim.Native.Nat.{ℕ, ◌+◌, ◌*◌, ◌^◌}
use native.Mathlib.Nat.{pow-zero, pow-suc}
use native.Mathlib.Omega.{arith}
use lib.Dec.{eqb}
use Rattle.word.specs.Word as Word
use Rattle.chain.specs.Chain as Chain
use Rattle.formula.specs.Bytes.{bytes}
use Rattle.formula.specs.Tree.{Span, span, Tree, number, variable, sum, difference, product, literal_power}
use Rattle.formula.specs.Refusals.{Accepted}
use Rattle.formula.specs.Value.{value_for, direct_value}
use Rattle.formula_scan.proofs.Answers.{accepted_base}
use Rattle.formula_scan.proofs.Closed.{judges}
use Rattle.formula_scan.proofs.Verdicts.{verdict-accepted}
use Rattle.fold.specs.Folded.{Spans, Folded, constant, of_sum, trimmed_sum}
use Rattle.fold.specs.Folding.{is_sum, constants, fold_sum, fold_difference, fold_product, fold_power, fold}
use Rattle.fold.proofs.Rules.{picked}
use Rattle.fold.proofs.FoldShape.{accepted-formed}
use Rattle.fold.proofs.Equality.{equal_folds}

-- ---- the folded tree is a constant or a sum chain
-- x is a constant, where the step is 0, or a chain of length 1.
abbrev line_of : (start step : ℕ) → Bool → Folded
line_of start step still = of_sum (start ∷ cond still [] (step ∷ []))

-- What holds of constants and trimmed sum chains holds of sums and differences of such, and of the square of x.
module _ (P : Folded → Type 0) (of-constant : (c : ℕ) → P (constant c)) (of-sum : (f : List ℕ) → P (trimmed_sum f)) where
  module _ (s : Spans) (a b : Folded) (h : is_sum a ≡ true) (k : is_sum b ≡ true) where
    no_third : {Q : Type 0} → (is_sum a && is_sum b) ≡ false → Q
    no_third e = absurd (false≢true (sym e ∙ ap₂ ◌&&◌ h k))

    sum_of_sums : P (fold_sum 64 s a b)
    unfolding fold_sum
    sum_of_sums = picked P (constants a b) (λ e. of-constant _) (λ e. picked P (is_sum a && is_sum b) (λ q. of-sum _) (λ q. no_third q))

    difference_of_sums : P (fold_difference 64 s a b)
    unfolding fold_difference
    difference_of_sums = picked P (constants a b) (λ e. of-constant _) (λ e. picked P (is_sum a && is_sum b) (λ q. of-sum _) (λ q. no_third q))

  product_of_line : (s : Spans) (start step : ℕ) (still : Bool) → P (fold_product 64 s (line_of start step still) (line_of start step still))
  unfolding fold_product
  product_of_line s start step true = of-constant _
  product_of_line s start step false = of-sum _

  power_of_line : (s : Span) (start step : ℕ) (still : Bool) → P (fold_power 64 s (line_of start step still) 2)
  unfolding fold_power
  power_of_line s start step true = of-constant _
  power_of_line s start step false = of-sum _

trimmed-is-sum : (f : List ℕ) → is_sum (trimmed_sum f) ≡ true
trimmed-is-sum f = made (Chain.trimmed 0 f)
  where
    made : (g : List ℕ) → is_sum (of_sum g) ≡ true
    made [] = refl
    made (a ∷ []) = refl
    made (a ∷ b ∷ g) = refl

-- ---- any text that means x*x-x^2+7, wherever its parts stand
module _ {s : List ℕ} {t : Tree} (A : Accepted 64 s t) {whole front times left right raised base last : Span} {p q : ℕ}
    (shape : t ≡ sum whole (difference front (product times (variable left) (variable right)) (literal_power raised (variable base) p 2)) (number last q 7))
    (start step : ℕ) where
  seven_sums : is_sum (fold 64 start step t) ≡ true
  unfolding fold Chain.trimmed Chain.without_trailing Chain.with_last
  seven_sums =
      ap (λ u. is_sum (fold 64 start step u)) shape
      ∙ sum_of_sums IsSum (λ c. refl) trimmed-is-sum (record { left = front; right = last }) (fold_difference 64 parts square power) (constant 7)
      (difference_of_sums IsSum (λ c. refl) trimmed-is-sum parts square power
      (product_of_line IsSum (λ c. refl) trimmed-is-sum factors (Word.word 64 start) (Word.word 64 step) still)
      (power_of_line IsSum (λ c. refl) trimmed-is-sum base (Word.word 64 start) (Word.word 64 step) still))
      refl
    where
      IsSum : Folded → Type 0
      IsSum a = is_sum a ≡ true

      still : Bool
      still = eqb (Word.word 64 step) 0

      line : Folded
      line = line_of (Word.word 64 start) (Word.word 64 step) still

      factors : Spans
      factors = record { left = left; right = right }

      square : Folded
      square = fold_product 64 factors line line

      power : Folded
      power = fold_power 64 base line 2

      parts : Spans
      parts = record { left = times; right = raised }

  -- Its values are 7.
  seven_direct : (i : ℕ) → direct_value 64 start step t i ≡ 7
  unfolding value_for
  seven_direct i = ap (λ u. direct_value 64 start step u i) shape ∙ less-itself (Word.word 64 (start + i * step))
    where
      less-itself : (x : ℕ) → Word.sum 64 (Word.difference 64 (Word.product 64 x x) (Word.power 64 x 2)) (Word.word 64 7) ≡ 7
      less-itself x = ap (λ y. Word.sum 64 (Word.difference 64 (Word.word 64 (x * x)) (Word.word 64 y)) (Word.word 64 7)) square ∙ rest (x * x)
        where
          square : x ^ 2 ≡ x * x
          square = pow-suc x 1 ∙ ap (λ y. y * x) (pow-suc x 0 ∙ ap (λ y. y * x) (pow-zero x)) ∙ omega arith

          rest : (y : ℕ) → Word.sum 64 (Word.difference 64 (Word.word 64 y) (Word.word 64 y)) (Word.word 64 7) ≡ 7
          rest y = omega arith

  -- So it folds to what "7" folds to.
  pub folds_to_seven : fold 64 start step t ≡ constant 7
  unfolding fold value_for judges
  folds_to_seven =
      (equal_folds 64 start step start step t (number (span 0 1) 0 7) (accepted_base A) (accepted_base seven)
      (accepted-formed 64 start step A (omega arith)) (accepted-formed 64 start step seven (omega arith))
      seven_sums refl
      ).1 (λ i h. seven_direct i)
    where
      seven : Accepted 64 (bytes "7") (number (span 0 1) 0 7)
      seven = verdict-accepted (bytes "7") refl
