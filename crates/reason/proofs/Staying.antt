-- What it says of the operands that a row stays, operator by operator: no rule's test holds. And where none holds, the row stays.
use mathlib.Core.Path.{◌≡◌, refl, sym, ap, ap₂, ◌∙◌}
use mathlib.Core.Bool.{Bool, true, false, cond, not, ◌&&◌, ◌||◌, true≢false, false≢true}
use mathlib.Core.List.{List, [], ◌∷◌, map}
use Prim.Native.Nat.{ℕ, ◌+◌, ◌*◌, ◌≤◌}
use native.Mathlib.Omega.{arith}
use lib.Dec.{eqb, leb}
use borrow.Author.Tests.{ne_eqb}
use Rattle.word.specs.Word as Word
use Rattle.chain.specs.Chain.{rest, words, trimmed}
use Rattle.chain.specs.SumChain as SumChain
use Rattle.chain.specs.ProductChain as ProductChain
use Rattle.formula.specs.Tree.{Span}
use Rattle.formula_scan.proofs.Parity.{neither}
use Rattle.fold.specs.Folded.{Spans, Folded, constant, sum_row, difference_row, product_row, minus_row, power_row, raise_row}
use Rattle.fold.specs.Folded.{is_constant, is_sum_chain, is_product_chain, elements, of_sum, of_product, trimmed_sum, trimmed_product}
use Rattle.fold.specs.Folding.{word_of, is, constants, is_sum, length_of, fold_sum, fold_minus, fold_difference, fold_product, fold_power, fold_raise}
use Rattle.fold.specs.Layout.{row_count}
use Rattle.fold.proofs.Rules.{minus-rules}
use Rattle.fold.proofs.Origins.{kind_of}
use Rattle.reason.specs.Reasons.{folded_again, Stays, PlusOrMinus, plus, less, is_operator}
use Rattle.reason.proofs.Operands.{no_chain}

-- ---- a rule that would leave something else is not taken; where no rule is taken, the row stays
not_taken : (t : Bool) {x y z : Folded} → (t ≡ true → x ≡ z → ⊥) → cond t x y ≡ z → (t ≡ false) × (y ≡ z)
not_taken true other e = absurd (other refl e)
not_taken false other e = (refl, e)

pub passed : (t : Bool) (x : Folded) {y z : Folded} → t ≡ false → y ≡ z → cond t x y ≡ z
passed true x e same = absurd (true≢false e)
passed false x e same = same

-- Constants and trimmed chains are no rows of kinds 3 to 8.
pub no_row : {x t : Folded} → is_operator x ≡ false → is_operator t ≡ true → x ≡ t → ⊥
no_row p q e = false≢true (sym p ∙ ap (λ z. is_operator z) e ∙ q)

of_sum_leaf : (f : List ℕ) → is_operator (of_sum f) ≡ false
of_sum_leaf [] = refl
of_sum_leaf (a ∷ []) = refl
of_sum_leaf (a ∷ b ∷ f) = refl

of_product_leaf : (f : List ℕ) → is_operator (of_product f) ≡ false
of_product_leaf [] = refl
of_product_leaf (a ∷ []) = refl
of_product_leaf (a ∷ b ∷ f) = refl

pub sum_leaf : (f : List ℕ) → is_operator (trimmed_sum f) ≡ false
sum_leaf f = of_sum_leaf (trimmed 0 f)

pub product_leaf : (f : List ℕ) → is_operator (trimmed_product f) ≡ false
product_leaf f = of_product_leaf (ProductChain.trimmed_product f)

-- ---- + and -
pub record Unsummed (a b : Folded) : Type 0 where
  pub sums : (is_sum a && is_sum b) ≡ false
  pub right : is 0 b ≡ false
  pub left : is 0 a ≡ false

-- Two constants are two sums.
no_constants : (a b : Folded) → (is_sum a && is_sum b) ≡ false → constants a b ≡ false
no_constants a b = go (is_constant a) (is_sum_chain a) (is_constant b) (is_sum_chain b)
  where
    go : (c s d t : Bool) → ((c || s) && (d || t)) ≡ false → (c && d) ≡ false
    go true s true t e = e
    go true s false t e = refl
    go false s d t e = refl

minus_no_difference : (w : ℕ) (u : Span) (s : Spans) (a b c : Folded) → fold_minus w u c ≡ difference_row s a b → ⊥
unfolding kind_of
minus_no_difference w u s a b c =
    minus-rules (λ f. f ≡ difference_row s a b → ⊥) w u c (λ _. no_row refl refl)
    (λ _. no_row (sum_leaf (map (λ f. Word.negation w f) (elements c))) refl)
    (λ _. no_row (product_leaf (Word.negation w (word_of c) ∷ rest (elements c))) refl) (λ e. omega (arith, ap kind_of e))

-- The rules of + and - are the same but for what they leave.
module _ (a b worked added instead row : Folded) where
  abbrev rules : Folded
  rules = cond (constants a b) worked (cond (is_sum a && is_sum b) added (cond (is 0 b) a (cond (is 0 a) instead row)))

  rules_facts : is_operator row ≡ true → is_operator worked ≡ false → is_operator added ≡ false → (a ≡ row → ⊥) → (instead ≡ row → ⊥)
      → rules ≡ row → Unsummed a b
  rules_facts operator one many no-left no-right e =
      let constants = not_taken (constants a b) (λ _. no_row one operator) e in
      let sums = not_taken (is_sum a && is_sum b) (λ _. no_row many operator) constants.1 in
      let right = not_taken (is 0 b) (λ _. no-left) sums.1 in
      let left = not_taken (is 0 a) (λ _. no-right) right.1 in
      record { sums = sums.0; right = right.0; left = left.0 }

  rules_stay : Unsummed a b → rules ≡ row
  rules_stay h =
      passed (constants a b) _ (no_constants a b h.sums)
      (passed (is_sum a && is_sum b) _ h.sums (passed (is 0 b) _ h.right (passed (is 0 a) _ h.left refl)))

module _ (w : ℕ) where
  pub sum_facts : {t a b : Folded} → PlusOrMinus t a b → Stays w t → Unsummed a b
  unfolding folded_again fold_sum fold_difference row_count
  sum_facts (plus s a b) =
      rules_facts a b _ _ b (sum_row s a b) refl refl (sum_leaf (words w (SumChain.sum (elements a) (elements b))))
      (λ e. omega (arith, ap row_count e)) (λ e. omega (arith, ap row_count e))
  sum_facts (less s a b) =
      rules_facts a b _ _ (fold_minus w s.right b) (difference_row s a b) refl refl (sum_leaf (SumChain.difference w (elements a) (elements b)))
      (λ e. omega (arith, ap row_count e)) (minus_no_difference w s.right s a b b)

  pub sum-stays : {t a b : Folded} → PlusOrMinus t a b → Unsummed a b → Stays w t
  unfolding folded_again fold_sum fold_difference
  sum-stays (plus s a b) = rules_stay a b _ _ b (sum_row s a b)
  sum-stays (less s a b) = rules_stay a b _ _ (fold_minus w s.right b) (difference_row s a b)

-- ---- *
pub record Unmultiplied (a b : Folded) : Type 0 where
  pub worked : constants a b ≡ false
  pub left_one : is 1 a ≡ false
  pub right_one : is 1 b ≡ false
  pub zeros : (is 0 a || is 0 b) ≡ false
  pub left_scales : (is_constant a && is_sum_chain b) ≡ false
  pub right_scales : (is_sum_chain a && is_constant b) ≡ false
  pub left-first : (is_constant a && is_product_chain b) ≡ false
  pub right-first : (is_product_chain a && is_constant b) ≡ false
  pub products : (is_product_chain a && is_product_chain b) ≡ false
  pub sums : (is_sum_chain a && is_sum_chain b && leb (length_of a + length_of b) 16) ≡ false

module _ (w : ℕ) (s : Spans) (a b : Folded) where
  no_sum-row : (f : List ℕ) → trimmed_sum (words w f) ≡ product_row s a b → ⊥
  no_sum-row f = no_row (sum_leaf (words w f)) refl

  no_product-row : (f : List ℕ) → trimmed_product (words w f) ≡ product_row s a b → ⊥
  no_product-row f = no_row (product_leaf (words w f)) refl

  pub product_facts : Stays w (product_row s a b) → Unmultiplied a b
  unfolding folded_again fold_product row_count
  product_facts e =
      let worked = not_taken (constants a b) (λ _. no_row refl refl) e in
      let left_one = not_taken (is 1 a) (λ _ same. omega (arith, ap row_count same)) worked.1 in
      let right_one = not_taken (is 1 b) (λ _ same. omega (arith, ap row_count same)) left_one.1 in
      let zeros = not_taken (is 0 a || is 0 b) (λ _. no_row refl refl) right_one.1 in
      let left_scales = not_taken (is_constant a && is_sum_chain b) (λ _. no_sum-row (SumChain.scaled (word_of a) (elements b))) zeros.1 in
      let right_scales = not_taken (is_sum_chain a && is_constant b) (λ _. no_sum-row (SumChain.scaled (word_of b) (elements a))) left_scales.1 in
      let left-first =
      not_taken (is_constant a && is_product_chain b) (λ _. no_product-row (ProductChain.scaled_first (word_of a) (elements b))) right_scales.1
      in
      let right-first =
      not_taken (is_product_chain a && is_constant b) (λ _. no_product-row (ProductChain.scaled_first (word_of b) (elements a))) left-first.1
      in
      let products =
      not_taken (is_product_chain a && is_product_chain b) (λ _. no_product-row (ProductChain.joint_product (elements a) (elements b))) right-first.1
      in
      let sums =
      not_taken (is_sum_chain a && is_sum_chain b && leb (length_of a + length_of b) 16) (λ _. no_sum-row (SumChain.product (elements a) (elements b)))
      products.1
      in
      record {
        worked = worked.0;
        left_one = left_one.0;
        right_one = right_one.0;
        zeros = zeros.0;
        left_scales = left_scales.0;
        right_scales = right_scales.0;
        left-first = left-first.0;
        right-first = right-first.0;
        products = products.0;
        sums = sums.0;
      }

  pub product-stays : Unmultiplied a b → Stays w (product_row s a b)
  unfolding folded_again fold_product
  product-stays h =
      passed (constants a b) _ h.worked
      (passed (is 1 a) _ h.left_one
      (passed (is 1 b) _ h.right_one
      (passed (is 0 a || is 0 b) _ h.zeros
      (passed (is_constant a && is_sum_chain b) _ h.left_scales
      (passed (is_sum_chain a && is_constant b) _ h.right_scales
      (passed (is_constant a && is_product_chain b) _ h.left-first
      (passed (is_product_chain a && is_constant b) _ h.right-first
      (passed (is_product_chain a && is_product_chain b) _ h.products
      (passed (is_sum_chain a && is_sum_chain b && leb (length_of a + length_of b) 16) _ h.sums refl)))))))))

-- ---- minus, literal power and raise
module _ (w : ℕ) (s : Span) (a : Folded) where
  pub minus_facts : Stays w (minus_row s a) → is_operator a ≡ true
  unfolding folded_again fold_minus
  minus_facts e =
      let constant = not_taken (is_constant a) (λ _. no_row refl refl) e in
      let every = not_taken (is_sum_chain a) (λ _. no_row (sum_leaf (map (λ f. Word.negation w f) (elements a))) refl) constant.1 in
      let first = not_taken (is_product_chain a) (λ _. no_row (product_leaf (Word.negation w (word_of a) ∷ rest (elements a))) refl) every.1 in
      ap₂ (λ t u. not (t || u)) constant.0 (ap₂ ◌||◌ every.0 first.0)

  pub minus-stays : is_operator a ≡ true → Stays w (minus_row s a)
  unfolding folded_again fold_minus
  minus-stays e =
      let none = no_chain a e in
      passed (is_constant a) _ none.0 (passed (is_sum_chain a) _ none.1 (passed (is_product_chain a) _ none.2 refl))

  module _ (n : ℕ) (some : 2 ≤ n) where
    pub power_facts : Stays w (power_row s a n)
        → (is_constant a ≡ false) × ((is_sum_chain a && leb (length_of a * n) 16) ≡ false) × (is_product_chain a ≡ false)
    unfolding folded_again fold_power row_count
    power_facts e =
        let worked = not_taken (is_constant a) (λ _. no_row refl refl) e in
        let none = not_taken (eqb n 0) (λ _. no_row refl refl) worked.1 in
        let once = not_taken (eqb n 1) (λ _ same. omega (arith, ap row_count same)) none.1 in
        let sums =
        not_taken (is_sum_chain a && leb (length_of a * n) 16) (λ _. no_row (sum_leaf (words w (SumChain.power (elements a) n))) refl) once.1
        in
        let each = not_taken (is_product_chain a) (λ _. no_row (product_leaf (words w (ProductChain.power_of_each (elements a) n))) refl) sums.1 in
        (worked.0, sums.0, each.0)

    pub power-stays : is_constant a ≡ false → (is_sum_chain a && leb (length_of a * n) 16) ≡ false → is_product_chain a ≡ false → Stays w (power_row s a n)
    unfolding folded_again fold_power
    power-stays worked sums each =
        passed (is_constant a) _ worked
        (passed (eqb n 0) _ (ne_eqb n 0 (λ e. omega arith))
        (passed (eqb n 1) _ (ne_eqb n 1 (λ e. omega arith))
        (passed (is_sum_chain a && leb (length_of a * n) 16) _ sums (passed (is_product_chain a) _ each refl))))

-- The base of a raise is a constant.
module _ (w : ℕ) (s : Spans) (c : ℕ) (b : Folded) where
  pub raise_facts : Stays w (raise_row s (constant c) b) → is_sum b ≡ false
  unfolding folded_again fold_raise
  raise_facts e =
      let worked = not_taken (is_constant b) (λ _. no_row refl refl) e in
      let raised = not_taken (is_sum_chain b) (λ _. no_row (product_leaf (words w (ProductChain.raised c (elements b)))) refl) worked.1 in
      ap₂ ◌||◌ worked.0 raised.0

  pub raise-stays : is_sum b ≡ false → Stays w (raise_row s (constant c) b)
  unfolding folded_again fold_raise
  raise-stays e =
      let none = neither (is_constant b) (is_sum_chain b) e in
      passed (is_constant b) _ none.0 (passed (is_sum_chain b) _ none.1 refl)
