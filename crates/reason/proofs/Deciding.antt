-- Every row of kinds 3 to 8 has the reason whose number is worked out, where its own words are as soundness asks. That it has no other is in
-- OneReason.antt.
use mathlib.Core.Path.{◌≡◌, refl, sym, ap, ap₂, subst, ◌∙◌}
use mathlib.Core.Bool.{Bool, true, false, cond, not, ◌&&◌, ◌||◌, true≢false, false≢true}
use Prim.Native.Nat.{ℕ, ◌+◌, ◌*◌, ◌≤◌}
use lib.Dec.{eqb, leb}
use borrow.Author.Tests.{leb-false, not-false}
use Rattle.formula.specs.Tree.{Span}
use Rattle.formula_scan.proofs.Parity.{neither}
use Rattle.fold.specs.Folded.{Spans, Folded, constant, sum_chain, product_chain, sum_row, difference_row, product_row, minus_row, power_row, raise_row}
use Rattle.fold.specs.Folded.{is_constant, is_sum_chain, is_product_chain}
use Rattle.fold.specs.Folding.{word_of, is, is_sum, length_of, fold_product}
use Rattle.fold.proofs.Rules.{picked}
use Rattle.fold.proofs.Tests.{either, shaped}
use Rattle.fold.proofs.Origins.{kind_of}
use Rattle.fold.proofs.KindTests.{sum_test}
use Rattle.reason.specs.Reasons.{folded_again, Stays, PlusOrMinus, plus, less, added, times, is_operator}
use Rattle.reason.specs.Reasons.{left-stays, right-stays, under-minus, under-power, of_chains, of_chain}
use Rattle.reason.specs.Reasons.{on_the_right, on_the_left, of_both, of_raise}
use Rattle.reason.specs.Reasons.{Named, operand-stays, lengths-add, length-times, against_product, two_products, exponent-neither}
use Rattle.reason.specs.Reasons.{Reason, would_fold, stays}
use Rattle.reason.proofs.Operands.{Chain, a_constant, as_a_sum, a_product, chain-operand, no_chain, left-none, right-none}
use Rattle.reason.proofs.Numbers.{seen, has_word, operates, has_operator, word-seen, operator-seen}
use Rattle.reason.proofs.Numbers.{sum_folds, alike_folds, product_folds, minus_folds, power_folds, raise_folds, judged}
use Rattle.reason.proofs.Numbers.{sum_number, product_number, minus_number, power_number, raise_number, reason_of}
use Rattle.reason.proofs.Staying.{passed, sum_facts, sum-stays, Unmultiplied, product_facts, product-stays}
use Rattle.reason.proofs.Staying.{minus_facts, minus-stays, power_facts, power-stays, raise_facts, raise-stays}

-- ---- a row whose staying is told by a test
abbrev Tells : ℕ → Folded → Bool → Type 0
Tells w t folds = (Stays w t → folds ≡ false) × (folds ≡ false → Stays w t)

reason_judged : {w : ℕ} {t : Folded} {n : ℕ} (folds : Bool) → Tells w t folds → (Stays w t → Named t n) → Reason w t (judged folds n)
reason_judged true tells named = would_fold (λ e. true≢false (tells.0 e))
reason_judged false tells named = stays (tells.1 refl) (named (tells.1 refl))

-- ---- the operands
words-seen : (n : ℕ) (a b : Folded) → (is n a || is n b) ≡ has_word n (seen a) (seen b)
words-seen n a b = ap₂ ◌||◌ (word-seen n a) (word-seen n b)

-- What holds where the left one is an operator, where the right one is, and where both are constants or chains, holds.
by_operands : {A : Type 0} (P : A → Type 0) (a b : Folded) {x y : A} → (is_operator a ≡ true → P x) → (is_operator b ≡ true → P x)
    → (Chain a → Chain b → P y) → P (cond (has_operator (seen a) (seen b)) x y)
by_operands P a b left right chains =
    picked P (has_operator (seen a) (seen b))
    (λ e. either (operates (seen a)) (operates (seen b)) e (λ t. left (operator-seen a ∙ t)) (λ t. right (operator-seen b ∙ t)))
    (λ e. let none = neither (operates (seen a)) (operates (seen b)) e in
    chains (chain-operand a (operator-seen a ∙ none.0)) (chain-operand b (operator-seen b ∙ none.1)))

-- ---- + and -
module _ (w : ℕ) where
  sum_tells : {t a b : Folded} → PlusOrMinus t a b → Tells w t (sum_folds (seen a) (seen b))
  sum_tells {t} {a} {b} o =
      subst (Tells w t) (ap₂ ◌||◌ (words-seen 0 a b) (ap₂ ◌&&◌ (sum_test a) (sum_test b))) (
        λ e. let facts = sum_facts w o e in ap₂ ◌||◌ (ap₂ ◌||◌ facts.left facts.right) facts.sums,
        λ e. let (words, sums) = neither (is 0 a || is 0 b) (is_sum a && is_sum b) e in
            let none = neither (is 0 a) (is 0 b) words in
            sum-stays w o (record { sums = sums; right = none.1; left = none.0 }),
      )

  sum_named : {t a b : Folded} → PlusOrMinus t a b → (is_sum a && is_sum b) ≡ false → Chain a → Chain b
      → Named t (cond (eqb (kind_of a) 2 && eqb (kind_of b) 2) 5 4)
  unfolding kind_of
  sum_named o none (a_constant c) (a_constant d) = absurd (true≢false none)
  sum_named o none (a_constant c) (as_a_sum g) = absurd (true≢false none)
  sum_named o none (a_constant c) (a_product g) = against_product (on_the_right (added o) refl refl)
  sum_named o none (as_a_sum f) (a_constant d) = absurd (true≢false none)
  sum_named o none (as_a_sum f) (as_a_sum g) = absurd (true≢false none)
  sum_named o none (as_a_sum f) (a_product g) = against_product (on_the_right (added o) refl refl)
  sum_named o none (a_product f) (a_constant d) = against_product (on_the_left (added o) refl refl)
  sum_named o none (a_product f) (as_a_sum g) = against_product (on_the_left (added o) refl refl)
  sum_named o none (a_product f) (a_product g) = two_products (of_both o refl refl)

  sum_decided : {t a b : Folded} → PlusOrMinus t a b → Reason w t (sum_number (seen a) (seen b))
  sum_decided {t} {a} {b} o =
      reason_judged (sum_folds (seen a) (seen b)) (sum_tells o)
      (λ e. by_operands (Named t) a b (λ l. operand-stays (left-stays (added o) l)) (λ r. operand-stays (right-stays (added o) r))
      (sum_named o (sum_facts w o e).sums))

-- ---- *
-- One operand is an operator, and neither is 1 or 0.
module _ (a b : Folded) (ones : (is 1 a || is 1 b) ≡ false) (zeros : (is 0 a || is 0 b) ≡ false) where
  left_apart : is_operator a ≡ true → Unmultiplied a b
  left_apart e =
      let none = no_chain a e in
      record {
        worked = left-none (is_constant a) (is_constant b) none.0;
        left_one = (neither (is 1 a) (is 1 b) ones).0;
        right_one = (neither (is 1 a) (is 1 b) ones).1;
        zeros = zeros;
        left_scales = left-none (is_constant a) (is_sum_chain b) none.0;
        right_scales = left-none (is_sum_chain a) (is_constant b) none.1;
        left-first = left-none (is_constant a) (is_product_chain b) none.0;
        right-first = left-none (is_product_chain a) (is_constant b) none.2;
        products = left-none (is_product_chain a) (is_product_chain b) none.2;
        sums = left-none (is_sum_chain a && is_sum_chain b) _ (left-none (is_sum_chain a) (is_sum_chain b) none.1);
      }

  right_apart : is_operator b ≡ true → Unmultiplied a b
  right_apart e =
      let none = no_chain b e in
      record {
        worked = right-none (is_constant a) (is_constant b) none.0;
        left_one = (neither (is 1 a) (is 1 b) ones).0;
        right_one = (neither (is 1 a) (is 1 b) ones).1;
        zeros = zeros;
        left_scales = right-none (is_constant a) (is_sum_chain b) none.1;
        right_scales = right-none (is_sum_chain a) (is_constant b) none.0;
        left-first = right-none (is_constant a) (is_product_chain b) none.2;
        right-first = right-none (is_product_chain a) (is_constant b) none.0;
        products = right-none (is_product_chain a) (is_product_chain b) none.2;
        sums = left-none (is_sum_chain a && is_sum_chain b) _ (right-none (is_sum_chain a) (is_sum_chain b) none.1);
      }

module _ (w : ℕ) (s : Spans) where
  -- Two constants or chains that stay: what tells it, and why.
  abbrev chains_fold : Folded → Folded → Bool
  chains_fold a b = cond (eqb (kind_of a) (kind_of b)) (alike_folds (seen a) (seen b)) (eqb (kind_of a) 0 || eqb (kind_of b) 0)

  chain_products_stay : {a b : Folded} → Unmultiplied a b → Chain a → Chain b
      → (chains_fold a b ≡ false) × Named (product_row s a b) (cond (eqb (kind_of a) 1 && eqb (kind_of b) 1) 2 4)
  unfolding kind_of
  chain_products_stay h (a_constant c) (a_constant d) = absurd (true≢false h.worked)
  chain_products_stay h (a_constant c) (as_a_sum g) = absurd (true≢false h.left_scales)
  chain_products_stay h (a_constant c) (a_product g) = absurd (true≢false h.left-first)
  chain_products_stay h (as_a_sum f) (a_constant d) = absurd (true≢false h.right_scales)
  chain_products_stay h (as_a_sum f) (as_a_sum g) = (h.sums, lengths-add (of_chains s _ _ refl refl (leb-false _ 16 h.sums)))
  chain_products_stay h (as_a_sum f) (a_product g) = (refl, against_product (on_the_right (times s _ _) refl refl))
  chain_products_stay h (a_product f) (a_constant d) = absurd (true≢false h.right-first)
  chain_products_stay h (a_product f) (as_a_sum g) = (refl, against_product (on_the_left (times s _ _) refl refl))
  chain_products_stay h (a_product f) (a_product g) = absurd (true≢false h.products)

  chain_products_kept : {a b : Folded} → Chain a → Chain b → chains_fold a b ≡ false → Stays w (product_row s a b)
  unfolding kind_of folded_again fold_product
  chain_products_kept (a_constant c) (a_constant d) e = absurd (true≢false e)
  chain_products_kept (a_constant c) (as_a_sum g) e = absurd (true≢false e)
  chain_products_kept (a_constant c) (a_product g) e = absurd (true≢false e)
  chain_products_kept (as_a_sum f) (a_constant d) e = absurd (true≢false e)
  chain_products_kept (as_a_sum f) (as_a_sum g) e = passed (leb (length_of (sum_chain f) + length_of (sum_chain g)) 16) _ e refl
  chain_products_kept (as_a_sum f) (a_product g) e = refl
  chain_products_kept (a_product f) (a_constant d) e = absurd (true≢false e)
  chain_products_kept (a_product f) (as_a_sum g) e = refl
  chain_products_kept (a_product f) (a_product g) e = absurd (true≢false e)

  module _ (a b : Folded) where
    abbrev operands_fold : Bool
    operands_fold = cond (has_operator (seen a) (seen b)) false (chains_fold a b)

    operands_stay : Unmultiplied a b → operands_fold ≡ false
    operands_stay h = by_operands (λ t. t ≡ false) a b (λ _. refl) (λ _. refl) (λ A B. (chain_products_stay h A B).0)

    operands-kept : (is 1 a || is 1 b) ≡ false → (is 0 a || is 0 b) ≡ false → operands_fold ≡ false → Stays w (product_row s a b)
    operands-kept ones zeros =
        by_operands (λ t. t ≡ false → Stays w (product_row s a b)) a b (λ l _. product-stays w s a b (left_apart a b ones zeros l))
        (λ r _. product-stays w s a b (right_apart a b ones zeros r)) chain_products_kept

    product_tells : Tells w (product_row s a b) (product_folds (seen a) (seen b))
    product_tells =
        subst (Tells w (product_row s a b)) (ap₂ (λ t u. t || (u || operands_fold)) (words-seen 1 a b) (words-seen 0 a b)) (
          λ e. let h = product_facts w s a b e in ap₂ ◌||◌ (ap₂ ◌||◌ h.left_one h.right_one) (ap₂ ◌||◌ h.zeros (operands_stay h)),
          λ e. let (ones, others) = neither (is 1 a || is 1 b) ((is 0 a || is 0 b) || operands_fold) e in
              let (zeros, apart) = neither (is 0 a || is 0 b) operands_fold others in
              operands-kept ones zeros apart,
        )

    product_decided : Reason w (product_row s a b) (product_number (seen a) (seen b))
    product_decided =
        reason_judged (product_folds (seen a) (seen b)) product_tells
        (λ e. by_operands (Named (product_row s a b)) a b
        (λ l. operand-stays (left-stays (times s a b) l)) (λ r. operand-stays (right-stays (times s a b) r))
        (λ A B. (chain_products_stay (product_facts w s a b e) A B).1))

-- ---- minus, literal power and raise
-- What holds where the operand is an operator, and where it is a constant or a chain, holds.
by_operand : {A : Type 0} (P : A → Type 0) (a : Folded) {x y : A} → (is_operator a ≡ true → P x) → (Chain a → P y) → P (cond (operates (seen a)) x y)
by_operand P a operator chain =
    picked P (operates (seen a)) (λ e. operator (operator-seen a ∙ e)) (λ e. chain (chain-operand a (operator-seen a ∙ e)))

module _ (w : ℕ) (s : Span) where
  minus_decided : (a : Folded) → Reason w (minus_row s a) (minus_number (seen a))
  minus_decided a =
      reason_judged (minus_folds (seen a))
      (subst (λ t. Tells w (minus_row s a) (not t)) (operator-seen a) (
        λ e. ap not (minus_facts w s a e),
        λ e. minus-stays w s a (not-false (is_operator a) e),
      ))
      (λ e. operand-stays (under-minus s a (minus_facts w s a e)))

  module _ (n : ℕ) (some : 2 ≤ n) where
    -- A constant or a chain that stays: what tells it, and why.
    abbrev chain_folds : Folded → Bool
    chain_folds a = cond (eqb (kind_of a) 1) (leb (length_of a * n) 16) true

    chain-power-stays : {a : Folded} → Stays w (power_row s a n) → Chain a → (chain_folds a ≡ false) × Named (power_row s a n) 3
    unfolding kind_of
    chain-power-stays e (a_constant c) = absurd (true≢false (power_facts w s _ n some e).0)
    chain-power-stays e (as_a_sum f) =
        let long = (power_facts w s _ n some e).1 in
        (long, length-times (of_chain s _ n refl (leb-false _ 16 long)))
    chain-power-stays e (a_product f) = absurd (true≢false (power_facts w s _ n some e).2)

    chain-power-kept : {a : Folded} → Chain a → chain_folds a ≡ false → Stays w (power_row s a n)
    unfolding kind_of
    chain-power-kept (a_constant c) e = absurd (true≢false e)
    chain-power-kept (as_a_sum f) e = power-stays w s (sum_chain f) n some refl e refl
    chain-power-kept (a_product f) e = absurd (true≢false e)

    power_decided : (a : Folded) → Reason w (power_row s a n) (power_number (seen a) n)
    power_decided a =
        reason_judged (power_folds (seen a) n) (
          λ e. by_operand (λ t. t ≡ false) a (λ _. refl) (λ A. (chain-power-stays e A).0),
          by_operand (λ t. t ≡ false → Stays w (power_row s a n)) a
              (λ operator _. let none = no_chain a operator in power-stays w s a n some none.0 (left-none (is_sum_chain a) _ none.1) none.2)
              chain-power-kept,
        ) (λ e. by_operand (Named (power_row s a n)) a (λ operator. operand-stays (under-power s a n operator)) (λ A. (chain-power-stays e A).1))

raise_decided : (w : ℕ) (s : Spans) (c : ℕ) (b : Folded) → Reason w (raise_row s (constant c) b) (raise_number (seen b))
raise_decided w s c b =
    reason_judged (raise_folds (seen b)) (subst (Tells w (raise_row s (constant c) b)) (sum_test b) (raise_facts w s c b, raise-stays w s c b))
    (λ e. exponent-neither (of_raise s (constant c) b (raise_facts w s c b e)))

-- ---- every row of kinds 3 to 8
-- What soundness asks of its own words: "n, 2..64" of a literal power, and a "constant row" under a raise.
unfoldable pub Kept : Folded → Type 0
Kept (constant c) = Unit {0}
Kept (sum_chain f) = Unit {0}
Kept (product_chain f) = Unit {0}
Kept (sum_row s a b) = Unit {0}
Kept (difference_row s a b) = Unit {0}
Kept (product_row s a b) = Unit {0}
Kept (minus_row s a) = Unit {0}
Kept (power_row s a n) = 2 ≤ n
Kept (raise_row s a b) = is_constant a ≡ true

-- It has the reason that is worked out.
pub has_reason : (w : ℕ) (t : Folded) → is_operator t ≡ true → Kept t → Reason w t (reason_of t)
unfolding reason_of Kept
has_reason w (constant c) e k = absurd (false≢true e)
has_reason w (sum_chain f) e k = absurd (false≢true e)
has_reason w (product_chain f) e k = absurd (false≢true e)
has_reason w (sum_row s a b) e k = sum_decided w (plus s a b)
has_reason w (difference_row s a b) e k = sum_decided w (less s a b)
has_reason w (product_row s a b) e k = product_decided w s a b
has_reason w (minus_row s a) e k = minus_decided w s a
has_reason w (power_row s a n) e k = power_decided w s n k a
has_reason w (raise_row s a b) e k =
    subst (λ c. Reason w (raise_row s c b) (raise_number (seen b))) (sym ((shaped a).constantly k)) (raise_decided w s (word_of a) b)
