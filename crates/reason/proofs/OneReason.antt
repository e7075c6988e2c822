-- A row has no two reasons: the last is judged first, and the others exclude each other by the operator and the kinds of its operands.
use mathlib.Core.Path.{◌≡◌, refl, sym, ap, ap₂, subst, ◌∙◌}
use mathlib.Core.Bool.{Bool, true, false, cond, ◌&&◌, ◌||◌, or-true}
use mathlib.Core.Logic.{◌↔◌}
use Prim.Native.Nat.{ℕ, ◌≤◌}
use native.Mathlib.Omega.{arith}
use lib.Dec.{eqb}
use Rattle.fold.specs.Folded.{Folded, is_constant, is_sum_chain, is_product_chain}
use Rattle.fold.specs.Folding.{is_sum}
use Rattle.fold.proofs.Tests.{either, shaped}
use Rattle.fold.proofs.Origins.{kind_of}
use Rattle.fold.proofs.KindTests.{sum-chain_test, product-chain_test}
use Rattle.reason.specs.Reasons.{Stays, Folds, PlusOrMinus, plus, less, OfTwo, added, times, is_operator}
use Rattle.reason.specs.Reasons.{left-stays, right-stays, under-minus, under-power, of_chains, of_chain}
use Rattle.reason.specs.Reasons.{on_the_right, on_the_left, of_both, of_raise}
use Rattle.reason.specs.Reasons.{Named, operand-stays, lengths-add, length-times, against_product, two_products, exponent-neither}
use Rattle.reason.specs.Reasons.{Reason, would_fold, stays}
use Rattle.reason.proofs.Operands.{left-none, right-none}
use Rattle.reason.proofs.Numbers.{seen, operator-seen, joined_number, other_of}

-- What the tests in the reasons say of an operand beside.
module _ (a : Folded) where
  sum-chain-is : is_sum_chain a ≡ true → is_operator a ≡ false
  sum-chain-is e = subst (λ c. is_operator c ≡ false) (sym ((shaped a).summed e)) refl

  sum_is : is_sum a ≡ true → (is_operator a ≡ false) × (is_product_chain a ≡ false)
  sum_is e =
      either (is_constant a) (is_sum_chain a) e
      (λ t. subst (λ c. (is_operator c ≡ false) × (is_product_chain c ≡ false)) (sym ((shaped a).constantly t)) (refl, refl))
      (λ t. subst (λ c. (is_operator c ≡ false) × (is_product_chain c ≡ false)) (sym ((shaped a).summed t)) (refl, refl))

  product_is : is_product_chain a ≡ true → (is_operator a ≡ false) × (is_sum_chain a ≡ false)
  product_is e = subst (λ c. (is_operator c ≡ false) × (is_sum_chain c ≡ false)) (sym ((shaped a).multiplied e)) (refl, refl)

-- The number of + - and *, by what the tests say; k is the kind of which both operands would be, and n their number.
module _ (k n : ℕ) (a b : Folded) where
  operator-joined : (is_operator a || is_operator b) ≡ true → 1 ≡ joined_number k n (seen a) (seen b)
  operator-joined e = sym (ap (λ t. cond t 1 (cond (eqb (kind_of a) k && eqb (kind_of b) k) n 4)) (sym (ap₂ ◌||◌ (operator-seen a) (operator-seen b)) ∙ e))

  module _ (left : is_operator a ≡ false) (right : is_operator b ≡ false) where
    chains_joined : (t : Bool) → (eqb (kind_of a) k && eqb (kind_of b) k) ≡ t → joined_number k n (seen a) (seen b) ≡ cond t n 4
    chains_joined t e = ap₂ (λ t u. cond t 1 (cond u n 4)) (ap₂ ◌||◌ (sym (operator-seen a) ∙ left) (sym (operator-seen b) ∙ right)) e

-- Both operands are product chains, or sum chains.
products_seen : (a b : Folded) {t : Bool} → (is_product_chain a && is_product_chain b) ≡ t → (eqb (kind_of a) 2 && eqb (kind_of b) 2) ≡ t
products_seen a b e = sym (ap₂ ◌&&◌ (product-chain_test a) (product-chain_test b)) ∙ e

sums_seen : (a b : Folded) {t : Bool} → (is_sum_chain a && is_sum_chain b) ≡ t → (eqb (kind_of a) 1 && eqb (kind_of b) 1) ≡ t
sums_seen a b e = sym (ap₂ ◌&&◌ (sum-chain_test a) (sum-chain_test b)) ∙ e

-- The same of a row.
operator_other : {t a b : Folded} → OfTwo t a b → (is_operator a || is_operator b) ≡ true → 1 ≡ other_of t
unfolding other_of
operator_other (added (plus s a b)) = operator-joined 2 5 a b
operator_other (added (less s a b)) = operator-joined 2 5 a b
operator_other (times s a b) = operator-joined 1 2 a b

against_other : {t a b : Folded} → OfTwo t a b → is_operator a ≡ false → is_operator b ≡ false
    → (is_product_chain a && is_product_chain b) ≡ false → (is_sum_chain a && is_sum_chain b) ≡ false → 4 ≡ other_of t
unfolding other_of
against_other (added (plus s a b)) p q products sums = sym (chains_joined 2 5 a b p q false (products_seen a b products))
against_other (added (less s a b)) p q products sums = sym (chains_joined 2 5 a b p q false (products_seen a b products))
against_other (times s a b) p q products sums = sym (chains_joined 1 2 a b p q false (sums_seen a b sums))

products_other : {t a b : Folded} → PlusOrMinus t a b → is_operator a ≡ false → is_operator b ≡ false
    → (is_product_chain a && is_product_chain b) ≡ true → 5 ≡ other_of t
unfolding other_of
products_other (plus s a b) p q products = sym (chains_joined 2 5 a b p q true (products_seen a b products))
products_other (less s a b) p q products = sym (chains_joined 2 5 a b p q true (products_seen a b products))

other_is : {t : Folded} {n : ℕ} → Named t n → n ≡ other_of t
unfolding other_of
other_is (operand-stays (left-stays {a} {b} o e)) = operator_other o (ap (λ t. t || is_operator b) e)
other_is (operand-stays (right-stays {a} {b} o e)) = operator_other o (ap (λ t. is_operator a || t) e ∙ or-true (is_operator a))
other_is (operand-stays (under-minus s a e)) = refl
other_is (operand-stays (under-power s a n e)) = sym (ap (λ t. cond t 1 3) (sym (operator-seen a) ∙ e))
other_is (lengths-add (of_chains s a b p q over)) =
    sym (chains_joined 1 2 a b (sum-chain-is a p) (sum-chain-is b q) true (sums_seen a b (ap₂ ◌&&◌ p q)))
other_is (length-times (of_chain s a n p over)) = sym (ap (λ t. cond t 1 3) (sym (operator-seen a) ∙ sum-chain-is a p))
other_is (against_product (on_the_right {a} {b} o p q)) =
    against_other o (sum_is a p).0 (product_is b q).0 (left-none (is_product_chain a) (is_product_chain b) (sum_is a p).1)
    (right-none (is_sum_chain a) (is_sum_chain b) (product_is b q).1)
other_is (against_product (on_the_left {a} {b} o p q)) =
    against_other o (product_is a p).0 (sum_is b q).0 (right-none (is_product_chain a) (is_product_chain b) (sum_is b q).1)
    (left-none (is_sum_chain a) (is_sum_chain b) (product_is a p).1)
other_is (two_products (of_both {a} {b} o p q)) = products_other o (product_is a p).0 (product_is b q).0 (ap₂ ◌&&◌ p q)
other_is (exponent-neither (of_raise s a b p)) = refl

-- A row has one reason.
pub one_reason : {w : ℕ} {t : Folded} {n m : ℕ} → Reason w t n → Reason w t m → n ≡ m
one_reason (would_fold h) (would_fold k) = refl
one_reason (would_fold h) (stays s x) = absurd (h s)
one_reason (stays s x) (would_fold h) = absurd (h s)
one_reason (stays s x) (stays r y) = other_is x ∙ sym (other_is y)

-- The first six reasons have the numbers 1 to 6, and 7 is given exactly when 01 folds the row.
named_most : {t : Folded} {n : ℕ} → Named t n → (1 ≤ n) × (n ≤ 6)
named_most (operand-stays x) = (omega arith, omega arith)
named_most (lengths-add x) = (omega arith, omega arith)
named_most (length-times x) = (omega arith, omega arith)
named_most (against_product x) = (omega arith, omega arith)
named_most (two_products x) = (omega arith, omega arith)
named_most (exponent-neither x) = (omega arith, omega arith)

pub reason_known : {w : ℕ} {t : Folded} {n : ℕ} → Reason w t n → (1 ≤ n) × (n ≤ 7)
reason_known (would_fold h) = (omega arith, omega arith)
reason_known (stays s x) = ((named_most x).0, omega (arith, named_most x))

pub only_folding : {w : ℕ} {t : Folded} {n : ℕ} → Reason w t n → n ≡ 7 → Folds w t
only_folding (would_fold h) e = h
only_folding (stays s x) e = absurd (omega (arith, named_most x))

pub only_named : {w : ℕ} {t : Folded} {n : ℕ} → Reason w t n → (n ≡ 7 → ⊥) → Stays w t × Named t n
only_named (would_fold h) other = absurd (other refl)
only_named (stays s x) other = (s, x)

pub seven_exactly : (w : ℕ) (t : Folded) → Reason w t 7 ↔ Folds w t
seven_exactly w t = (λ reason. only_folding reason refl, would_fold)
