-- The rules of 01 for a product, merged as the code merges them: a constant is a sum chain of length 0, and a product chain of length 0.
use mathlib.Core.Path.{◌≡◌, refl, sym, ap, ap₂, ◌∙◌}
use mathlib.Core.Bool.{Bool, true, false, ◌&&◌, ◌||◌, false≢true, and-eq-true_iff}
use mathlib.Core.List.{List, [], ◌∷◌}
use Prim.Native.Nat.{ℕ, ◌+◌, ◌-◌, ◌*◌, ◌%◌, ◌^◌, ◌≤◌, ◌<◌}
use native.Mathlib.Nat.{one-mul, mul-one, mul-zero, zero-mul, mod-eq_of_lt}
use native.Mathlib.Omega.{arith}
use lib.Dec.{eqb, leb}
use lib.ListN.{length, length-map}
use borrow.Author.Tests.{eqb-true, leb-true, le-leb}
use Rattle.chain.specs.Chain.{words, trimmed, without_trailing}
use Rattle.chain.specs.SumChain.{sum_at, scaled, product}
use Rattle.chain.specs.ProductChain.{joint_product}
use Rattle.chain.proofs.SumLaws.{sum-constant, value-scaled, value-product}
use Rattle.chain.proofs.Trimming.{value-trimmed-sum, length-trimmed}
use Rattle.chain.proofs.Canonical.{same_trimmed}
use Rattle.chain.proofs.Calls.{length-product}
use Rattle.fold.specs.Folded.{Spans, Folded, constant, sum_chain, product_chain, sum_row, difference_row, product_row, minus_row, power_row, raise_row}
use Rattle.fold.specs.Folded.{is_constant, is_sum_chain, is_product_chain, elements, of_sum, trimmed_sum, trimmed_product}
use Rattle.fold.specs.Folding.{word_of, is, constants, length_of, fold_product}
use Rattle.fold.proofs.Shape.{WellFormed}
use Rattle.fold.proofs.Rules.{picked}
use Rattle.fold.proofs.Tests.{shaped, either}
use Rattle.fold.proofs.Origins.{kind_of}
use Rattle.fold.proofs.KindTests.{constant_test, sum-chain_test, product-chain_test}
use Rattle.fold_operands.proofs.OperandLaws.{chain-operand, is_the_constant, Sum, one, several, sum-operand}
use Rattle.fold_products.proofs.JointElements.{constant_joint, joint_constant}

-- ---- operands that the rules speak of
-- A constant or a product chain, by its kind.
abbrev pub is_product : Folded → Bool
is_product a = eqb (kind_of a) 0 || eqb (kind_of a) 2

data Product : Folded → Type 0 where
  single : (c : ℕ) → Product (constant c)
  multiplied : (f : List ℕ) → Product (product_chain f)

product-operand : (a : Folded) → is_product a ≡ true → Product a
unfolding kind_of
product-operand (constant c) e = single c
product-operand (sum_chain f) e = absurd (false≢true e)
product-operand (product_chain f) e = multiplied f
product-operand (sum_row t a b) e = absurd (false≢true e)
product-operand (difference_row t a b) e = absurd (false≢true e)
product-operand (product_row t a b) e = absurd (false≢true e)
product-operand (minus_row t a) e = absurd (false≢true e)
product-operand (power_row t a n) e = absurd (false≢true e)
product-operand (raise_row t a b) e = absurd (false≢true e)

-- ---- the rules of 01 that apply
-- "1*A: A", also where A is a constant.
pub one_times : (s : Spans) (b : Folded) → WellFormed 64 b → fold_product 64 s (constant 1) b ≡ b
unfolding fold_product WellFormed
one_times s (constant c) h = ap constant (ap (λ z. z % 2 ^ 64) (one-mul c) ∙ mod-eq_of_lt h)
one_times s (sum_chain f) h = refl
one_times s (product_chain f) h = refl
one_times s (sum_row t a b) h = refl
one_times s (difference_row t a b) h = refl
one_times s (product_row t a b) h = refl
one_times s (minus_row t a) h = refl
one_times s (power_row t a n) h = refl
one_times s (raise_row t a b) h = refl

pub times_one : (s : Spans) (a : Folded) → WellFormed 64 a → fold_product 64 s a (constant 1) ≡ a
unfolding fold_product WellFormed
times_one s (constant c) h = ap constant (ap (λ z. z % 2 ^ 64) (mul-one c) ∙ mod-eq_of_lt h)
times_one s (sum_chain f) h = refl
times_one s (product_chain f) h = refl
times_one s (sum_row t a b) h = refl
times_one s (difference_row t a b) h = refl
times_one s (product_row t a b) h = refl
times_one s (minus_row t a) h = refl
times_one s (power_row t a n) h = refl
times_one s (raise_row t a b) h = refl

-- "0*A, A*0: constant 0."
module _ (s : Spans) (a b : Folded) (not_one_a : is 1 a ≡ false) (not_one_b : is 1 b ≡ false) where
  pub times_zero : (is 0 a || is 0 b) ≡ true → fold_product 64 s a b ≡ constant 0
  unfolding fold_product
  times_zero e =
      picked (λ r. r ≡ constant 0) (constants a b) (λ _. ap constant nothing) (λ _. rw (not_one_a, not_one_b, e))
    where
      nothing : word_of a * word_of b % 2 ^ 64 ≡ 0
      nothing =
          either (is 0 a) (is 0 b) e
          (λ z. ap (λ x. x * word_of b % 2 ^ 64) (ap word_of (is_the_constant 0 a z)) ∙ ap (λ x. x % 2 ^ 64) (zero-mul (word_of b)))
          (λ z. ap (λ x. word_of a * x % 2 ^ 64) (ap word_of (is_the_constant 0 b z)) ∙ ap (λ x. x % 2 ^ 64) (mul-zero (word_of a)))

-- "C*S and S*C: every element", "S*S with lengths k + l at most 16: document 000's rule", and C*C: the product of the values.
module _ (e f : List ℕ) (some : 0 < length e) (some' : 0 < length f) (within : (length e - 1) + (length f - 1) ≤ 16) where
  trims : (g : List ℕ) → 0 < length g → length (trimmed 0 g) ≤ length g
  trims g h = omega (arith, length-trimmed 0 g (length g - 1) (omega arith))

  same_product : (h : List ℕ) → length h ≤ 17 → ((i : ℕ) → sum_at h i ≡ sum_at e i * sum_at f i)
      → of_sum (trimmed 0 (words 64 h)) ≡ trimmed_sum (words 64 (product (trimmed 0 e) (trimmed 0 f)))
  same_product h few same =
      ap of_sum
      (same_trimmed 64 16 h (product (trimmed 0 e) (trimmed 0 f)) few
      (omega (arith, length-product (trimmed 0 e) (trimmed 0 f) (length e) (length f - 1) (trims e some) (omega (arith, trims f some'))))
      (λ i _. ap (λ z. z % 2 ^ 64)
      (same i
      ∙ ap₂ ◌*◌ (sym (value-trimmed-sum e i)) (sym (value-trimmed-sum f i))
      ∙ sym (value-product (trimmed 0 e) (trimmed 0 f) i))))

-- What is asked of operands that are neither 0 nor 1.
pub record Plain (a b : Folded) : Type 0 where
  pub formed_a : WellFormed 64 a
  pub formed_b : WellFormed 64 b
  pub not_one_a : is 1 a ≡ false
  pub not_one_b : is 1 b ≡ false
  pub not-zero : (is 0 a || is 0 b) ≡ false

abbrev pub AsSums : Spans → Folded → Folded → Type 0
AsSums s a b =
    Plain a b → length_of a + length_of b ≤ 16
    → fold_product 64 s a b ≡ trimmed_sum (words 64 (product (trimmed 0 (elements a)) (trimmed 0 (elements b))))

constant-constant : (s : Spans) (c d : ℕ) → AsSums s (constant c) (constant d)
unfolding fold_product trimmed without_trailing
constant-constant s c d h within =
    same_product (c ∷ []) (d ∷ []) (omega arith) (omega arith) within ((c * d) ∷ []) (omega arith)
    (λ i. sum-constant (c * d) i ∙ sym (ap₂ ◌*◌ (sum-constant c i) (sum-constant d i)))

constant-sum : (s : Spans) (c : ℕ) (f : List ℕ) → AsSums s (constant c) (sum_chain f)
unfolding fold_product WellFormed
constant-sum s c f h within =
    rw (h.not_one_a, h.not-zero)
    (same_product (c ∷ []) f (omega arith) (omega (arith, h.formed_b.least)) within (scaled c f)
    (rw (length-map f (λ x. c * x)) h.formed_b.most)
    (λ i. value-scaled c f i ∙ ap (λ z. z * sum_at f i) (sym (sum-constant c i))))

sum-times-constant : (s : Spans) (f : List ℕ) (d : ℕ) → AsSums s (sum_chain f) (constant d)
unfolding fold_product WellFormed
sum-times-constant s f d h within =
    rw (h.not_one_b, h.not-zero)
    (same_product f (d ∷ []) (omega (arith, h.formed_a.least)) (omega arith) within (scaled d f)
    (rw (length-map f (λ x. d * x)) h.formed_a.most)
    (λ i. value-scaled d f i ∙ swap d (sum_at f i) ∙ ap (λ z. sum_at f i * z) (sym (sum-constant d i))))
  where
    swap : (x y : ℕ) → x * y ≡ y * x
    swap x y = omega arith

sum-sum : (s : Spans) (f g : List ℕ) → AsSums s (sum_chain f) (sum_chain g)
unfolding fold_product WellFormed
sum-sum s f g h within =
    rw (le-leb (length f - 1 + (length g - 1)) 16 within)
    (same_product f g (omega (arith, h.formed_a.least)) (omega (arith, h.formed_b.least)) within (product f g)
    (omega (arith, within, length-product f g (length f) (length g - 1) (omega arith) (omega arith), h.formed_a.least, h.formed_b.least))
    (λ i. value-product f g i))

pub as_sums : (s : Spans) (a b : Folded) → kind_of a < 2 → kind_of b < 2 → AsSums s a b
as_sums s a b p q = go (sum-operand a p) (sum-operand b q)
  where
    go : {a b : Folded} → Sum a → Sum b → AsSums s a b
    go (one c) (one d) = constant-constant s c d
    go (one c) (several g) = constant-sum s c g
    go (several f) (one d) = sum-times-constant s f d
    go (several f) (several g) = sum-sum s f g

-- "C*P and P*C: f0 only. P*P: element by element, filled with ones."
abbrev pub AsProducts : Spans → Folded → Folded → Type 0
AsProducts s a b =
    Plain a b → (kind_of a < 2 → kind_of b < 2 → length_of a + length_of b ≤ 16 → ⊥)
    → fold_product 64 s a b ≡ trimmed_product (words 64 (joint_product (elements a) (elements b)))

two_constants : (s : Spans) (c d : ℕ) → AsProducts s (constant c) (constant d)
unfolding kind_of
two_constants s c d h other = absurd (other (omega arith) (omega arith) (omega arith))

constant-product : (s : Spans) (c : ℕ) (f : List ℕ) → AsProducts s (constant c) (product_chain f)
unfolding fold_product
constant-product s c f h other =
    rw (h.not_one_a, h.not-zero) (ap (λ g. trimmed_product (words 64 g)) (constant_joint c f))

product-times-constant : (s : Spans) (f : List ℕ) (d : ℕ) → AsProducts s (product_chain f) (constant d)
unfolding fold_product
product-times-constant s f d h other =
    rw (h.not_one_b, h.not-zero) (ap (λ g. trimmed_product (words 64 g)) (joint_constant d f))

product-product : (s : Spans) (f g : List ℕ) → AsProducts s (product_chain f) (product_chain g)
unfolding fold_product
product-product s f g h other = refl

pub as_products : (s : Spans) (a b : Folded) → is_product a ≡ true → is_product b ≡ true → AsProducts s a b
as_products s a b p q = go (product-operand a p) (product-operand b q)
  where
    go : {a b : Folded} → Product a → Product b → AsProducts s a b
    go (single c) (single d) = two_constants s c d
    go (single c) (multiplied g) = constant-product s c g
    go (multiplied f) (single d) = product-times-constant s f d
    go (multiplied f) (multiplied g) = product-product s f g

-- "Anything else stays a row of the plan."
not-both : (s t : Bool) → (s ≡ true → t ≡ true → ⊥) → (s && t) ≡ false
not-both true true other = absurd (other refl refl)
not-both true false other = refl
not-both false t other = refl

pub as_row : (s : Spans) (a b : Folded) → Plain a b → (kind_of a < 2 → kind_of b < 2 → length_of a + length_of b ≤ 16 → ⊥)
    → (is_product a ≡ true → is_product b ≡ true → ⊥)
    → fold_product 64 s a b ≡ product_row s a b
unfolding fold_product
as_row s a b h no-sums no-products =
    rw (
      none_of is_constant is_constant (λ p q. no-products (zero-kind a p) (zero-kind b q)),
      h.not_one_a,
      h.not_one_b,
      h.not-zero,
      none_of is_constant is_sum_chain (λ p q. no-sums (few-constant a p) (few-sum b q) (alone a b h.formed_b p q)),
      none_of is_sum_chain is_constant (λ p q. no-sums (few-sum a p) (few-constant b q) (swapped (alone b a h.formed_a q p))),
      none_of is_constant is_product_chain (λ p q. no-products (zero-kind a p) (two_kind b q)),
      none_of is_product_chain is_constant (λ p q. no-products (two_kind a p) (zero-kind b q)),
      none_of is_product_chain is_product_chain (λ p q. no-products (two_kind a p) (two_kind b q)),
      long_sums,
    )
  where
    none_of : (x y : Folded → Bool) → (x a ≡ true → y b ≡ true → ⊥) → (x a && y b) ≡ false
    none_of x y other = not-both (x a) (y b) other

    kind-zero : (c : Folded) → is_constant c ≡ true → kind_of c ≡ 0
    kind-zero c e = eqb-true (kind_of c) 0 (sym (constant_test c) ∙ e)

    kind_one : (c : Folded) → is_sum_chain c ≡ true → kind_of c ≡ 1
    kind_one c e = eqb-true (kind_of c) 1 (sym (sum-chain_test c) ∙ e)

    few-constant : (c : Folded) → is_constant c ≡ true → kind_of c < 2
    few-constant c e = omega (arith, kind-zero c e)

    few-sum : (c : Folded) → is_sum_chain c ≡ true → kind_of c < 2
    few-sum c e = omega (arith, kind_one c e)

    zero-kind : (c : Folded) → is_constant c ≡ true → is_product c ≡ true
    zero-kind c e = ap (λ k. eqb k 0 || eqb k 2) (kind-zero c e)

    two_kind : (c : Folded) → is_product_chain c ≡ true → is_product c ≡ true
    two_kind c e = ap (λ k. eqb k 0 || eqb k 2) (eqb-true (kind_of c) 2 (sym (product-chain_test c) ∙ e))

    alone : (c d : Folded) → WellFormed 64 d → is_constant c ≡ true → is_sum_chain d ≡ true → length_of c + length_of d ≤ 16
    alone c d k e s = omega (arith, (chain-operand d (omega (arith, kind_one d s)) k).most, ap length_of ((shaped c).constantly e))

    swapped : length_of b + length_of a ≤ 16 → length_of a + length_of b ≤ 16
    swapped k = omega arith

    long_sums : (is_sum_chain a && is_sum_chain b && leb (length_of a + length_of b) 16) ≡ false
    long_sums =
        not-both (is_sum_chain a && is_sum_chain b) (leb (length_of a + length_of b) 16)
        (λ e k. let (p, q) = (and-eq-true_iff (is_sum_chain a) (is_sum_chain b)).0 e in no-sums (few-sum a p) (few-sum b q) (leb-true _ _ k))
