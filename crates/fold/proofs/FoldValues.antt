-- Folding changes no value: each operator's rules keep it, at every index, and so the folded tree of a formula has its direct value.
use mathlib.Core.Path.{◌≡◌, refl, sym, ap, ap₂, subst, ◌∙◌}
use mathlib.Core.Bool.{true, false, ◌&&◌, ◌||◌, false≢true, and-eq-true_iff}
use mathlib.Core.List.{List, [], ◌∷◌, map}
use Prim.Native.Nat.{ℕ, zero, suc, ◌+◌, ◌-◌, ◌*◌, ◌%◌, ◌^◌, ◌<◌}
use native.Mathlib.Nat.{mod-mod, mod-add-mod, add-mod-mod, add-zero, zero-add, one-mul, mul-one, zero-mul, mul-zero, mul_comm}
use native.Mathlib.Nat.{pow-zero, pow-suc, not-suc-le-zero}
use native.Mathlib.Omega.{arith}
use lib.Dec.{eqb, leb}
use lib.ListN.{length}
use borrow.Author.Tests.{eqb-true}
use Rattle.word.specs.Word as Word
use Rattle.word.proofs.Modulo.{mod-mul-mod, mul-mod-mod, pow-mod}
use Rattle.word.proofs.Ring as Ring
use Rattle.word.proofs.OddBase.{odd_base}
use Rattle.chain.specs.Chain.{value, rest, words, joined, trimmed}
use Rattle.chain.specs.SumChain.{sum_at}
use Rattle.chain.specs.SumChain as SumChain
use Rattle.chain.specs.ProductChain.{product_at}
use Rattle.chain.specs.ProductChain as ProductChain
use Rattle.chain.proofs.Values as Values
use Rattle.chain.proofs.Trimming.{value-trimmed-sum, value-trimmed-product}
use Rattle.chain.proofs.SumLaws as SumLaws
use Rattle.chain.proofs.ProductLaws as ProductLaws
use Rattle.formula.specs.Tree as Tree
use Rattle.formula.specs.Tree.{Span, Tree}
use Rattle.formula.specs.Value.{value_for, direct_value}
use Rattle.formula.specs.Refusals.{Part, sum_left, sum-right, difference-left, difference-right, product-left, product-right}
use Rattle.formula.specs.Refusals.{under-minus, under-power, in_base, in_exponent}
use Rattle.fold.specs.Folded.{Spans, Folded, constant, sum_chain, product_chain, sum_row, difference_row, product_row, minus_row, power_row, raise_row}
use Rattle.fold.specs.Folded.{is_constant, is_sum_chain, is_product_chain, elements, of_sum, of_product, trimmed_sum, trimmed_product, value_at}
use Rattle.fold.specs.Folding.{word_of, is, constants, is_sum, length_of, fold_sum, fold_minus, fold_difference, fold_product, fold_power, fold_raise, fold}
use Rattle.fold.proofs.Shape.{OddBase}
use Rattle.fold.proofs.Tests.{either, shaped}
use Rattle.fold.proofs.Rules.{sum-rules, minus-rules, difference-rules, product-rules, power-rules, raise-rules, fold_each}
use Rattle.fold.proofs.FoldShape.{fold_base}

-- ---- trimming
value_of_sum : (w : ℕ) (f : List ℕ) (i : ℕ) → value_at w (of_sum f) i ≡ Word.word w (sum_at f i)
unfolding value_at
value_of_sum w [] i = ap (Word.word w) (sym (SumLaws.sum-none i))
value_of_sum w (a ∷ []) i = ap (Word.word w) (sym (SumLaws.sum-constant a i))
value_of_sum w (a ∷ b ∷ f) i = refl

value_of_product : (w : ℕ) (f : List ℕ) (i : ℕ) → value_at w (of_product f) i ≡ Word.word w (product_at f i)
unfolding value_at
value_of_product w [] i = ap (Word.word w) (sym (Values.value_none ◌*◌ 1 mul-one i))
value_of_product w (a ∷ []) i = ap (Word.word w) (sym (Values.value-constant ◌*◌ 1 mul-one a i))
value_of_product w (a ∷ b ∷ f) i = refl

trimmed-sum-value : (w : ℕ) (f : List ℕ) (i : ℕ) → value_at w (trimmed_sum f) i ≡ Word.word w (sum_at f i)
trimmed-sum-value w f i = value_of_sum w _ i ∙ ap (Word.word w) (value-trimmed-sum f i)

trimmed-product-value : (w : ℕ) (f : List ℕ) (i : ℕ) → value_at w (trimmed_product f) i ≡ Word.word w (product_at f i)
trimmed-product-value w f i = value_of_product w _ i ∙ ap (Word.word w) (value-trimmed-product f i)

-- Chains of words.
summed_value : (w : ℕ) (f : List ℕ) (i : ℕ) → value_at w (trimmed_sum (words w f)) i ≡ Word.word w (sum_at f i)
summed_value w f i = trimmed-sum-value w (words w f) i ∙ SumLaws.value-words w f i

multiplied_value : (w : ℕ) (f : List ℕ) (i : ℕ) → value_at w (trimmed_product (words w f)) i ≡ Word.word w (product_at f i)
multiplied_value w f i = trimmed-product-value w (words w f) i ∙ ProductLaws.value-product-words w f i

-- ---- the values of operands
-- Every value is a word.
value-word : (w : ℕ) (a : Folded) (i : ℕ) → Word.word w (value_at w a i) ≡ value_at w a i
unfolding value_at
value-word w (constant c) i = mod-mod _ (2 ^ w)
value-word w (sum_chain f) i = mod-mod _ (2 ^ w)
value-word w (product_chain f) i = mod-mod _ (2 ^ w)
value-word w (sum_row s a b) i = mod-mod _ (2 ^ w)
value-word w (difference_row s a b) i = mod-mod _ (2 ^ w)
value-word w (product_row s a b) i = mod-mod _ (2 ^ w)
value-word w (minus_row s a) i = mod-mod _ (2 ^ w)
value-word w (power_row s a n) i = mod-mod _ (2 ^ w)
value-word w (raise_row s a b) i = mod-mod _ (2 ^ w)

-- The value of an operand that passes a test.
module _ (w : ℕ) (a : Folded) (i : ℕ) where
  constant-value : is_constant a ≡ true → value_at w a i ≡ Word.word w (word_of a)
  unfolding value_at
  constant-value e = ap (λ c. value_at w c i) ((shaped a).constantly e)

  product-chain-value : is_product_chain a ≡ true → value_at w a i ≡ Word.word w (product_at (elements a) i)
  unfolding value_at
  product-chain-value e = ap (λ c. value_at w c i) ((shaped a).multiplied e)

  sum-chain-value : is_sum_chain a ≡ true → value_at w a i ≡ Word.word w (sum_at (elements a) i)
  unfolding value_at
  sum-chain-value e = ap (λ c. value_at w c i) ((shaped a).summed e)

  pub sum-value : is_sum a ≡ true → value_at w a i ≡ Word.word w (sum_at (elements a) i)
  unfolding value_at
  sum-value e =
      either (is_constant a) (is_sum_chain a) e
      (λ c. subst (λ b. value_at w b i ≡ Word.word w (sum_at (elements b) i)) (sym ((shaped a).constantly c))
      (ap (Word.word w) (sym (SumLaws.sum-constant (word_of a) i))))
      sum-chain-value

  is-value : (n : ℕ) → is n a ≡ true → value_at w a i ≡ Word.word w n
  is-value n e =
      let (c, same) = (and-eq-true_iff (is_constant a) (eqb (word_of a) n)).0 e in
      constant-value c ∙ ap (Word.word w) (eqb-true (word_of a) n same)

-- ---- an operation on words may be worked out on whole numbers
module _ (w : ℕ) {u v : ℕ} (x y : ℕ) (p : u ≡ Word.word w x) (q : v ≡ Word.word w y) where
  sum-word : Word.word w (x + y) ≡ Word.sum w u v
  sum-word = rw (p, q, mod-add-mod, add-mod-mod)

  difference-word : Word.difference w x y ≡ Word.difference w u v
  difference-word = rw (p, q, mod-add-mod, mod-mod)

  product-word : Word.word w (x * y) ≡ Word.product w u v
  product-word = rw (p, q, mod-mul-mod, mul-mod-mod)

  raise-word : x % 2 ≡ 1 → Word.power w x y ≡ Word.power w u v
  raise-word odd = rw (p, q, pow-mod) (sym (odd_base w x y odd))

module _ (w : ℕ) {u : ℕ} (x : ℕ) (p : u ≡ Word.word w x) where
  negation-word : Word.negation w x ≡ Word.negation w u
  negation-word = rw (p, mod-mod)

  power-word : (n : ℕ) → Word.power w x n ≡ Word.power w u n
  power-word n = rw (p, pow-mod)

difference-zero : (w a : ℕ) → Word.difference w a 0 ≡ Word.word w a
difference-zero w a =
    sym (mod-mod _ (2 ^ w)) ∙ sym (Ring.sum-zero w (Word.difference w a 0)) ∙ Ring.difference-sum w a 0

pow_one : (b : ℕ) → b ^ 1 ≡ b
pow_one b = rw (pow-suc b 0, pow-zero b) (omega arith)

-- ---- minus a product chain
product-first-word : (w a : ℕ) (f : List ℕ) (i : ℕ) → Word.word w (product_at (Word.word w a ∷ f) i) ≡ Word.word w (product_at (a ∷ f) i)
product-first-word w a f i =
    sym (ProductLaws.value-product-words w (Word.word w a ∷ f) i)
    ∙ ap (λ b. Word.word w (product_at (b ∷ words w f) i)) (mod-mod a (2 ^ w))
    ∙ ProductLaws.value-product-words w (a ∷ f) i

minus-first-value : (w : ℕ) (f : List ℕ) (i : ℕ) → 0 < length f
    → Word.word w (product_at (Word.negation w (value 0 f) ∷ rest f) i) ≡ Word.negation w (product_at f i)
minus-first-value w [] i some = absurd (not-suc-le-zero some)
minus-first-value w (a ∷ f) i some =
    ap (λ b. Word.word w (product_at (b ∷ f) i)) (Ring.negation-product w a)
    ∙ product-first-word w ((2 ^ w - 1) * a) f i
    ∙ ap (Word.word w) (ProductLaws.value-scaled-first (2 ^ w - 1) (a ∷ f) i)
    ∙ sym (Ring.negation-product w (product_at (a ∷ f) i))

-- A product chain has a first element, which minus reads.
abbrev HasFirst : Folded → Type 0
HasFirst a = is_product_chain a ≡ true → 0 < length (elements a)

-- ---- the rules
module _ (w : ℕ) (s : Span) (a : Folded) (i : ℕ) where
  fold-minus-value : HasFirst a → value_at w (fold_minus w s a) i ≡ Word.negation w (value_at w a i)
  unfolding value_at joined
  fold-minus-value has_first = minus-rules Kept w s a worked every first refl
    where
      Kept : Folded → Type 0
      Kept r = value_at w r i ≡ Word.negation w (value_at w a i)

      worked : is_constant a ≡ true → Kept (constant (Word.negation w (word_of a)))
      worked e = mod-mod _ (2 ^ w) ∙ negation-word w (word_of a) (constant-value w a i e)

      every : is_sum_chain a ≡ true → Kept (trimmed_sum (map (λ f. Word.negation w f) (elements a)))
      every e =
          trimmed-sum-value w (map (λ f. Word.negation w f) (elements a)) i
          ∙ SumLaws.value-difference w [] (elements a) i
          ∙ ap (λ z. Word.difference w z (sum_at (elements a) i)) (SumLaws.sum-none i)
          ∙ negation-word w (sum_at (elements a) i) (sum-chain-value w a i e)

      first : is_product_chain a ≡ true → Kept (trimmed_product (Word.negation w (word_of a) ∷ rest (elements a)))
      first e =
          trimmed-product-value w (Word.negation w (word_of a) ∷ rest (elements a)) i
          ∙ minus-first-value w (elements a) i (has_first e)
          ∙ negation-word w (product_at (elements a) i) (product-chain-value w a i e)

  fold-power-value : (n : ℕ) → value_at w (fold_power w s a n) i ≡ Word.power w (value_at w a i) n
  unfolding value_at
  fold-power-value n = power-rules Kept w s a n worked none once sums each (λ some more. refl)
    where
      Kept : Folded → Type 0
      Kept r = value_at w r i ≡ Word.power w (value_at w a i) n

      worked : is_constant a ≡ true → Kept (constant (Word.power w (word_of a) n))
      worked e = mod-mod _ (2 ^ w) ∙ power-word w (word_of a) (constant-value w a i e) n

      none : eqb n 0 ≡ true → Kept (constant 1)
      none e = sym (Ring.power_zero w (value_at w a i)) ∙ ap (Word.power w (value_at w a i)) (sym (eqb-true n 0 e))

      once : eqb n 1 ≡ true → Kept a
      once e =
          sym (value-word w a i) ∙ ap (Word.word w) (sym (pow_one (value_at w a i)))
          ∙ ap (Word.power w (value_at w a i)) (sym (eqb-true n 1 e))

      sums : (is_sum_chain a && leb (length_of a * n) 16) ≡ true → Kept (trimmed_sum (words w (SumChain.power (elements a) n)))
      sums e =
          summed_value w (SumChain.power (elements a) n) i
          ∙ ap (Word.word w) (SumLaws.value-power (elements a) n i)
          ∙ power-word w (sum_at (elements a) i) (sum-chain-value w a i ((and-eq-true_iff (is_sum_chain a) _).0 e).0) n

      each : is_product_chain a ≡ true → Kept (trimmed_product (words w (ProductChain.power_of_each (elements a) n)))
      each e =
          multiplied_value w (ProductChain.power_of_each (elements a) n) i
          ∙ ap (Word.word w) (ProductLaws.value-power_of_each (elements a) n i)
          ∙ power-word w (product_at (elements a) i) (product-chain-value w a i e) n

module _ (w : ℕ) (s : Spans) (a b : Folded) (i : ℕ) where
  fold-sum-value : value_at w (fold_sum w s a b) i ≡ Word.sum w (value_at w a i) (value_at w b i)
  unfolding value_at
  fold-sum-value = sum-rules Kept w s a b worked sums right_zero left-zero refl
    where
      Kept : Folded → Type 0
      Kept r = value_at w r i ≡ Word.sum w (value_at w a i) (value_at w b i)

      worked : constants a b ≡ true → Kept (constant (Word.sum w (word_of a) (word_of b)))
      worked e =
          let (p, q) = (and-eq-true_iff (is_constant a) (is_constant b)).0 e in
          mod-mod _ (2 ^ w) ∙ sum-word w (word_of a) (word_of b) (constant-value w a i p) (constant-value w b i q)

      sums : (is_sum a && is_sum b) ≡ true → Kept (trimmed_sum (words w (SumChain.sum (elements a) (elements b))))
      sums e =
          let (p, q) = (and-eq-true_iff (is_sum a) (is_sum b)).0 e in
          summed_value w (SumChain.sum (elements a) (elements b)) i
          ∙ ap (Word.word w) (SumLaws.value-sum (elements a) (elements b) i)
          ∙ sum-word w (sum_at (elements a) i) (sum_at (elements b) i) (sum-value w a i p) (sum-value w b i q)

      right_zero : is 0 b ≡ true → Kept a
      right_zero e =
          sym (value-word w a i) ∙ ap (Word.word w) (sym (add-zero (value_at w a i)))
          ∙ sum-word w (value_at w a i) 0 (sym (value-word w a i)) (is-value w b i 0 e)

      left-zero : is 0 a ≡ true → Kept b
      left-zero e =
          sym (value-word w b i) ∙ ap (Word.word w) (sym (zero-add (value_at w b i)))
          ∙ sum-word w 0 (value_at w b i) (is-value w a i 0 e) (sym (value-word w b i))

  fold-difference-value : HasFirst b → value_at w (fold_difference w s a b) i ≡ Word.difference w (value_at w a i) (value_at w b i)
  unfolding value_at
  fold-difference-value has_first = difference-rules Kept w s a b worked sums right_zero left-zero refl
    where
      Kept : Folded → Type 0
      Kept r = value_at w r i ≡ Word.difference w (value_at w a i) (value_at w b i)

      worked : constants a b ≡ true → Kept (constant (Word.difference w (word_of a) (word_of b)))
      worked e =
          let (p, q) = (and-eq-true_iff (is_constant a) (is_constant b)).0 e in
          mod-mod _ (2 ^ w) ∙ difference-word w (word_of a) (word_of b) (constant-value w a i p) (constant-value w b i q)

      sums : (is_sum a && is_sum b) ≡ true → Kept (trimmed_sum (SumChain.difference w (elements a) (elements b)))
      sums e =
          let (p, q) = (and-eq-true_iff (is_sum a) (is_sum b)).0 e in
          trimmed-sum-value w (SumChain.difference w (elements a) (elements b)) i
          ∙ SumLaws.value-difference w (elements a) (elements b) i
          ∙ difference-word w (sum_at (elements a) i) (sum_at (elements b) i) (sum-value w a i p) (sum-value w b i q)

      right_zero : is 0 b ≡ true → Kept a
      right_zero e =
          sym (value-word w a i) ∙ sym (difference-zero w (value_at w a i))
          ∙ difference-word w (value_at w a i) 0 (sym (value-word w a i)) (is-value w b i 0 e)

      left-zero : is 0 a ≡ true → Kept (fold_minus w s.right b)
      left-zero e =
          fold-minus-value w s.right b i has_first
          ∙ difference-word w 0 (value_at w b i) (is-value w a i 0 e) (sym (value-word w b i))

  fold-product-value : value_at w (fold_product w s a b) i ≡ Word.product w (value_at w a i) (value_at w b i)
  unfolding value_at
  fold-product-value =
      product-rules Kept w s a b worked left_one right_one zeros left-scaled right-scaled left-first right-first products sums refl
    where
      Kept : Folded → Type 0
      Kept r = value_at w r i ≡ Word.product w (value_at w a i) (value_at w b i)

      worked : constants a b ≡ true → Kept (constant (Word.product w (word_of a) (word_of b)))
      worked e =
          let (p, q) = (and-eq-true_iff (is_constant a) (is_constant b)).0 e in
          mod-mod _ (2 ^ w) ∙ product-word w (word_of a) (word_of b) (constant-value w a i p) (constant-value w b i q)

      left_one : is 1 a ≡ true → Kept b
      left_one e =
          sym (value-word w b i) ∙ ap (Word.word w) (sym (one-mul (value_at w b i)))
          ∙ product-word w 1 (value_at w b i) (is-value w a i 1 e) (sym (value-word w b i))

      right_one : is 1 b ≡ true → Kept a
      right_one e =
          sym (value-word w a i) ∙ ap (Word.word w) (sym (mul-one (value_at w a i)))
          ∙ product-word w (value_at w a i) 1 (sym (value-word w a i)) (is-value w b i 1 e)

      zeros : (is 0 a || is 0 b) ≡ true → Kept (constant 0)
      zeros e =
          either (is 0 a) (is 0 b) e
          (λ z. ap (Word.word w) (sym (zero-mul (value_at w b i)))
          ∙ product-word w 0 (value_at w b i) (is-value w a i 0 z) (sym (value-word w b i)))
          (λ z. ap (Word.word w) (sym (mul-zero (value_at w a i)))
          ∙ product-word w (value_at w a i) 0 (sym (value-word w a i)) (is-value w b i 0 z))

      left-scaled : (is_constant a && is_sum_chain b) ≡ true → Kept (trimmed_sum (words w (SumChain.scaled (word_of a) (elements b))))
      left-scaled e =
          let (p, q) = (and-eq-true_iff (is_constant a) (is_sum_chain b)).0 e in
          summed_value w (SumChain.scaled (word_of a) (elements b)) i
          ∙ ap (Word.word w) (SumLaws.value-scaled (word_of a) (elements b) i)
          ∙ product-word w (word_of a) (sum_at (elements b) i) (constant-value w a i p) (sum-chain-value w b i q)

      right-scaled : (is_sum_chain a && is_constant b) ≡ true → Kept (trimmed_sum (words w (SumChain.scaled (word_of b) (elements a))))
      right-scaled e =
          let (p, q) = (and-eq-true_iff (is_sum_chain a) (is_constant b)).0 e in
          summed_value w (SumChain.scaled (word_of b) (elements a)) i
          ∙ ap (Word.word w) (SumLaws.value-scaled (word_of b) (elements a) i ∙ mul_comm (word_of b) (sum_at (elements a) i))
          ∙ product-word w (sum_at (elements a) i) (word_of b) (sum-chain-value w a i p) (constant-value w b i q)

      left-first : (is_constant a && is_product_chain b) ≡ true → Kept (trimmed_product (words w (ProductChain.scaled_first (word_of a) (elements b))))
      left-first e =
          let (p, q) = (and-eq-true_iff (is_constant a) (is_product_chain b)).0 e in
          multiplied_value w (ProductChain.scaled_first (word_of a) (elements b)) i
          ∙ ap (Word.word w) (ProductLaws.value-scaled-first (word_of a) (elements b) i)
          ∙ product-word w (word_of a) (product_at (elements b) i) (constant-value w a i p) (product-chain-value w b i q)

      right-first : (is_product_chain a && is_constant b) ≡ true → Kept (trimmed_product (words w (ProductChain.scaled_first (word_of b) (elements a))))
      right-first e =
          let (p, q) = (and-eq-true_iff (is_product_chain a) (is_constant b)).0 e in
          multiplied_value w (ProductChain.scaled_first (word_of b) (elements a)) i
          ∙ ap (Word.word w) (ProductLaws.value-scaled-first (word_of b) (elements a) i ∙ mul_comm (word_of b) (product_at (elements a) i))
          ∙ product-word w (product_at (elements a) i) (word_of b) (product-chain-value w a i p) (constant-value w b i q)

      products : (is_product_chain a && is_product_chain b) ≡ true → Kept (trimmed_product (words w (ProductChain.joint_product (elements a) (elements b))))
      products e =
          let (p, q) = (and-eq-true_iff (is_product_chain a) (is_product_chain b)).0 e in
          multiplied_value w (ProductChain.joint_product (elements a) (elements b)) i
          ∙ ap (Word.word w) (ProductLaws.value_joint (elements a) (elements b) i)
          ∙ product-word w (product_at (elements a) i) (product_at (elements b) i) (product-chain-value w a i p) (product-chain-value w b i q)

      sums : (is_sum_chain a && is_sum_chain b && leb (length_of a + length_of b) 16) ≡ true
          → Kept (trimmed_sum (words w (SumChain.product (elements a) (elements b))))
      sums e =
          let (p, q) = (and-eq-true_iff (is_sum_chain a) (is_sum_chain b)).0 ((and-eq-true_iff (is_sum_chain a && is_sum_chain b) _).0 e).0 in
          summed_value w (SumChain.product (elements a) (elements b)) i
          ∙ ap (Word.word w) (SumLaws.value-product (elements a) (elements b) i)
          ∙ product-word w (sum_at (elements a) i) (sum_at (elements b) i) (sum-chain-value w a i p) (sum-chain-value w b i q)

  fold-raise-value : OddBase a → value_at w (fold_raise w s a b) i ≡ Word.power w (value_at w a i) (value_at w b i)
  unfolding value_at
  fold-raise-value base = raise-rules Kept w s a b worked raises refl
    where
      Kept : Folded → Type 0
      Kept r = value_at w r i ≡ Word.power w (value_at w a i) (value_at w b i)

      worked : constants a b ≡ true → Kept (constant (Word.power w (word_of a) (word_of b)))
      worked e =
          let (p, q) = (and-eq-true_iff (is_constant a) (is_constant b)).0 e in
          mod-mod _ (2 ^ w) ∙ raise-word w (word_of a) (word_of b) (constant-value w a i p) (constant-value w b i q) base.odd

      raises : (is_constant a && is_sum_chain b) ≡ true → Kept (trimmed_product (words w (ProductChain.raised (word_of a) (elements b))))
      raises e =
          let (p, q) = (and-eq-true_iff (is_constant a) (is_sum_chain b)).0 e in
          multiplied_value w (ProductChain.raised (word_of a) (elements b)) i
          ∙ ap (Word.word w) (ProductLaws.value-raised (word_of a) (elements b) i)
          ∙ raise-word w (word_of a) (sum_at (elements b) i) (constant-value w a i p) (sum-chain-value w b i q) base.odd

-- ---- a folded product chain has a first element
fold_has_first : (w start step : ℕ) (t : Tree) → HasFirst (fold w start step t)
fold_has_first w start step t =
    fold_each HasFirst (λ c e. absurd (false≢true e)) (λ f. sums (trimmed 0 f)) (λ f. products (ProductChain.trimmed_product f))
    (λ a c s p e. absurd (false≢true (sym p ∙ e))) w start step t
  where
    sums : (f : List ℕ) → HasFirst (of_sum f)
    sums [] e = absurd (false≢true e)
    sums (a ∷ []) e = absurd (false≢true e)
    sums (a ∷ b ∷ f) e = absurd (false≢true e)

    products : (f : List ℕ) → HasFirst (of_product f)
    products [] e = absurd (false≢true e)
    products (a ∷ []) e = absurd (false≢true e)
    products (a ∷ b ∷ f) e = omega arith

-- ---- "x is the sum chain (start, step)"
grid-value : (start step i : ℕ) → sum_at (start ∷ step ∷ []) i ≡ start + i * step
grid-value start step zero = SumLaws.sum-now (start ∷ step ∷ []) ∙ omega arith
grid-value start step (suc i) =
    SumLaws.sum-next (start ∷ step ∷ []) i
    ∙ ap₂ ◌+◌ (grid-value start step i) (SumLaws.sum-constant step i)
    ∙ omega arith

-- ---- the folded tree of a formula whose raises have odd bases has the formula's direct value
pub fold-value : (w start step : ℕ) (t : Tree)
    → ((s : Span) (a b : Tree) (p : ℕ) → Part (Tree.raise s a p b) t → (Tree.holds_x a ≡ false) × (value_for w 0 a % 2 ≡ 1))
    → (i : ℕ) → value_at w (fold w start step t) i ≡ direct_value w start step t i
unfolding fold value_at value_for
fold-value w start step (Tree.number s p v) good i = mod-mod v (2 ^ w)
fold-value w start step (Tree.variable s) good i =
    summed_value w (start ∷ step ∷ []) i ∙ ap (Word.word w) (grid-value start step i)
fold-value w start step (Tree.sum s a b) good i =
    fold-sum-value w _ (fold w start step a) (fold w start step b) i
    ∙ ap₂ (Word.sum w)
    (fold-value w start step a (λ u c d p k. good u c d p (sum_left k)) i)
    (fold-value w start step b (λ u c d p k. good u c d p (sum-right k)) i)
fold-value w start step (Tree.difference s a b) good i =
    fold-difference-value w _ (fold w start step a) (fold w start step b) i (fold_has_first w start step b)
    ∙ ap₂ (Word.difference w)
    (fold-value w start step a (λ u c d p k. good u c d p (difference-left k)) i)
    (fold-value w start step b (λ u c d p k. good u c d p (difference-right k)) i)
fold-value w start step (Tree.product s a b) good i =
    fold-product-value w _ (fold w start step a) (fold w start step b) i
    ∙ ap₂ (Word.product w)
    (fold-value w start step a (λ u c d p k. good u c d p (product-left k)) i)
    (fold-value w start step b (λ u c d p k. good u c d p (product-right k)) i)
fold-value w start step (Tree.minus s a) good i =
    fold-minus-value w _ (fold w start step a) i (fold_has_first w start step a)
    ∙ ap (Word.negation w) (fold-value w start step a (λ u c d p k. good u c d p (under-minus k)) i)
fold-value w start step (Tree.literal_power s a q n) good i =
    fold-power-value w _ (fold w start step a) i n
    ∙ ap (λ v. Word.power w v n) (fold-value w start step a (λ u c d p k. good u c d p (under-power k)) i)
fold-value w start step (Tree.raise s a q b) good i =
    fold-raise-value w _ (fold w start step a) (fold w start step b) i (fold_base w start step s a b q good)
    ∙ ap₂ (Word.power w)
    (fold-value w start step a (λ u c d p k. good u c d p (in_base k)) i)
    (fold-value w start step b (λ u c d p k. good u c d p (in_exponent k)) i)
