-- The folded tree of an accepted formula is well formed, and has at most a row for each node.
use mathlib.Core.Path.{◌≡◌, refl, ap, ap₂, subst, ◌∙◌}
use mathlib.Core.Bool.{Bool, true, false, cond, ◌&&◌, true≢false, and-eq-true_iff}
use mathlib.Core.List.{List, [], ◌∷◌, map}
use Prim.Native.Nat.{ℕ, zero, suc, ◌+◌, ◌-◌, ◌*◌, ◌%◌, ◌^◌, ◌≤◌, ◌<◌, max}
use native.Mathlib.Nat.{not-suc-le-zero}
use native.Mathlib.Omega.{arith}
use lib.Dec.{eqb, leb}
use lib.ListN.{length, get_or, length-map}
use lib.Pow.{pow_pos, pow-lt}
use borrow.Author.Tests.{leb-true, eqb-false}
use Rattle.plan.specs.Measures.{most_rows}
use Rattle.word.specs.Word as Word
use Rattle.word.proofs.Ring.{word_fits}
use Rattle.chain.specs.Chain.{value, rest, joined, words, with_last, without_trailing, trimmed}
use Rattle.chain.specs.SumChain as SumChain
use Rattle.chain.specs.ProductChain as ProductChain
use Rattle.chain.proofs.Trimming.{length_without_trailing}
use Rattle.chain.proofs.Shifting.{length_shift}
use Rattle.formula.specs.Tree as Tree
use Rattle.formula.specs.Tree.{Span, Tree, holds_x, nodes}
use Rattle.formula.specs.Value.{value_for}
use Rattle.formula.specs.Refusals.{Accepted, Part, itself, sum_left, sum-right, difference-left, difference-right, product-left, product-right}
use Rattle.formula.specs.Refusals.{under-minus, under-power, in_base, in_exponent}
use Rattle.formula_scan.proofs.Answers.{accepted_fits, accepted_base}
use Rattle.formula_scan.proofs.Parity.{OddBases, neither}
use Rattle.fold.specs.Folded.{Spans, Folded, constant, sum_chain, product_chain, sum_row, difference_row, product_row, minus_row, power_row, raise_row}
use Rattle.fold.specs.Folded.{is_constant, is_sum_chain, elements, of_sum, of_product, trimmed_sum, trimmed_product}
use Rattle.fold.specs.Folding.{word_of, length_of, fold_sum, fold_minus, fold_difference, fold_product, fold_power, fold_raise, operands, fold}
use Rattle.fold.specs.Layout.{row_count}
use Rattle.fold.proofs.Shape.{Fits, OddBase, WellFormed}
use Rattle.fold.proofs.Tests.{shaped}
use Rattle.fold.proofs.Rules.{sum-rules, minus-rules, difference-rules, product-rules, power-rules, raise-rules}

-- ---- lengths
length_rest : (f : List ℕ) → length (rest f) ≡ length f - 1
length_rest [] = refl
length_rest (a ∷ f) = omega arith

length-joined : (◌⊙◌ : ℕ → ℕ → ℕ) (unit : ℕ) (f g : List ℕ) → length (joined ◌⊙◌ unit f g) ≡ max (length f) (length g)
unfolding joined
length-joined ◌⊙◌ unit [] g = length-map g (λ b. ◌⊙◌ unit b) ∙ omega arith
length-joined ◌⊙◌ unit (a ∷ f) g = omega (arith, length-joined ◌⊙◌ unit f (rest g), length_rest g)

-- How many elements a product of k and l + 1 elements has.
abbrev extent : ℕ → ℕ → ℕ
extent zero l = 0
extent (suc k) l = suc k + l

extent-alone : (k : ℕ) → extent k 0 ≡ k
extent-alone zero = refl
extent-alone (suc k) = omega arith

extent-most : (k l : ℕ) → extent k l ≤ k + l
extent-most zero l = omega arith
extent-most (suc k) l = omega arith

length-times : (a : ℕ) (below : List ℕ → List ℕ) (k : ℕ) → ((g : List ℕ) (l : ℕ) → length g ≡ suc l → length (below g) ≡ extent k l)
    → (b : ℕ) (g : List ℕ) → length (SumChain.times SumChain.sum_shift a below (b ∷ g)) ≡ suc k + length g
unfolding SumChain.times
length-times a below k known b [] =
    ap suc (length-joined ◌+◌ 0 [] (below (SumChain.sum_shift (b ∷ []))))
    ∙ omega (arith, known (SumChain.sum_shift (b ∷ [])) 0 (length_shift ◌+◌ (b ∷ [])), extent-alone k)
length-times a below k known b (c ∷ g) =
    ap suc (length-joined ◌+◌ 0 (SumChain.times SumChain.sum_shift a below (c ∷ g)) (below (SumChain.sum_shift (b ∷ c ∷ g))))
    ∙ omega (arith, length-times a below k known c g, there, extent-most k (suc (length g)))
  where
    there : length (below (SumChain.sum_shift (b ∷ c ∷ g))) ≡ extent k (suc (length g))
    there = known (SumChain.sum_shift (b ∷ c ∷ g)) (suc (length g)) (length_shift ◌+◌ (b ∷ c ∷ g))

length-extent : (f g : List ℕ) (l : ℕ) → length g ≡ suc l → length (SumChain.product f g) ≡ extent (length f) l
unfolding SumChain.product_by
length-extent [] g l e = refl
length-extent (a ∷ f) [] l e = absurd (omega arith)
length-extent (a ∷ f) (b ∷ g) l e = length-times a (SumChain.product f) (length f) (length-extent f) b g ∙ omega arith

length-product : (f g : List ℕ) → 0 < length f → 0 < length g → length (SumChain.product f g) ≡ length f + length g - 1
length-product [] g p q = absurd (not-suc-le-zero p)
length-product (a ∷ f) g p q = length-extent (a ∷ f) g (length g - 1) (omega arith) ∙ omega arith

length-power : (f : List ℕ) (k n : ℕ) → length f ≡ suc k → length (SumChain.power f n) ≡ k * n + 1
unfolding SumChain.power
length-power f k zero e = omega arith
length-power f k (suc n) e =
    length-product (SumChain.power f n) f (omega (arith, length-power f k n e)) (omega arith) ∙ omega (arith, length-power f k n e)

-- ---- trimming, for any unit
-- A chain trims to no more elements, and to one at the least.
length-trimmed : (unit : ℕ) (f : List ℕ) → length (trimmed unit f) ≤ max 1 (length f)
unfolding trimmed
length-trimmed unit f = omega (arith, length_without_trailing unit (rest f), length_rest f)

length-trimmed-product : (f : List ℕ) → length (ProductChain.trimmed_product f) ≤ max 1 (length f)
length-trimmed-product f = go (eqb (value 1 f) 0)
  where
    go : (t : Bool) → length (cond t (0 ∷ []) (trimmed 1 f)) ≤ max 1 (length f)
    go true = omega arith
    go false = length-trimmed 1 f

-- ---- words: elements below m
abbrev pub Below : ℕ → List ℕ → Type 0
Below m f = (j : ℕ) → get_or f j 0 < m

module _ {m : ℕ} (some : 0 < m) where
  below_none : Below m []
  below_none j = some

  below_cons : (a : ℕ) (f : List ℕ) → a < m → Below m f → Below m (a ∷ f)
  below_cons a f h k zero = h
  below_cons a f h k (suc j) = k j

  below_rest : (f : List ℕ) → Below m f → Below m (rest f)
  below_rest [] k j = some
  below_rest (a ∷ f) k j = k (suc j)

  below_value : (unit : ℕ) (f : List ℕ) → unit < m → Below m f → value unit f < m
  below_value unit [] h k = h
  below_value unit (a ∷ f) h k = k 0

  below_map : (h : ℕ → ℕ) → ((a : ℕ) → h a < m) → (f : List ℕ) → Below m (map h f)
  below_map h fits [] j = some
  below_map h fits (a ∷ f) zero = fits a
  below_map h fits (a ∷ f) (suc j) = below_map h fits f j

  below_joined : (◌⊙◌ : ℕ → ℕ → ℕ) → ((a b : ℕ) → ◌⊙◌ a b < m) → (unit : ℕ) (f g : List ℕ) → Below m (joined ◌⊙◌ unit f g)
  unfolding joined
  below_joined ◌⊙◌ fits unit [] g j = below_map (λ b. ◌⊙◌ unit b) (fits unit) g j
  below_joined ◌⊙◌ fits unit (a ∷ f) g zero = fits a (value unit g)
  below_joined ◌⊙◌ fits unit (a ∷ f) g (suc j) = below_joined ◌⊙◌ fits unit f (rest g) j

  below_with_last : (unit a : ℕ) (f : List ℕ) → a < m → Below m f → Below m (with_last unit a f)
  unfolding with_last
  below_with_last unit a [] h k = go (eqb a unit)
    where
      go : (t : Bool) → Below m (cond t [] (a ∷ []))
      go true = below_none
      go false = below_cons a [] h k
  below_with_last unit a (b ∷ f) h k = below_cons a (b ∷ f) h k

  below_without_trailing : (unit : ℕ) (f : List ℕ) → Below m f → Below m (without_trailing unit f)
  unfolding without_trailing
  below_without_trailing unit [] k = below_none
  below_without_trailing unit (a ∷ f) k =
      below_with_last unit a (without_trailing unit f) (k 0) (below_without_trailing unit f (λ j. k (suc j)))

  below_trimmed : (unit : ℕ) (f : List ℕ) → unit < m → Below m f → Below m (trimmed unit f)
  unfolding trimmed
  below_trimmed unit f h k =
      below_cons (value unit f) (without_trailing unit (rest f)) (below_value unit f h k) (below_without_trailing unit (rest f) (below_rest f k))

  below_trimmed-product : (f : List ℕ) → 1 < m → Below m f → Below m (ProductChain.trimmed_product f)
  below_trimmed-product f h k = go (eqb (value 1 f) 0)
    where
      go : (t : Bool) → Below m (cond t (0 ∷ []) (trimmed 1 f))
      go true = below_cons 0 [] some below_none
      go false = below_trimmed 1 f h k

-- ---- chains as folded trees, and the elements of a well_formed tree
module _ (w : ℕ) where
  of_sum-formed : (f : List ℕ) → Below (2 ^ w) f → length f ≤ 17 → WellFormed w (of_sum f)
  unfolding WellFormed
  of_sum-formed [] fits most = pow_pos w
  of_sum-formed (a ∷ []) fits most = fits 0
  of_sum-formed (a ∷ b ∷ f) fits most = record { least = omega arith; most = most; words = fits }

  of_product-formed : (f : List ℕ) → 1 < 2 ^ w → Below (2 ^ w) f → length f ≤ 17 → WellFormed w (of_product f)
  unfolding WellFormed
  of_product-formed [] one fits most = one
  of_product-formed (a ∷ []) one fits most = fits 0
  of_product-formed (a ∷ b ∷ f) one fits most = record { least = omega arith; most = most; words = fits }

  trimmed-sum-formed : (f : List ℕ) → Below (2 ^ w) f → length f ≤ 17 → WellFormed w (trimmed_sum f)
  trimmed-sum-formed f fits most = of_sum-formed (trimmed 0 f) (below_trimmed (pow_pos w) 0 f (pow_pos w) fits) (omega (arith, length-trimmed 0 f))

  trimmed-product-formed : (f : List ℕ) → 0 < w → Below (2 ^ w) f → length f ≤ 17 → WellFormed w (trimmed_product f)
  trimmed-product-formed f pos fits most =
      of_product-formed (ProductChain.trimmed_product f) (pow-lt pos) (below_trimmed-product (pow_pos w) f (pow-lt pos) fits)
      (omega (arith, length-trimmed-product f))

  pub words_below : (f : List ℕ) → Below (2 ^ w) (words w f)
  words_below f = below_map (pow_pos w) (λ a. a % 2 ^ w) (word_fits w) f

  negations_below : (f : List ℕ) → Below (2 ^ w) (map (λ a. Word.negation w a) f)
  negations_below f = below_map (pow_pos w) (λ a. Word.negation w a) (λ a. word_fits w _) f

  differences_below : (f g : List ℕ) → Below (2 ^ w) (SumChain.difference w f g)
  differences_below f g = below_joined (pow_pos w) (Word.difference w) (λ a b. word_fits w _) 0 f g

  sum-words-formed : (f : List ℕ) → length f ≤ 17 → WellFormed w (trimmed_sum (words w f))
  sum-words-formed f most = trimmed-sum-formed (words w f) (words_below f) (rw (length-map f (λ a. a % 2 ^ w)) most)

  product-words-formed : (f : List ℕ) → 0 < w → length f ≤ 17 → WellFormed w (trimmed_product (words w f))
  product-words-formed f pos most = trimmed-product-formed (words w f) pos (words_below f) (rw (length-map f (λ a. a % 2 ^ w)) most)

  word-formed : (n : ℕ) → WellFormed w (constant (Word.word w n))
  unfolding WellFormed
  word-formed n = word_fits w n

  -- An operator has no elements.
  pub elements_below : (a : Folded) → WellFormed w a → Below (2 ^ w) (elements a)
  unfolding WellFormed
  elements_below (constant c) h = below_cons (pow_pos w) c [] h (below_none (pow_pos w))
  elements_below (sum_chain f) h = h.words
  elements_below (product_chain f) h = h.words
  elements_below (sum_row s a b) h = below_none (pow_pos w)
  elements_below (difference_row s a b) h = below_none (pow_pos w)
  elements_below (product_row s a b) h = below_none (pow_pos w)
  elements_below (minus_row s a) h = below_none (pow_pos w)
  elements_below (power_row s a n) h = below_none (pow_pos w)
  elements_below (raise_row s a b) h = below_none (pow_pos w)

  pub elements-most : (a : Folded) → WellFormed w a → length (elements a) ≤ 17
  unfolding WellFormed
  elements-most (constant c) h = omega arith
  elements-most (sum_chain f) h = h.most
  elements-most (product_chain f) h = h.most
  elements-most (sum_row s a b) h = omega arith
  elements-most (difference_row s a b) h = omega arith
  elements-most (product_row s a b) h = omega arith
  elements-most (minus_row s a) h = omega arith
  elements-most (power_row s a n) h = omega arith
  elements-most (raise_row s a b) h = omega arith

  sum-chain_fits : (a : Folded) → is_sum_chain a ≡ true → WellFormed w a → Fits w (elements a)
  unfolding WellFormed
  sum-chain_fits a e h = subst (WellFormed w) ((shaped a).summed e) h

  -- ---- what is made of the elements has at most 17 of them
  map-most : (h : ℕ → ℕ) (a : Folded) → WellFormed w a → length (map h (elements a)) ≤ 17
  map-most h a k = rw (length-map (elements a) h) (elements-most a k)

  joined-most : (◌⊙◌ : ℕ → ℕ → ℕ) (unit : ℕ) (a b : Folded) → WellFormed w a → WellFormed w b
      → length (joined ◌⊙◌ unit (elements a) (elements b)) ≤ 17
  joined-most ◌⊙◌ unit a b h k = omega (arith, length-joined ◌⊙◌ unit (elements a) (elements b), elements-most a h, elements-most b k)

  -- Another first element.
  first-most : (a : Folded) → WellFormed w a → suc (length (rest (elements a))) ≤ 17
  first-most a h = omega (arith, length_rest (elements a), elements-most a h)

  -- "S*S with lengths k + l at most 16", and "S^n if k*n is at most 16".
  product-most : (a b : Folded) → WellFormed w a → WellFormed w b → (is_sum_chain a && is_sum_chain b && leb (length_of a + length_of b) 16) ≡ true
      → length (SumChain.product (elements a) (elements b)) ≤ 17
  product-most a b h k e =
      let (chains, few) = (and-eq-true_iff (is_sum_chain a && is_sum_chain b) _).0 e in
      let (left, right) = (and-eq-true_iff (is_sum_chain a) (is_sum_chain b)).0 chains in
      most (elements a) (elements b) (sum-chain_fits a left h) (sum-chain_fits b right k) (leb-true (length_of a + length_of b) 16 few)
    where
      most : (f g : List ℕ) → Fits w f → Fits w g → length f - 1 + (length g - 1) ≤ 16 → length (SumChain.product f g) ≤ 17
      most f g p q r = omega (arith, length-product f g (omega (arith, p.least)) (omega (arith, q.least)), p.least, q.least)

  power-most : (a : Folded) (n : ℕ) → WellFormed w a → (is_sum_chain a && leb (length_of a * n) 16) ≡ true
      → length (SumChain.power (elements a) n) ≤ 17
  power-most a n h e =
      let (chain, few) = (and-eq-true_iff (is_sum_chain a) _).0 e in
      most (elements a) (sum-chain_fits a chain h) (leb-true (length_of a * n) 16 few)
    where
      most : (f : List ℕ) → Fits w f → (length f - 1) * n ≤ 16 → length (SumChain.power f n) ≤ 17
      most f p r = omega (arith, length-power f (length f - 1) n (omega (arith, p.least)))

-- ---- each operator keeps trees well formed
module _ (w : ℕ) (pos : 0 < w) where
  pub sum-formed : (s : Spans) (a b : Folded) → WellFormed w a → WellFormed w b → WellFormed w (fold_sum w s a b)
  unfolding WellFormed
  sum-formed s a b h k =
      sum-rules (WellFormed w) w s a b (λ e. word-formed w _)
      (λ e. sum-words-formed w (SumChain.sum (elements a) (elements b)) (joined-most w ◌+◌ 0 a b h k)) (λ e. h) (λ e. k) (h, k)

  pub minus-formed : (s : Span) (a : Folded) → WellFormed w a → WellFormed w (fold_minus w s a)
  unfolding WellFormed
  minus-formed s a h =
      minus-rules (WellFormed w) w s a (λ e. word-formed w _)
      (λ e. trimmed-sum-formed w (map (λ f. Word.negation w f) (elements a)) (negations_below w (elements a)) (map-most w (λ f. Word.negation w f) a h))
      (λ e. trimmed-product-formed w (Word.negation w (word_of a) ∷ rest (elements a)) pos first (first-most w a h)) h
    where
      first : Below (2 ^ w) (Word.negation w (word_of a) ∷ rest (elements a))
      first =
          below_cons (pow_pos w) (Word.negation w (word_of a)) (rest (elements a)) (word_fits w _)
          (below_rest (pow_pos w) (elements a) (elements_below w a h))

  pub difference-formed : (s : Spans) (a b : Folded) → WellFormed w a → WellFormed w b → WellFormed w (fold_difference w s a b)
  unfolding WellFormed
  difference-formed s a b h k =
      difference-rules (WellFormed w) w s a b (λ e. word-formed w _)
      (λ e. trimmed-sum-formed w (SumChain.difference w (elements a) (elements b)) (differences_below w (elements a) (elements b))
      (joined-most w (Word.difference w) 0 a b h k))
      (λ e. h) (λ e. minus-formed s.right b k) (h, k)

  pub product-formed : (s : Spans) (a b : Folded) → WellFormed w a → WellFormed w b → WellFormed w (fold_product w s a b)
  unfolding WellFormed
  product-formed s a b h k =
      product-rules (WellFormed w) w s a b (λ e. word-formed w _) (λ e. k) (λ e. h) (λ e. pow_pos w)
      (λ e. scaled-formed (word_of a) b k) (λ e. scaled-formed (word_of b) a h) (λ e. first-formed (word_of a) b k) (λ e. first-formed (word_of b) a h)
      (λ e. product-words-formed w (ProductChain.joint_product (elements a) (elements b)) pos (joined-most w ◌*◌ 1 a b h k))
      (λ e. sum-words-formed w (SumChain.product (elements a) (elements b)) (product-most w a b h k e)) (h, k)
    where
      scaled-formed : (c : ℕ) (d : Folded) → WellFormed w d → WellFormed w (trimmed_sum (words w (SumChain.scaled c (elements d))))
      scaled-formed c d h = sum-words-formed w (SumChain.scaled c (elements d)) (map-most w (λ x. c * x) d h)

      first-formed : (c : ℕ) (d : Folded) → WellFormed w d → WellFormed w (trimmed_product (words w (ProductChain.scaled_first c (elements d))))
      first-formed c d h = product-words-formed w (ProductChain.scaled_first c (elements d)) pos (first-most w d h)

  pub power-formed : (s : Span) (a : Folded) (n : ℕ) → n ≤ 64 → WellFormed w a → WellFormed w (fold_power w s a n)
  unfolding WellFormed
  power-formed s a n few h =
      power-rules (WellFormed w) w s a n (λ e. word-formed w _) (λ e. pow-lt pos) (λ e. h)
      (λ e. sum-words-formed w (SumChain.power (elements a) n) (power-most w a n h e))
      (λ e. product-words-formed w (ProductChain.power_of_each (elements a) n) pos (map-most w (λ x. x ^ n) a h))
      (λ some more. (least (eqb-false n 0 some) (eqb-false n 1 more), few, h))
    where
      least : (n ≡ 0 → ⊥) → (n ≡ 1 → ⊥) → 2 ≤ n
      least p q = omega arith

  pub raise-formed : (s : Spans) (a b : Folded) → OddBase a → WellFormed w a → WellFormed w b → WellFormed w (fold_raise w s a b)
  unfolding WellFormed
  raise-formed s a b base h k =
      raise-rules (WellFormed w) w s a b (λ e. word-formed w _)
      (λ e. product-words-formed w (ProductChain.raised (word_of a) (elements b)) pos (map-most w (λ x. word_of a ^ x) b k)) (base, h, k)

-- ---- a tree without x folds to its value
fold_without_x : (w start step x : ℕ) (t : Tree) → holds_x t ≡ false → fold w start step t ≡ constant (value_for w x t)
unfolding holds_x value_for fold fold_sum fold_minus fold_difference fold_product fold_power fold_raise
fold_without_x w start step x (Tree.number s p v) none = refl
fold_without_x w start step x (Tree.variable s) none = absurd (true≢false none)
fold_without_x w start step x (Tree.sum s a b) none =
    let h = neither (holds_x a) (holds_x b) none in
    ap₂ (fold_sum w (operands a b)) (fold_without_x w start step x a h.0) (fold_without_x w start step x b h.1)
fold_without_x w start step x (Tree.difference s a b) none =
    let h = neither (holds_x a) (holds_x b) none in
    ap₂ (fold_difference w (operands a b)) (fold_without_x w start step x a h.0) (fold_without_x w start step x b h.1)
fold_without_x w start step x (Tree.product s a b) none =
    let h = neither (holds_x a) (holds_x b) none in
    ap₂ (fold_product w (operands a b)) (fold_without_x w start step x a h.0) (fold_without_x w start step x b h.1)
fold_without_x w start step x (Tree.minus s a) none = ap (fold_minus w (Tree.span_of a)) (fold_without_x w start step x a none)
fold_without_x w start step x (Tree.literal_power s a p n) none = ap (λ f. fold_power w (Tree.span_of a) f n) (fold_without_x w start step x a none)
fold_without_x w start step x (Tree.raise s a p b) none =
    let h = neither (holds_x a) (holds_x b) none in
    ap₂ (fold_raise w (operands a b)) (fold_without_x w start step x a h.0) (fold_without_x w start step x b h.1)

-- So the base of a raise folds to an odd constant.
pub fold_base : (w start step : ℕ) (s : Span) (a b : Tree) (p : ℕ) → OddBases w (Tree.raise s a p b) → OddBase (fold w start step a)
fold_base w start step s a b p good =
    let (none, odd) = good s a b p itself in
    let same = fold_without_x w start step 0 a none in
    record { known = ap is_constant same; odd = ap (λ c. word_of c % 2) same ∙ odd }

-- ---- rows: a trimmed chain has one, and each operator adds at most one to those of its operands
of_sum-rows : (f : List ℕ) → row_count (of_sum f) ≡ 1
unfolding row_count
of_sum-rows [] = refl
of_sum-rows (a ∷ []) = refl
of_sum-rows (a ∷ b ∷ f) = refl

of_product-rows : (f : List ℕ) → row_count (of_product f) ≡ 1
unfolding row_count
of_product-rows [] = refl
of_product-rows (a ∷ []) = refl
of_product-rows (a ∷ b ∷ f) = refl

trimmed-sum-rows : (f : List ℕ) → row_count (trimmed_sum f) ≡ 1
trimmed-sum-rows f = of_sum-rows (trimmed 0 f)

trimmed-product-rows : (f : List ℕ) → row_count (trimmed_product f) ≡ 1
trimmed-product-rows f = of_product-rows (ProductChain.trimmed_product f)

abbrev AtMost : ℕ → Folded → Type 0
AtMost n a = row_count a ≤ n

one_sum : (n : ℕ) (f : List ℕ) → AtMost (n + 1) (trimmed_sum f)
one_sum n f = omega (arith, trimmed-sum-rows f)

one_product : (n : ℕ) (f : List ℕ) → AtMost (n + 1) (trimmed_product f)
one_product n f = omega (arith, trimmed-product-rows f)

module _ (w : ℕ) where
  pub sum_rows : (s : Spans) (a b : Folded) → row_count (fold_sum w s a b) ≤ row_count a + row_count b + 1
  unfolding row_count
  sum_rows s a b =
      sum-rules (AtMost _) w s a b (λ e. omega arith) (λ e. one_sum (row_count a + row_count b) _) (λ e. omega arith) (λ e. omega arith) (omega arith)

  pub minus-rows : (s : Span) (a : Folded) → row_count (fold_minus w s a) ≤ row_count a + 1
  unfolding row_count
  minus-rows s a =
      minus-rules (AtMost _) w s a (λ e. omega arith) (λ e. one_sum (row_count a) _)
      (λ e. one_product (row_count a) (Word.negation w (word_of a) ∷ rest (elements a))) (omega arith)

  pub difference-rows : (s : Spans) (a b : Folded) → row_count (fold_difference w s a b) ≤ row_count a + row_count b + 1
  unfolding row_count
  difference-rows s a b =
      difference-rules (AtMost _) w s a b (λ e. omega arith) (λ e. one_sum (row_count a + row_count b) _) (λ e. omega arith)
      (λ e. omega (arith, minus-rows s.right b)) (omega arith)

  pub product-rows : (s : Spans) (a b : Folded) → row_count (fold_product w s a b) ≤ row_count a + row_count b + 1
  unfolding row_count
  product-rows s a b =
      product-rules (AtMost _) w s a b (λ e. omega arith) (λ e. omega arith) (λ e. omega arith) (λ e. omega arith)
      (λ e. one_sum (row_count a + row_count b) _) (λ e. one_sum (row_count a + row_count b) _)
      (λ e. product-row (ProductChain.scaled_first (word_of a) (elements b))) (λ e. product-row (ProductChain.scaled_first (word_of b) (elements a)))
      (λ e. product-row (ProductChain.joint_product (elements a) (elements b))) (λ e. one_sum (row_count a + row_count b) _) (omega arith)
    where
      product-row : (f : List ℕ) → row_count (trimmed_product (words w f)) ≤ row_count a + row_count b + 1
      product-row f = one_product (row_count a + row_count b) (words w f)

  pub power-rows : (s : Span) (a : Folded) (n : ℕ) → row_count (fold_power w s a n) ≤ row_count a + 1
  unfolding row_count
  power-rows s a n =
      power-rules (AtMost _) w s a n (λ e. omega arith) (λ e. omega arith) (λ e. omega arith) (λ e. one_sum (row_count a) _)
      (λ e. one_product (row_count a) (words w (ProductChain.power_of_each (elements a) n))) (λ some more. omega arith)

  pub raise-rows : (s : Spans) (a b : Folded) → row_count (fold_raise w s a b) ≤ row_count a + row_count b + 1
  unfolding row_count
  raise-rows s a b =
      raise-rules (AtMost _) w s a b (λ e. omega arith)
      (λ e. one_product (row_count a + row_count b) (words w (ProductChain.raised (word_of a) (elements b)))) (omega arith)

  pub fold-rows : (start step : ℕ) (t : Tree) → row_count (fold w start step t) ≤ nodes t
  unfolding fold row_count nodes
  fold-rows start step (Tree.number s p v) = omega arith
  fold-rows start step (Tree.variable s) = omega (arith, trimmed-sum-rows (words w (start ∷ step ∷ [])))
  fold-rows start step (Tree.sum s a b) =
      omega (arith, sum_rows (operands a b) (fold w start step a) (fold w start step b), fold-rows start step a, fold-rows start step b)
  fold-rows start step (Tree.difference s a b) =
      omega (arith, difference-rows (operands a b) (fold w start step a) (fold w start step b), fold-rows start step a, fold-rows start step b)
  fold-rows start step (Tree.product s a b) =
      omega (arith, product-rows (operands a b) (fold w start step a) (fold w start step b), fold-rows start step a, fold-rows start step b)
  fold-rows start step (Tree.minus s a) = omega (arith, minus-rows (Tree.span_of a) (fold w start step a), fold-rows start step a)
  fold-rows start step (Tree.literal_power s a p n) = omega (arith, power-rows (Tree.span_of a) (fold w start step a) n, fold-rows start step a)
  fold-rows start step (Tree.raise s a p b) =
      omega (arith, raise-rows (operands a b) (fold w start step a) (fold w start step b), fold-rows start step a, fold-rows start step b)

-- ---- the whole tree
-- What folding asks of a tree: literal exponents are at most 64, and each raise has a base without x, of odd value.
pub record Foldable (w : ℕ) (t : Tree) : Type 0 where
  pub exponents : (s : Span) (a : Tree) (p n : ℕ) → Part (Tree.literal_power s a p n) t → n ≤ 64
  pub bases : OddBases w t

pub foldable_part : {w : ℕ} {a t : Tree} → ((u : Tree) → Part u a → Part u t) → Foldable w t → Foldable w a
foldable_part inside good =
    record { exponents = λ s a p n k. good.exponents s a p n (inside _ k); bases = λ s a b p k. good.bases s a b p (inside _ k) }

pub accepted_foldable : {w : ℕ} {s : List ℕ} {t : Tree} → Accepted w s t → Foldable w t
accepted_foldable accepted = record { exponents = (accepted_fits accepted).1; bases = accepted_base accepted }

module _ (w start step : ℕ) (pos : 0 < w) where
  pub fold-formed : (t : Tree) → Foldable w t → WellFormed w (fold w start step t)
  unfolding fold
  fold-formed (Tree.number s p v) good = word-formed w v
  fold-formed (Tree.variable s) good = sum-words-formed w (start ∷ step ∷ []) (omega arith)
  fold-formed (Tree.sum s a b) good =
      sum-formed w pos _ _ _ (fold-formed a (foldable_part (λ u. sum_left) good)) (fold-formed b (foldable_part (λ u. sum-right) good))
  fold-formed (Tree.difference s a b) good =
      difference-formed w pos _ _ _
      (fold-formed a (foldable_part (λ u. difference-left) good)) (fold-formed b (foldable_part (λ u. difference-right) good))
  fold-formed (Tree.product s a b) good =
      product-formed w pos _ _ _ (fold-formed a (foldable_part (λ u. product-left) good)) (fold-formed b (foldable_part (λ u. product-right) good))
  fold-formed (Tree.minus s a) good = minus-formed w pos _ _ (fold-formed a (foldable_part (λ u. under-minus) good))
  fold-formed (Tree.literal_power s a p n) good =
      power-formed w pos _ _ n (good.exponents s a p n itself) (fold-formed a (foldable_part (λ u. under-power) good))
  fold-formed (Tree.raise s a p b) good =
      raise-formed w pos _ _ _ (fold_base w start step s a b p good.bases)
      (fold-formed a (foldable_part (λ u. in_base) good)) (fold-formed b (foldable_part (λ u. in_exponent) good))

-- ---- the folded tree of an accepted formula
module _ (w start step : ℕ) {s : List ℕ} {t : Tree} (accepted : Accepted w s t) where
  pub accepted-formed : 0 < w → WellFormed w (fold w start step t)
  accepted-formed pos = fold-formed w start step pos t (accepted_foldable accepted)

  pub accepted-rows : row_count (fold w start step t) ≤ most_rows
  accepted-rows = omega (arith, fold-rows w start step t, (accepted_fits accepted).2)
