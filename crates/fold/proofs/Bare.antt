-- Spans play no part in folding: trees that are alike but for spans and places fold to trees that are alike but for spans.
use mathlib.Core.Path.{◌≡◌, refl, sym, ap, ap₂, ◌∙◌}
use mathlib.Core.Bool.{Bool, true, false, cond, ◌&&◌, ◌||◌}
use mathlib.Core.List.{List, [], ◌∷◌, map}
use Prim.Native.Nat.{ℕ, ◌+◌, ◌-◌, ◌*◌}
use lib.Dec.{eqb, leb}
use lib.ListN.{length}
use Rattle.word.specs.Word as Word
use Rattle.chain.specs.Chain.{value, rest, words, trimmed}
use Rattle.chain.specs.SumChain as SumChain
use Rattle.chain.specs.ProductChain as ProductChain
use Rattle.formula.specs.Tree.{Span, span, Tree}
use Rattle.fold.specs.Folded.{Spans, Folded, constant, sum_chain, product_chain, sum_row, difference_row, product_row, minus_row, power_row, raise_row}
use Rattle.fold.specs.Folded.{is_constant, is_sum_chain, is_product_chain, elements, of_sum, of_product, trimmed_sum, trimmed_product}
use Rattle.fold.specs.Folding.{word_of, is, constants, is_sum, fold_sum, fold_minus, fold_difference, fold_product, fold_power, fold_raise, fold}

-- ---- a folded tree without its spans
abbrev none : Span
none = span 0 0

abbrev neither : Spans
neither = record { left = none; right = none }

unfoldable pub bare : Folded → Folded
bare (constant c) = constant c
bare (sum_chain f) = sum_chain f
bare (product_chain f) = product_chain f
bare (sum_row s a b) = sum_row neither (bare a) (bare b)
bare (difference_row s a b) = difference_row neither (bare a) (bare b)
bare (product_row s a b) = product_row neither (bare a) (bare b)
bare (minus_row s a) = minus_row none (bare a)
bare (power_row s a n) = power_row none (bare a) n
bare (raise_row s a b) = raise_row neither (bare a) (bare b)

-- The rules see the same of it.
pub record Seen (a b : Folded) : Type 0 where
  pub constantly : is_constant a ≡ is_constant b
  pub summed : is_sum_chain a ≡ is_sum_chain b
  pub multiplied : is_product_chain a ≡ is_product_chain b
  pub same : elements a ≡ elements b

alike : {a b : Folded} → is_constant a ≡ is_constant b → is_sum_chain a ≡ is_sum_chain b → is_product_chain a ≡ is_product_chain b → elements a ≡ elements b → Seen a b
alike c s p e = record { constantly = c; summed = s; multiplied = p; same = e }

pub bare-seen : (a : Folded) → Seen a (bare a)
unfolding bare
bare-seen (constant c) = alike refl refl refl refl
bare-seen (sum_chain f) = alike refl refl refl refl
bare-seen (product_chain f) = alike refl refl refl refl
bare-seen (sum_row s a b) = alike refl refl refl refl
bare-seen (difference_row s a b) = alike refl refl refl refl
bare-seen (product_row s a b) = alike refl refl refl refl
bare-seen (minus_row s a) = alike refl refl refl refl
bare-seen (power_row s a n) = alike refl refl refl refl
bare-seen (raise_row s a b) = alike refl refl refl refl

-- `Bares x y`: x without its spans is y.
record Bares (x y : Folded) : Type 0 where
  bared : bare x ≡ y

itself : (a : Folded) → Bares a (bare a)
itself a = record { bared = refl }

-- Chains have no spans.
bare_of_sum : (f : List ℕ) → bare (of_sum f) ≡ of_sum f
unfolding bare
bare_of_sum [] = refl
bare_of_sum (a ∷ []) = refl
bare_of_sum (a ∷ b ∷ f) = refl

bare_of_product : (f : List ℕ) → bare (of_product f) ≡ of_product f
unfolding bare
bare_of_product [] = refl
bare_of_product (a ∷ []) = refl
bare_of_product (a ∷ b ∷ f) = refl

bare-constant : {c d : ℕ} → c ≡ d → Bares (constant c) (constant d)
unfolding bare
bare-constant e = record { bared = ap constant e }

bare-sum-chain : (f : List ℕ) {g : List ℕ} → f ≡ g → Bares (trimmed_sum f) (trimmed_sum g)
bare-sum-chain f e = record { bared = bare_of_sum (trimmed 0 f) ∙ ap (λ k. trimmed_sum k) e }

bare-product-chain : (f g : List ℕ) → f ≡ g → Bares (trimmed_product f) (trimmed_product g)
bare-product-chain f g e = record { bared = bare_of_product (ProductChain.trimmed_product f) ∙ ap (λ k. trimmed_product k) e }

-- A rule, and the rules after it.
rule : {t u : Bool} {x y z v : Folded} → t ≡ u → Bares x z → Bares y v → Bares (cond t x y) (cond u z v)
rule {t} {u} {x} {y} {z} {v} e here later = record { bared = ap (λ b. bare (cond b x y)) e ∙ go u }
  where
    go : (b : Bool) → bare (cond b x y) ≡ cond b z v
    go true = here.bared
    go false = later.bared

-- ---- each operator
module _ (w : ℕ) (a : Folded) where
  bare-minus : (s : Span) → Bares (fold_minus w s a) (fold_minus w none (bare a))
  unfolding fold_minus bare
  bare-minus s =
      let l = bare-seen a in
      rule l.constantly (bare-constant (ap (λ f. Word.negation w (value 0 f)) l.same))
      (rule l.summed (bare-sum-chain _ (ap (λ f. map (λ x. Word.negation w x) f) l.same))
      (rule l.multiplied
      (bare-product-chain (Word.negation w (word_of a) ∷ rest (elements a)) (Word.negation w (word_of (bare a)) ∷ rest (elements (bare a)))
      (ap {B = List ℕ} (λ f. Word.negation w (value 0 f) ∷ rest f) l.same))
      (record { bared = refl })))

  bare-power : (s : Span) (n : ℕ) → Bares (fold_power w s a n) (fold_power w none (bare a) n)
  unfolding fold_power bare
  bare-power s n =
      let l = bare-seen a in
      let row : Bares (power_row s a n) (power_row none (bare a) n) = record { bared = refl } in
      rule l.constantly (bare-constant (ap (λ f. Word.power w (value 0 f) n) l.same))
      (rule {t = eqb n 0} refl (bare-constant {c = 1} refl)
      (rule {t = eqb n 1} refl (itself a)
      (rule (ap₂ (λ b f. b && leb ((length f - 1) * n) 16) l.summed l.same) (bare-sum-chain _ (ap (λ f. words w (SumChain.power f n)) l.same))
      (rule l.multiplied
      (bare-product-chain (words w (ProductChain.power_of_each (elements a) n)) (words w (ProductChain.power_of_each (elements (bare a)) n))
      (ap (λ f. words w (ProductChain.power_of_each f n)) l.same))
      row))))

module _ (w : ℕ) (s : Spans) (a b : Folded) where
  same_constants : constants a b ≡ constants (bare a) (bare b)
  same_constants = ap₂ ◌&&◌ (bare-seen a).constantly (bare-seen b).constantly

  same_is : (n : ℕ) (c : Folded) → is n c ≡ is n (bare c)
  same_is n c = ap₂ (λ t f. t && eqb (value 0 f) n) (bare-seen c).constantly (bare-seen c).same

  same_sums : (is_sum a && is_sum b) ≡ (is_sum (bare a) && is_sum (bare b))
  same_sums = ap₂ ◌&&◌ (both a) (both b)
    where
      both : (c : Folded) → is_sum c ≡ is_sum (bare c)
      both c = ap₂ ◌||◌ (bare-seen c).constantly (bare-seen c).summed

  -- What is made of both chains.
  joined : {A : Type 0} (h : List ℕ → List ℕ → A) → h (elements a) (elements b) ≡ h (elements (bare a)) (elements (bare b))
  joined h = ap₂ h (bare-seen a).same (bare-seen b).same

  bare-sum : Bares (fold_sum w s a b) (fold_sum w neither (bare a) (bare b))
  unfolding fold_sum bare
  bare-sum =
      rule same_constants (bare-constant (joined (λ f g. Word.sum w (value 0 f) (value 0 g))))
      (rule same_sums (bare-sum-chain _ (joined (λ f g. words w (SumChain.sum f g))))
      (rule (same_is 0 b) (itself a)
      (rule (same_is 0 a) (itself b) (record { bared = refl }))))

  bare-difference : Bares (fold_difference w s a b) (fold_difference w neither (bare a) (bare b))
  unfolding fold_difference bare
  bare-difference =
      rule same_constants (bare-constant (joined (λ f g. Word.difference w (value 0 f) (value 0 g))))
      (rule same_sums (bare-sum-chain _ (joined (λ f g. SumChain.difference w f g)))
      (rule (same_is 0 b) (itself a)
      (rule (same_is 0 a) (bare-minus w b s.right) (record { bared = refl }))))

  bare-raise : Bares (fold_raise w s a b) (fold_raise w neither (bare a) (bare b))
  unfolding fold_raise bare
  bare-raise =
      rule same_constants (bare-constant (joined (λ f g. Word.power w (value 0 f) (value 0 g))))
      (rule (ap₂ ◌&&◌ (bare-seen a).constantly (bare-seen b).summed)
      (bare-product-chain (words w (ProductChain.raised (word_of a) (elements b))) (words w (ProductChain.raised (word_of (bare a)) (elements (bare b))))
      (joined (λ f g. words w (ProductChain.raised (value 0 f) g))))
      (record { bared = refl }))

  bare-product : Bares (fold_product w s a b) (fold_product w neither (bare a) (bare b))
  unfolding fold_product bare
  bare-product =
      let l = bare-seen a in
      let r = bare-seen b in
      rule same_constants (bare-constant (joined (λ f g. Word.product w (value 0 f) (value 0 g))))
      (rule (same_is 1 a) (itself b)
      (rule (same_is 1 b) (itself a)
      (rule (ap₂ ◌||◌ (same_is 0 a) (same_is 0 b)) (bare-constant refl)
      (rule (ap₂ ◌&&◌ l.constantly r.summed) (bare-sum-chain _ (joined (λ f g. words w (SumChain.scaled (value 0 f) g))))
      (rule (ap₂ ◌&&◌ l.summed r.constantly) (bare-sum-chain _ (joined (λ f g. words w (SumChain.scaled (value 0 g) f))))
      (rule (ap₂ ◌&&◌ l.constantly r.multiplied)
      (bare-product-chain (words w (ProductChain.scaled_first (word_of a) (elements b))) (words w (ProductChain.scaled_first (word_of (bare a)) (elements (bare b))))
      (joined (λ f g. words w (ProductChain.scaled_first (value 0 f) g))))
      (rule (ap₂ ◌&&◌ l.multiplied r.constantly)
      (bare-product-chain (words w (ProductChain.scaled_first (word_of b) (elements a))) (words w (ProductChain.scaled_first (word_of (bare b)) (elements (bare a))))
      (joined (λ f g. words w (ProductChain.scaled_first (value 0 g) f))))
      (rule (ap₂ ◌&&◌ l.multiplied r.multiplied)
      (bare-product-chain (words w (ProductChain.joint_product (elements a) (elements b))) (words w (ProductChain.joint_product (elements (bare a)) (elements (bare b))))
      (joined (λ f g. words w (ProductChain.joint_product f g))))
      (rule (ap₂ (λ t u. t && u) (ap₂ ◌&&◌ l.summed r.summed) (joined (λ f g. leb (length f - 1 + (length g - 1)) 16)))
      (bare-sum-chain _ (joined (λ f g. words w (SumChain.product f g))))
      (record { bared = refl }))))))))))

-- ---- formula trees that are alike but for spans and places
pub data Alike : Tree → Tree → Type 0 where
  numbers : {s k : Span} {p q v : ℕ} → Alike (Tree.number s p v) (Tree.number k q v)
  variables : {s k : Span} → Alike (Tree.variable s) (Tree.variable k)
  sums : {s k : Span} {a b c d : Tree} → Alike a c → Alike b d → Alike (Tree.sum s a b) (Tree.sum k c d)
  differences : {s k : Span} {a b c d : Tree} → Alike a c → Alike b d → Alike (Tree.difference s a b) (Tree.difference k c d)
  products : {s k : Span} {a b c d : Tree} → Alike a c → Alike b d → Alike (Tree.product s a b) (Tree.product k c d)
  minuses : {s k : Span} {a c : Tree} → Alike a c → Alike (Tree.minus s a) (Tree.minus k c)
  powers : {s k : Span} {a c : Tree} {p q n : ℕ} → Alike a c → Alike (Tree.literal_power s a p n) (Tree.literal_power k c q n)
  raises : {s k : Span} {a b c d : Tree} {p q : ℕ} → Alike a c → Alike b d → Alike (Tree.raise s a p b) (Tree.raise k c q d)

pub fold_alike : (w start step : ℕ) {t u : Tree} → Alike t u → bare (fold w start step t) ≡ bare (fold w start step u)
unfolding fold
fold_alike w start step numbers = refl
fold_alike w start step variables = refl
fold_alike w start step (sums h k) =
    (bare-sum w _ _ _).bared ∙ ap₂ (fold_sum w neither) (fold_alike w start step h) (fold_alike w start step k) ∙ sym (bare-sum w _ _ _).bared
fold_alike w start step (differences h k) =
    (bare-difference w _ _ _).bared ∙ ap₂ (fold_difference w neither) (fold_alike w start step h) (fold_alike w start step k)
    ∙ sym (bare-difference w _ _ _).bared
fold_alike w start step (products h k) =
    (bare-product w _ _ _).bared ∙ ap₂ (fold_product w neither) (fold_alike w start step h) (fold_alike w start step k) ∙ sym (bare-product w _ _ _).bared
fold_alike w start step (minuses h) =
    (bare-minus w _ _).bared ∙ ap (fold_minus w none) (fold_alike w start step h) ∙ sym (bare-minus w _ _).bared
fold_alike w start step (powers {n = n} h) =
    (bare-power w _ _ n).bared ∙ ap (λ a. fold_power w none a n) (fold_alike w start step h) ∙ sym (bare-power w _ _ n).bared
fold_alike w start step (raises h k) =
    (bare-raise w _ _ _).bared ∙ ap₂ (fold_raise w neither) (fold_alike w start step h) (fold_alike w start step k) ∙ sym (bare-raise w _ _ _).bared
