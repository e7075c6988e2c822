-- Backward sum chains: shift and inverse shift cancel in either order, for forward chains too, and the value of a sum and of a product at every index, ahead of
-- the present one and before it.
use mathlib.Core.Path.{◌≡◌, refl, sym, ap, ap₂, ◌∙◌}
use mathlib.Core.Bool.{Bool, true, false, cond}
use mathlib.Core.List.{List, [], ◌∷◌}
use Prim.Native.Nat.{ℕ, zero, suc, ◌+◌, ◌-◌, ◌*◌, ◌%◌, ◌^◌}
use native.Mathlib.Nat.{zero-mod, add-zero, mul-zero, mod-mod}
use native.Mathlib.Omega.{arith}
use lib.Dec.{eqb}
use borrow.Author.Tests.{eqb-true}
use Rattle.word.specs.Word as Word
use Rattle.word.proofs.Modulo.{add_same, mul_same}
use Rattle.word.proofs.Ring.{difference-sum}
use Rattle.chain.specs.Chain.{value, rest, meeting, shift_from_top, shifted, value_at, words, with_last, without_trailing, trimmed}
use Rattle.chain.specs.SumChain.{sum_shift, sum, times, product_by}
use Rattle.chain.specs.SumChain as SumChain
use Rattle.chain.specs.BackwardChain.{shift, inverse_shift, after, value_ahead, value_before, product}
use Rattle.chain.proofs.Values as Values
use Rattle.chain.proofs.Trimming.{value-trimmed}
use Rattle.chain.proofs.SumLaws.{minus_is, product_by_none, product_by_value}
use Rattle.chain.proofs.Shifting.{top_undoes_bottom, bottom_undoes_top, sum_undone, words-shift, words-from_top, sum_of_words, difference_of_words}
use Rattle.chain.specs.Chain as Chain

-- ---- the same step taken i times
pub after_next : (step : List ℕ → List ℕ) (i : ℕ) (f : List ℕ) → after step (suc i) f ≡ step (after step i f)
unfolding after
after_next step zero f = refl
after_next step (suc i) f = after_next step i (step f)

pub after_along : (h : List ℕ → List ℕ) (step there : List ℕ → List ℕ) → ((f : List ℕ) → h (step f) ≡ there (h f))
    → (i : ℕ) (f : List ℕ) → h (after step i f) ≡ after there i (h f)
unfolding after
after_along h step there same zero f = refl
after_along h step there same (suc i) f = after_along h step there same i (step f) ∙ ap (λ g. after there i g) (same f)

pub words_twice : (w : ℕ) (f : List ℕ) → words w (words w f) ≡ words w f
words_twice w [] = refl
words_twice w (a ∷ f) = ap₂ {B = List ℕ} {C = List ℕ} ◌∷◌ (mod-mod a (2 ^ w)) (words_twice w f)

module _ (w : ℕ) where
  -- ---- steps of words
  pub forward_words : (f : List ℕ) → words w (sum_shift f) ≡ Chain.shift (Word.sum w) (words w f)
  forward_words f = words-shift w ◌+◌ (Word.sum w) (sum_of_words w) f

  pub forward_inverse_words : (f : List ℕ) → words w (SumChain.inverse_shift w f) ≡ SumChain.inverse_shift w (words w f)
  forward_inverse_words f = words-from_top w (Word.difference w) (Word.difference w) (difference_of_words w) f

  pub backward_words : (f : List ℕ) → words w (shift f) ≡ shift_from_top (Word.sum w) (words w f)
  backward_words f = words-from_top w ◌+◌ (Word.sum w) (sum_of_words w) f

  pub backward_inverse_words : (f : List ℕ) → words w (inverse_shift w f) ≡ inverse_shift w (words w f)
  backward_inverse_words f = words-shift w (Word.difference w) (Word.difference w) (difference_of_words w) f

  -- ---- "shift and inverse shift cancel in either order"; that an inverse shift takes a forward chain's shift back is in Shifting.antt
  pub shift_unshift : (f : List ℕ) → words w (sum_shift (SumChain.inverse_shift w f)) ≡ words w f
  shift_unshift f =
      forward_words (SumChain.inverse_shift w f)
      ∙ ap (λ g. Chain.shift (Word.sum w) g) (forward_inverse_words f)
      ∙ bottom_undoes_top w (Word.difference w) (Word.sum w) (difference-sum w) f

  pub backward_unshift_shift : (f : List ℕ) → inverse_shift w (words w (shift f)) ≡ words w f
  backward_unshift_shift f =
      ap (λ g. inverse_shift w g) (backward_words f) ∙ bottom_undoes_top w (Word.sum w) (Word.difference w) (sum_undone w) f

  pub backward_shift_unshift : (f : List ℕ) → words w (shift (inverse_shift w f)) ≡ words w f
  backward_shift_unshift f =
      backward_words (inverse_shift w f)
      ∙ ap (λ g. shift_from_top (Word.sum w) g) (backward_inverse_words f)
      ∙ top_undoes_bottom w (Word.difference w) (Word.sum w) (difference-sum w) f

  -- ---- the value ahead
  pub value_of_words : (f : List ℕ) → value 0 f % 2 ^ w ≡ value 0 (words w f)
  value_of_words f = sym (Values.value-map (λ a. a % 2 ^ w) 0 0 (zero-mod (2 ^ w)) f)

  pub ahead_as : (f : List ℕ) (i : ℕ) → value_ahead f i % 2 ^ w ≡ value 0 (after (shift_from_top (Word.sum w)) i (words w f))
  ahead_as f i = value_of_words (after shift i f) ∙ ap (λ g. value 0 g) (after_along (words w) shift (shift_from_top (Word.sum w)) backward_words i f)

  pub ahead-words : (f : List ℕ) (i : ℕ) → value_ahead (words w f) i % 2 ^ w ≡ value_ahead f i % 2 ^ w
  ahead-words f i =
      ahead_as (words w f) i ∙ ap (λ g. value 0 (after (shift_from_top (Word.sum w)) i g)) (words_twice w f) ∙ sym (ahead_as f i)

  -- An inverse shift goes back by one index.
  pub ahead_unshift : (f : List ℕ) (i : ℕ) → value_ahead (inverse_shift w f) (suc i) % 2 ^ w ≡ value_ahead f i % 2 ^ w
  unfolding after
  ahead_unshift f i =
      ahead_as (shift (inverse_shift w f)) i
      ∙ ap (λ g. value 0 (after (shift_from_top (Word.sum w)) i g)) (backward_shift_unshift f)
      ∙ sym (ahead_as f i)

top_value : (f : List ℕ) → value 0 (shift f) ≡ value 0 f + value 0 (shift (rest f))
unfolding shift_from_top meeting
top_value [] = refl
top_value (a ∷ f) = go (shift f)
  where
    go : (g : List ℕ) → value 0 (meeting ◌+◌ a g) ≡ a + value 0 g
    go [] = omega arith
    go (b ∷ g) = refl

-- The step law: the value at i + 1 is the value at i and the rest's value at i + 1.
pub ahead-next : (f : List ℕ) (i : ℕ) → value_ahead f (suc i) ≡ value_ahead f i + value_ahead (rest f) (suc i)
ahead-next f i =
    ap (λ g. value 0 g) (after_next shift i f)
    ∙ top_value (after shift i f)
    ∙ ap (λ g. value_ahead f i + value 0 g)
    (ap (λ g. shift g) (after_along rest shift shift (Values.from_top_rest ◌+◌) i f) ∙ sym (after_next shift i (rest f)))

ahead_none : (i : ℕ) → value_ahead [] i ≡ 0
unfolding after shift_from_top
ahead_none zero = refl
ahead_none (suc i) = ahead_none i

-- Trimming changes no value.
ahead-cons : (a : ℕ) (f g : List ℕ) → ((i : ℕ) → value_ahead f i ≡ value_ahead g i) → (i : ℕ) → value_ahead (a ∷ f) i ≡ value_ahead (a ∷ g) i
unfolding after
ahead-cons a f g same zero = refl
ahead-cons a f g same (suc i) = ahead-next (a ∷ f) i ∙ ap₂ ◌+◌ (ahead-cons a f g same i) (same (suc i)) ∙ sym (ahead-next (a ∷ g) i)

ahead-constant : (a i : ℕ) → value_ahead (a ∷ []) i ≡ a
unfolding after
ahead-constant a zero = refl
ahead-constant a (suc i) = ahead-next (a ∷ []) i ∙ ap₂ ◌+◌ (ahead-constant a i) (ahead_none (suc i)) ∙ add-zero a

ahead_with_last : (a : ℕ) (f : List ℕ) (i : ℕ) → value_ahead (with_last 0 a f) i ≡ value_ahead (a ∷ f) i
unfolding with_last
ahead_with_last a [] i = go (eqb a 0) refl
  where
    go : (t : Bool) → eqb a 0 ≡ t → value_ahead (cond t [] (a ∷ [])) i ≡ value_ahead (a ∷ []) i
    go true e = ahead_none i ∙ sym (eqb-true a 0 e) ∙ sym (ahead-constant a i)
    go false e = refl
ahead_with_last a (b ∷ f) i = refl

ahead_without_trailing : (f : List ℕ) (i : ℕ) → value_ahead (without_trailing 0 f) i ≡ value_ahead f i
unfolding without_trailing
ahead_without_trailing [] i = refl
ahead_without_trailing (a ∷ f) i = ahead_with_last a (without_trailing 0 f) i ∙ ahead-cons a (without_trailing 0 f) f (ahead_without_trailing f) i

pub ahead-trimmed : (f : List ℕ) (i : ℕ) → value_ahead (trimmed 0 f) i ≡ value_ahead f i
unfolding trimmed without_trailing
ahead-trimmed [] i = ahead-constant 0 i ∙ sym (ahead_none i)
ahead-trimmed (a ∷ f) i = ahead-cons a (without_trailing 0 f) f (ahead_without_trailing f) i

swap : (a b c d : ℕ) → (a + b) + (c + d) ≡ (a + c) + (b + d)
swap a b c d = omega arith

pub ahead-sum : (i : ℕ) (f g : List ℕ) → value_ahead (sum f g) i ≡ value_ahead f i + value_ahead g i
unfolding after Chain.joined
ahead-sum zero f g = Values.joined-value ◌+◌ 0 add-zero f g
ahead-sum (suc i) f g = go (λ f g. ahead-sum i f g) f g
  where
    step : ((f g : List ℕ) → value_ahead (sum f g) i ≡ value_ahead f i + value_ahead g i) → (f g : List ℕ)
        → value_ahead (sum (rest f) (rest g)) (suc i) ≡ value_ahead (rest f) (suc i) + value_ahead (rest g) (suc i)
        → value_ahead (sum f g) (suc i) ≡ value_ahead f (suc i) + value_ahead g (suc i)
    step now f g later =
        ahead-next (sum f g) i
        ∙ ap₂ ◌+◌ (now f g) (ap (λ h. value_ahead h (suc i)) (Values.joined-rest ◌+◌ 0 add-zero f g) ∙ later)
        ∙ swap (value_ahead f i) (value_ahead g i) (value_ahead (rest f) (suc i)) (value_ahead (rest g) (suc i))
        ∙ sym (ap₂ ◌+◌ (ahead-next f i) (ahead-next g i))

    go : ((f g : List ℕ) → value_ahead (sum f g) i ≡ value_ahead f i + value_ahead g i) → (f g : List ℕ)
        → value_ahead (sum f g) (suc i) ≡ value_ahead f (suc i) + value_ahead g (suc i)
    go now [] [] = ahead_none (suc i) ∙ sym (ap₂ ◌+◌ (ahead_none (suc i)) (ahead_none (suc i)))
    go now [] (b ∷ g) = step now [] (b ∷ g) (go now [] g)
    go now (a ∷ f) [] = step now (a ∷ f) [] (go now f [])
    go now (a ∷ f) (b ∷ g) = step now (a ∷ f) (b ∷ g) (go now f g)

-- ---- the product ahead: 000's rule for backward chains
pub backward_rule : (w a b : ℕ) (f g : List ℕ)
    → product w (a ∷ f) (b ∷ g) ≡ (a * b) ∷ sum (product w (a ∷ f) g) (product w f (inverse_shift w (b ∷ g)))
unfolding product_by times
backward_rule w a b f g = refl

pub backward_none : (w : ℕ) (g : List ℕ) → product w [] g ≡ []
unfolding product_by
backward_none w g = refl

module _ (w : ℕ) where
  pub ahead-product : (i : ℕ) (f g : List ℕ) → value_ahead (product w f g) i % 2 ^ w ≡ (value_ahead f i * value_ahead g i) % 2 ^ w
  unfolding after
  ahead-product zero f g = ap (λ z. z % 2 ^ w) (product_by_value (inverse_shift w) f g)
  ahead-product (suc i) f g = go (λ f g. ahead-product i f g) f g
    where
      spread : (x y u v : ℕ) → x * y + ((x + u) * v + u * y) ≡ (x + u) * (y + v)
      spread x y u v = omega arith

      joint : ((f g : List ℕ) → value_ahead (product w f g) i % 2 ^ w ≡ (value_ahead f i * value_ahead g i) % 2 ^ w) → (a b : ℕ) (f g : List ℕ)
          → value_ahead (product w (a ∷ f) g) (suc i) % 2 ^ w ≡ (value_ahead (a ∷ f) (suc i) * value_ahead g (suc i)) % 2 ^ w
          → value_ahead (product w f (inverse_shift w (b ∷ g))) (suc i) % 2 ^ w ≡ (value_ahead f (suc i) * value_ahead (inverse_shift w (b ∷ g)) (suc i)) % 2 ^ w
          → value_ahead (product w (a ∷ f) (b ∷ g)) (suc i) % 2 ^ w ≡ (value_ahead (a ∷ f) (suc i) * value_ahead (b ∷ g) (suc i)) % 2 ^ w
      joint now a b f g left right =
          ap (λ z. z % 2 ^ w) (ahead-next (product w (a ∷ f) (b ∷ g)) i)
          ∙ add_same (2 ^ w) (value_ahead (product w (a ∷ f) (b ∷ g)) i) (x * y)
          (value_ahead (rest (product w (a ∷ f) (b ∷ g))) (suc i)) ((x + u) * v + u * y)
          (now (a ∷ f) (b ∷ g))
          (ap (λ z. z % 2 ^ w)
          (ap (λ h. value_ahead h (suc i)) (ap (λ h. rest h) (backward_rule w a b f g)) ∙ ahead-sum (suc i) (product w (a ∷ f) g) (product w f (inverse_shift w (b ∷ g))))
          ∙ add_same (2 ^ w) (value_ahead (product w (a ∷ f) g) (suc i)) ((x + u) * v)
          (value_ahead (product w f (inverse_shift w (b ∷ g))) (suc i)) (u * y)
          (left ∙ ap (λ z. (z * v) % 2 ^ w) (ahead-next (a ∷ f) i))
          (right ∙ mul_same (2 ^ w) u u (value_ahead (inverse_shift w (b ∷ g)) (suc i)) y refl (ahead_unshift w (b ∷ g) i)))
          ∙ ap (λ z. z % 2 ^ w) (spread x y u v ∙ sym (ap₂ ◌*◌ (ahead-next (a ∷ f) i) (ahead-next (b ∷ g) i)))
        where
          x : ℕ
          x = value_ahead (a ∷ f) i

          y : ℕ
          y = value_ahead (b ∷ g) i

          u : ℕ
          u = value_ahead f (suc i)

          v : ℕ
          v = value_ahead g (suc i)

      go : ((f g : List ℕ) → value_ahead (product w f g) i % 2 ^ w ≡ (value_ahead f i * value_ahead g i) % 2 ^ w) → (f g : List ℕ)
          → value_ahead (product w f g) (suc i) % 2 ^ w ≡ (value_ahead f (suc i) * value_ahead g (suc i)) % 2 ^ w
      go now [] g = rw (backward_none w g, ahead_none (suc i)) (ap (λ z. z % 2 ^ w) (omega arith))
      go now (a ∷ f) [] = ap (λ z. z % 2 ^ w) (ap (λ h. value_ahead h (suc i)) (product_by_none (inverse_shift w) (a ∷ f)) ∙ ahead_none (suc i) ∙ sym (ap (λ z. value_ahead (a ∷ f) (suc i) * z) (ahead_none (suc i)) ∙ mul-zero (value_ahead (a ∷ f) (suc i))))
      go now (a ∷ f) (b ∷ g) = joint now a b f g (go now (a ∷ f) g) (go now f (inverse_shift w (b ∷ g)))

-- ---- the value before: subtracting is adding 2^w - 1 times, modulo 2^w, and so a whole number's work
module _ (w : ℕ) where
  abbrev pub less : ℕ → ℕ → ℕ
  less a b = a + (2 ^ w - 1) * b

  less_zero : (a : ℕ) → less a 0 ≡ a
  less_zero a = ap (λ z. a + z) (mul-zero (2 ^ w - 1)) ∙ add-zero a

  less_of_words : (a b : ℕ) → less a b % 2 ^ w ≡ Word.difference w (a % 2 ^ w) (b % 2 ^ w)
  less_of_words a b = sym (minus_is w a b) ∙ sym (mod-mod (a + (2 ^ w - b % 2 ^ w)) (2 ^ w)) ∙ difference_of_words w a b

  shifted_as : (i : ℕ) (f : List ℕ) → words w (shifted less i f) ≡ after (inverse_shift w) i (words w f)
  unfolding shifted after
  shifted_as zero f = refl
  shifted_as (suc i) f =
      shifted_as i (Chain.shift less f) ∙ ap (λ g. after (inverse_shift w) i g) (words-shift w less (Word.difference w) less_of_words f)

  pub before_as : (f : List ℕ) (i : ℕ) → value_before w f i % 2 ^ w ≡ value_at less 0 f i % 2 ^ w
  unfolding value_at
  before_as f i =
      value_of_words w (after (inverse_shift w) i f)
      ∙ ap (λ g. value 0 g) (after_along (words w) (inverse_shift w) (inverse_shift w) (backward_inverse_words w) i f ∙ sym (shifted_as i f))
      ∙ sym (value_of_words w (shifted less i f))

  pub before-words : (f : List ℕ) (i : ℕ) → value_before w (words w f) i % 2 ^ w ≡ value_before w f i % 2 ^ w
  before-words f i =
      same (words w f) ∙ ap (λ g. value 0 (after (inverse_shift w) i g)) (words_twice w f) ∙ sym (same f)
    where
      same : (f : List ℕ) → value_before w f i % 2 ^ w ≡ value 0 (after (inverse_shift w) i (words w f))
      same f =
          value_of_words w (after (inverse_shift w) i f)
          ∙ ap (λ g. value 0 g) (after_along (words w) (inverse_shift w) (inverse_shift w) (backward_inverse_words w) i f)

  pub before-next : (f : List ℕ) (i : ℕ) → value_at less 0 f (suc i) ≡ less (value_at less 0 f i) (value_at less 0 (rest f) i)
  before-next f i = Values.value-next less 0 less_zero f i

  pub before-trimmed : (f : List ℕ) (i : ℕ) → value_before w (trimmed 0 f) i % 2 ^ w ≡ value_before w f i % 2 ^ w
  before-trimmed f i = before_as (trimmed 0 f) i ∙ ap (λ z. z % 2 ^ w) (value-trimmed less 0 less_zero f i) ∙ sym (before_as f i)

  whole_sum : (i : ℕ) (f g : List ℕ) → value_at less 0 (sum f g) i ≡ value_at less 0 f i + value_at less 0 g i
  whole_sum zero f g =
      Values.value-now less 0 less_zero (sum f g)
      ∙ Values.joined-value ◌+◌ 0 add-zero f g
      ∙ sym (ap₂ ◌+◌ (Values.value-now less 0 less_zero f) (Values.value-now less 0 less_zero g))
  whole_sum (suc i) f g =
      before-next (sum f g) i
      ∙ ap₂ less (whole_sum i f g) (ap (λ h. value_at less 0 h i) (Values.joined-rest ◌+◌ 0 add-zero f g) ∙ whole_sum i (rest f) (rest g))
      ∙ apart (value_at less 0 f i) (value_at less 0 g i) (value_at less 0 (rest f) i) (value_at less 0 (rest g) i) (2 ^ w - 1)
      ∙ sym (ap₂ ◌+◌ (before-next f i) (before-next g i))
    where
      apart : (a b c d m : ℕ) → (a + b) + m * (c + d) ≡ (a + m * c) + (b + m * d)
      apart a b c d m = omega arith

  pub before-sum : (i : ℕ) (f g : List ℕ) → value_before w (sum f g) i % 2 ^ w ≡ (value_before w f i + value_before w g i) % 2 ^ w
  before-sum i f g =
      before_as (sum f g) i
      ∙ ap (λ z. z % 2 ^ w) (whole_sum i f g)
      ∙ add_same (2 ^ w) (value_at less 0 f i) (value_before w f i) (value_at less 0 g i) (value_before w g i) (sym (before_as f i)) (sym (before_as g i))

  -- An inverse shift goes on by one index.
  before_unshift : (f : List ℕ) (i : ℕ) → value_at less 0 (inverse_shift w f) i % 2 ^ w ≡ value_at less 0 f (suc i) % 2 ^ w
  unfolding after
  before_unshift f i = sym (before_as (inverse_shift w f) i) ∙ before_as f (suc i)

  product-rest : (f g : List ℕ) → rest (product w f g) ≡ sum (product w f (rest g)) (product w (rest f) (inverse_shift w g))
  unfolding product_by times Chain.shift Chain.joined
  product-rest [] g = refl
  product-rest (a ∷ f) [] = ap (λ h. sum [] h) (sym (product_by_none (inverse_shift w) f))
  product-rest (a ∷ f) (b ∷ g) = refl

  pub whole-product : (i : ℕ) (f g : List ℕ) → value_at less 0 (product w f g) i % 2 ^ w ≡ (value_at less 0 f i * value_at less 0 g i) % 2 ^ w
  whole-product zero f g =
      ap (λ z. z % 2 ^ w)
      (Values.value-now less 0 less_zero (product w f g)
      ∙ product_by_value (inverse_shift w) f g
      ∙ sym (ap₂ ◌*◌ (Values.value-now less 0 less_zero f) (Values.value-now less 0 less_zero g)))
  whole-product (suc i) f g =
      ap (λ z. z % 2 ^ w)
      (before-next (product w f g) i
      ∙ ap (λ z. value_at less 0 (product w f g) i + (2 ^ w - 1) * z)
      (ap (λ h. value_at less 0 h i) (product-rest f g) ∙ whole_sum i (product w f (rest g)) (product w (rest f) (inverse_shift w g))))
      ∙ add_same (2 ^ w) (value_at less 0 (product w f g) i) (x * y)
      ((2 ^ w - 1) * (value_at less 0 (product w f (rest g)) i + value_at less 0 (product w (rest f) (inverse_shift w g)) i))
      ((2 ^ w - 1) * (x * v + u * (y + (2 ^ w - 1) * v)))
      (whole-product i f g)
      (mul_same (2 ^ w) (2 ^ w - 1) (2 ^ w - 1)
      (value_at less 0 (product w f (rest g)) i + value_at less 0 (product w (rest f) (inverse_shift w g)) i) (x * v + u * (y + (2 ^ w - 1) * v)) refl
      (add_same (2 ^ w) (value_at less 0 (product w f (rest g)) i) (x * v) (value_at less 0 (product w (rest f) (inverse_shift w g)) i) (u * (y + (2 ^ w - 1) * v))
      (whole-product i f (rest g))
      (whole-product i (rest f) (inverse_shift w g)
      ∙ mul_same (2 ^ w) u u (value_at less 0 (inverse_shift w g) i) (y + (2 ^ w - 1) * v) refl (before_unshift g i ∙ ap (λ z. z % 2 ^ w) (before-next g i)))))
      ∙ ap (λ z. z % 2 ^ w) (spread x y u v (2 ^ w - 1) ∙ sym (ap₂ ◌*◌ (before-next f i) (before-next g i)))
    where
      x : ℕ
      x = value_at less 0 f i

      y : ℕ
      y = value_at less 0 g i

      u : ℕ
      u = value_at less 0 (rest f) i

      v : ℕ
      v = value_at less 0 (rest g) i

      spread : (x y u v m : ℕ) → x * y + m * (x * v + u * (y + m * v)) ≡ (x + m * u) * (y + m * v)
      spread x y u v m = omega arith

  pub before-product : (i : ℕ) (f g : List ℕ) → value_before w (product w f g) i % 2 ^ w ≡ (value_before w f i * value_before w g i) % 2 ^ w
  before-product i f g =
      before_as (product w f g) i
      ∙ whole-product i f g
      ∙ mul_same (2 ^ w) (value_at less 0 f i) (value_before w f i) (value_at less 0 g i) (value_before w g i) (sym (before_as f i)) (sym (before_as g i))
