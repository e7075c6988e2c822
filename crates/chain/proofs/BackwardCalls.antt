-- The calls for tables that run backwards: zeros past a chain's elements change nothing, so what a call works out on 17 words is what its outcome says on the
-- trimmed chain; and what the outcomes promise: there and back, the length, one answer.
use mathlib.Core.Path.{◌≡◌, refl, sym, ap, ap₂, subst, ◌∙◌}
use mathlib.Core.Bool.{cond}
use mathlib.Core.List.{List, [], ◌∷◌}
use Prim.Native.Nat.{ℕ, zero, suc, ◌+◌, ◌-◌, ◌%◌, ◌^◌, ◌<◌, ◌≤◌}
use native.Mathlib.Nat.{zero-mod, mod-mod, add-mod-mod, le_of_suc-le-suc, not-suc-le-zero}
use native.Mathlib.Omega.{arith}
use lib.ListN.{length, get_or, take, length-map}
use lib.Seq.{take-length}
use lib.Pow.{pow_pos}
use borrow.Author.Tests.{le-ltb}
use Rattle.word.specs.Word as Word
use Rattle.word.proofs.Ring as Ring
use Rattle.chain.specs.Chain.{rest, shift, meeting, shift_from_top, words, without_trailing, trimmed, row}
use Rattle.chain.specs.BackwardChain.{converted_in, converted, to_backward, to_forward}
use Rattle.chain.specs.BackwardChain as BackwardChain
use Rattle.chain.specs.SumChain as SumChain
use Rattle.chain.specs.Answer.{answered, refused, chain, given, trim_outcome, shift_outcome}
use Rattle.chain.specs.BackwardAnswer.{changed, inverse_shift_outcome, backward_shift_outcome, backward_inverse_shift_outcome, to_backward_outcome, to_forward_outcome}
use Rattle.chain.proofs.Trimming.{row-trimmed, trimmed-row, length-trimmed_some, take-trimmed, trimmed_twice, same_with_last, plus-zero, from_top_length, trimmed-length, bottom_keeps_length, top_keeps_length}
use Rattle.chain.proofs.Rows.{entry_words, words-whole}
use Rattle.chain.proofs.Shifting.{length_shift, length-from_top, unshift_shift}
use Rattle.chain.proofs.Backward.{forward_inverse_words, backward_inverse_words, shift_unshift, backward_unshift_shift, backward_shift_unshift}
use Rattle.chain.proofs.Conversions.{convert-next, convert-none, length-converted, to_backward_words, forward_again, backward_again}
use Rattle.chain.proofs.Calls.{length-given}

-- ---- padding
module _ (w : ℕ) (◌⊙◌ : ℕ → ℕ → ℕ) (right_zero : (a : ℕ) → ◌⊙◌ (a % 2 ^ w) 0 ≡ a % 2 ^ w) where
  zero-zero : ◌⊙◌ 0 0 ≡ 0
  zero-zero = ap (λ z. ◌⊙◌ z 0) (sym (zero-mod (2 ^ w))) ∙ right_zero 0 ∙ zero-mod (2 ^ w)

  top_zeros : (n : ℕ) → shift_from_top ◌⊙◌ (row n []) ≡ row n []
  unfolding shift_from_top row meeting
  top_zeros zero = refl
  top_zeros (suc n) = ap (λ g. meeting ◌⊙◌ 0 g) (top_zeros n) ∙ go n
    where
      go : (n : ℕ) → meeting ◌⊙◌ 0 (row n []) ≡ 0 ∷ row n []
      go zero = refl
      go (suc n) = ap {B = List ℕ} (λ z. z ∷ 0 ∷ row n []) zero-zero

  pub top_pads : (n : ℕ) (f : List ℕ) → length f ≤ n → shift_from_top ◌⊙◌ (row n (words w f)) ≡ row n (shift_from_top ◌⊙◌ (words w f))
  unfolding shift_from_top row meeting
  top_pads n [] h = top_zeros n
  top_pads zero (a ∷ f) h = absurd (not-suc-le-zero h)
  top_pads (suc n) (a ∷ f) h =
      ap (λ g. meeting ◌⊙◌ (a % 2 ^ w) g) (top_pads n f (le_of_suc-le-suc h))
      ∙ go n (shift_from_top ◌⊙◌ (words w f)) (rw (length-from_top ◌⊙◌ (words w f), length-map f (λ a. a % 2 ^ w)) (le_of_suc-le-suc h))
    where
      go : (n : ℕ) (g : List ℕ) → length g ≤ n → meeting ◌⊙◌ (a % 2 ^ w) (row n g) ≡ row (suc n) (meeting ◌⊙◌ (a % 2 ^ w) g)
      go zero [] h = refl
      go (suc n) [] h = ap {B = List ℕ} (λ z. z ∷ 0 ∷ row n []) (right_zero a)
      go zero (b ∷ g) h = absurd (not-suc-le-zero h)
      go (suc n) (b ∷ g) h = refl

  bottom_zeros : (n : ℕ) → shift ◌⊙◌ (row n []) ≡ row n []
  unfolding shift row
  bottom_zeros zero = refl
  bottom_zeros (suc zero) = refl
  bottom_zeros (suc (suc n)) = ap₂ {B = List ℕ} {C = List ℕ} ◌∷◌ zero-zero (bottom_zeros (suc n))

  pub bottom_pads : (n : ℕ) (f : List ℕ) → length f ≤ n → shift ◌⊙◌ (row n (words w f)) ≡ row n (shift ◌⊙◌ (words w f))
  unfolding shift row
  bottom_pads n [] h = bottom_zeros n
  bottom_pads zero (a ∷ f) h = absurd (not-suc-le-zero h)
  bottom_pads (suc zero) (a ∷ []) h = refl
  bottom_pads (suc (suc n)) (a ∷ []) h = ap₂ {B = List ℕ} {C = List ℕ} ◌∷◌ (right_zero a) (bottom_zeros (suc n))
  bottom_pads (suc zero) (a ∷ b ∷ f) h = absurd (not-suc-le-zero (le_of_suc-le-suc h))
  bottom_pads (suc (suc n)) (a ∷ b ∷ f) h = ap {B = List ℕ} (λ g. ◌⊙◌ (a % 2 ^ w) (b % 2 ^ w) ∷ g) (bottom_pads (suc n) (b ∷ f) (le_of_suc-le-suc h))

module _ (w : ℕ) (step : List ℕ → List ℕ) (keeps : (f : List ℕ) → length (step f) ≡ length f) (same : (f : List ℕ) → words w (step f) ≡ step (words w f))
    (pads : (n : ℕ) (f : List ℕ) → length f ≤ n → step (row n (words w f)) ≡ row n (step (words w f))) where
  step-none : step [] ≡ []
  step-none = go (step []) (keeps [])
    where
      go : (g : List ℕ) → length g ≡ 0 → g ≡ []
      go [] e = refl
      go (a ∷ g) e = absurd (omega arith)

  pub converted_pads : (n : ℕ) (f : List ℕ) → length f ≤ n → converted step (row n (words w f)) ≡ row n (converted step (words w f))
  unfolding row
  converted_pads zero f h = convert-none step
  converted_pads (suc n) [] h =
      convert-next step 0 (row n []) (keeps (row n []))
      ∙ ap {B = List ℕ} (λ g. 0 ∷ converted step g) (pads n [] (omega arith) ∙ ap (λ g. row n g) step-none)
      ∙ ap {B = List ℕ} (λ g. 0 ∷ g) (converted_pads n [] (omega arith) ∙ ap (λ g. row n g) (convert-none step))
      ∙ ap (λ g. row (suc n) g) (sym (convert-none step))
  converted_pads (suc n) (a ∷ f) h =
      convert-next step (a % 2 ^ w) (row n (words w f)) (keeps (row n (words w f)))
      ∙ ap {B = List ℕ} (λ g. (a % 2 ^ w) ∷ converted step g) (pads n f (le_of_suc-le-suc h) ∙ ap (λ g. row n g) (sym (same f)))
      ∙ ap {B = List ℕ} (λ g. (a % 2 ^ w) ∷ g)
      (converted_pads n (step f) (rw (keeps f) (le_of_suc-le-suc h)) ∙ ap (λ g. row n (converted step g)) (same f))
      ∙ ap (λ g. row (suc n) g) (sym (convert-next step (a % 2 ^ w) (words w f) (keeps (words w f))))

-- ---- the argument's words
take_fits : (m n : ℕ) (f : List ℕ) → 0 < m → ((i : ℕ) → get_or f i 0 < m) → (i : ℕ) → get_or (take n f) i 0 < m
take_fits m zero f some fits i = some
take_fits m (suc n) [] some fits i = some
take_fits m (suc n) (a ∷ f) some fits zero = fits 0
take_fits m (suc n) (a ∷ f) some fits (suc i) = take_fits m n f some (λ j. fits (suc j)) i

-- Trimming keeps words words.
pub trimmed-words : (w : ℕ) (f : List ℕ) → words w (trimmed 0 (words w f)) ≡ trimmed 0 (words w f)
unfolding trimmed without_trailing
trimmed-words w [] = ap {B = List ℕ} (λ z. z ∷ []) (zero-mod (2 ^ w))
trimmed-words w (a ∷ f) =
    ap (λ g. words w g) (sym prefix)
    ∙ words-whole w (take (length (trimmed 0 (words w (a ∷ f)))) (words w (a ∷ f)))
    (take_fits (2 ^ w) (length (trimmed 0 (words w (a ∷ f)))) (words w (a ∷ f)) (pow_pos w) (λ i. rw (entry_words w (a ∷ f) i) (Ring.word_fits w (get_or (a ∷ f) i 0))))
    ∙ prefix
  where
    prefix : take (length (trimmed 0 (words w (a ∷ f)))) (words w (a ∷ f)) ≡ trimmed 0 (words w (a ∷ f))
    prefix = take-trimmed 0 (words w (a ∷ f)) (omega arith)

module _ (w : ℕ) (f : List ℕ) (k : ℕ) (long : length f ≡ 17) (fits : (i : ℕ) → get_or f i 0 < 2 ^ w) where
  pub kept-words : words w (take (k + 1) f) ≡ take (k + 1) f
  kept-words = words-whole w (take (k + 1) f) (take_fits (2 ^ w) (k + 1) f (pow_pos w) fits)

  pub given-words : words w (given f k) ≡ given f k
  given-words =
      ap (λ g. words w (trimmed 0 g)) (sym kept-words) ∙ trimmed-words w (take (k + 1) f) ∙ ap (λ g. trimmed 0 g) kept-words

  -- 17 words that a change leaves trim to the outcome's chain.
  pub changed_trims : (change : List ℕ → List ℕ) → ((g : List ℕ) → length (change g) ≡ length g)
      → ((n : ℕ) (g : List ℕ) → length g ≤ n → change (row n (words w g)) ≡ row n (change (words w g)))
      → trimmed 0 (change (row 17 (take (k + 1) f))) ≡ trimmed 0 (change (given f k))
  changed_trims change keeps pads =
      ap (λ g. trimmed 0 (change g)) (sym (row-trimmed 17 (take (k + 1) f)) ∙ ap (λ g. row 17 g) (sym given-words))
      ∙ ap (λ g. trimmed 0 g) (pads 17 (given f k) (length-given f k long))
      ∙ ap (λ g. trimmed 0 (row 17 (change g))) given-words
      ∙ trimmed-row 16 (change (given f k)) (rw (keeps (given f k)) (length-given f k long))

-- ---- "conversions keep the trimmed length"
difference-zero : (w a b : ℕ) → b % 2 ^ w ≡ 0 → Word.difference w a b % 2 ^ w ≡ a % 2 ^ w
difference-zero w a b e =
    mod-mod (a + (2 ^ w - b % 2 ^ w)) (2 ^ w)
    ∙ sym (Ring.sum-zero w (Word.difference w a b) ∙ mod-mod (a + (2 ^ w - b % 2 ^ w)) (2 ^ w))
    ∙ ap (λ z. (Word.difference w a b + z) % 2 ^ w) (sym e)
    ∙ add-mod-mod (Word.difference w a b) b (2 ^ w)
    ∙ Ring.difference-sum w a b

module _ (w : ℕ) (step : List ℕ → List ℕ) (keeps : (f : List ℕ) → length (step f) ≡ length f)
    (trims : (f : List ℕ) → length (without_trailing 0 (words w (step f))) ≡ length (without_trailing 0 (words w f))) where
  converted_trims : (n : ℕ) (f : List ℕ) → length f ≡ n
      → length (without_trailing 0 (words w (converted step f))) ≡ length (without_trailing 0 (words w f))
  unfolding without_trailing
  converted_trims zero [] e = ap (λ g. length (without_trailing 0 (words w g))) (convert-none step)
  converted_trims zero (a ∷ f) e = absurd (omega arith)
  converted_trims (suc n) [] e = ap (λ g. length (without_trailing 0 (words w g))) (convert-none step)
  converted_trims (suc n) (a ∷ f) e =
      ap (λ g. length (without_trailing 0 (words w g))) (convert-next step a f (keeps f))
      ∙ same_with_last w (a % 2 ^ w) (a % 2 ^ w) (without_trailing 0 (words w (converted step (step f)))) (without_trailing 0 (words w f))
      (converted_trims n (step f) (keeps f ∙ omega arith) ∙ trims f) (λ _. refl)

  pub converted-length : (f : List ℕ) → length (trimmed 0 (words w (converted step f))) ≡ length (trimmed 0 (words w f))
  converted-length f = trimmed-length w (converted step f) f (go f)
    where
      go : (f : List ℕ) → length (without_trailing 0 (words w (rest (converted step f)))) ≡ length (without_trailing 0 (words w (rest f)))
      go [] = ap (λ g. length (without_trailing 0 (words w (rest g)))) (convert-none step)
      go (a ∷ f) =
          ap (λ g. length (without_trailing 0 (words w (rest g)))) (convert-next step a f (keeps f))
          ∙ converted_trims (length f) (step f) (keeps f)
          ∙ trims f

module _ (w : ℕ) where
  pub to_backward_length : (f : List ℕ) → length (trimmed 0 (to_backward w (words w f))) ≡ length (trimmed 0 (words w f))
  to_backward_length f =
      ap (λ g. length (trimmed 0 g)) (sym (to_backward_words w f))
      ∙ converted-length w (SumChain.inverse_shift w) (length-from_top (Word.difference w)) (from_top_length w (Word.difference w) (difference-zero w)) f

  pub to_forward_length : (f : List ℕ) → length (trimmed 0 (words w (to_forward f))) ≡ length (trimmed 0 (words w f))
  to_forward_length f =
      converted-length w BackwardChain.shift (length-from_top ◌+◌) (from_top_length w ◌+◌ (plus-zero w)) f

-- ---- "Converting there and back gives the trimmed chain again", as calls: what one conversion answers is given to the other
take_row : (n : ℕ) (d : List ℕ) → length d ≤ n → take (length d) (row n d) ≡ d
unfolding row
take_row n [] h = refl
take_row zero (a ∷ d) h = absurd (not-suc-le-zero h)
take_row (suc n) (a ∷ d) h = ap {B = List ℕ} (λ g. a ∷ g) (take_row n d (le_of_suc-le-suc h))

-- An answer's elements and length give its chain again.
given-answer : (d : List ℕ) → trimmed 0 d ≡ d → length d ≤ 17 → given (row 17 d) (length d - 1) ≡ d
given-answer d e h =
    ap (λ n. trimmed 0 (take n (row 17 d))) counted ∙ ap (λ g. trimmed 0 g) (take_row 17 d h) ∙ e
  where
    counted : length d - 1 + 1 ≡ length d
    counted = omega (arith, ap length e, length-trimmed_some 0 d)

-- A chain whose trimmed length is its length is trimmed.
whole-trimmed : (g : List ℕ) → 0 < length g → length (trimmed 0 g) ≡ length g → trimmed 0 g ≡ g
whole-trimmed g some e = sym (take-trimmed 0 g some) ∙ ap (λ n. take n g) e ∙ take-length g

module _ (w : ℕ) (f : List ℕ) (k : ℕ) (long : length f ≡ 17) (fits : (i : ℕ) → get_or f i 0 < 2 ^ w) (short : k ≤ 16) where
  abbrev c : List ℕ
  c = given f k

  as_words : words w c ≡ c
  as_words = given-words w f k long fits

  trims_words : (step : List ℕ → List ℕ) → ((g : List ℕ) → words w (step g) ≡ step (words w g))
      → ((g : List ℕ) → length (trimmed 0 (words w (step g))) ≡ length (trimmed 0 (words w g))) → length (trimmed 0 (step c)) ≡ length (trimmed 0 c)
  trims_words step same keeps =
      subst (λ g. length (trimmed 0 (step g)) ≡ length (trimmed 0 g)) as_words (ap (λ g. length (trimmed 0 g)) (sym (same c)) ∙ keeps c)

  -- The one conversion and the other, of the trimmed chain: each keeps its length, and the second gives it again.
  round : (there back : List ℕ → List ℕ) → length (there (given f k)) ≡ length (given f k)
      → length (trimmed 0 (there (given f k))) ≡ length (trimmed 0 (given f k)) → back (there (given f k)) ≡ given f k
      → changed back (answered (changed there f k)).elements (answered (changed there f k)).length ≡ trim_outcome f k
  round there back keeps trims again =
      ap (λ r. changed back (answered r).elements (answered r).length) first
      ∙ ap (λ o. cond o (refused 14) (chain (trimmed 0 (back (given (row 17 (there c)) (length (there c) - 1)))))) (le-ltb 16 (length (there c) - 1) (omega (arith, keeps, length-given f k long)))
      ∙ ap (λ g. chain (trimmed 0 (back g))) (given-answer (there c) whole (omega (arith, keeps, length-given f k long)))
      ∙ ap (λ g. chain (trimmed 0 g)) again
      ∙ ap chain (trimmed_twice 0 (take (k + 1) f))
      ∙ sym (ap (λ o. cond o (refused 14) (chain c)) (le-ltb 16 k short))
    where
      whole : trimmed 0 (there c) ≡ there c
      whole =
          whole-trimmed (there c) (omega (arith, keeps, length-trimmed_some 0 (take (k + 1) f)))
          (trims ∙ ap length (trimmed_twice 0 (take (k + 1) f)) ∙ sym keeps)

      first : changed there f k ≡ chain (there c)
      first = ap (λ o. cond o (refused 14) (chain (trimmed 0 (there c)))) (le-ltb 16 k short) ∙ ap chain whole

  pub forward_call_again : to_forward_outcome w (answered (to_backward_outcome w f k)).elements (answered (to_backward_outcome w f k)).length ≡ trim_outcome f k
  forward_call_again =
      round (to_backward w) (λ c. words w (to_forward c))
      (length-converted (SumChain.inverse_shift w) (length-from_top (Word.difference w)) c)
      (subst (λ c. length (trimmed 0 (to_backward w c)) ≡ length (trimmed 0 c)) as_words (to_backward_length w c))
      (subst (λ c. words w (to_forward (to_backward w c)) ≡ c) as_words (forward_again w c))

  pub backward_call_again : to_backward_outcome w (answered (to_forward_outcome w f k)).elements (answered (to_forward_outcome w f k)).length ≡ trim_outcome f k
  backward_call_again =
      round (λ c. words w (to_forward c)) (to_backward w)
      (length-map (to_forward c) (λ a. a % 2 ^ w) ∙ length-converted BackwardChain.shift (length-from_top ◌+◌) c)
      (to_forward_length w c ∙ ap (λ c. length (trimmed 0 c)) as_words)
      (backward_again w c ∙ as_words)

  -- A conversion that keeps the trimmed length answers it.
  keeps_length : (there : List ℕ → List ℕ) → length (trimmed 0 (there c)) ≡ length (trimmed 0 c) → (answered (changed there f k)).length ≡ (answered (trim_outcome f k)).length
  keeps_length there trims =
      ap (λ o. (answered (cond o (refused 14) (chain (trimmed 0 (there c))))).length) (le-ltb 16 k short)
      ∙ ap (λ n. n - 1) (trims ∙ ap length (trimmed_twice 0 (take (k + 1) f)))
      ∙ sym (ap (λ o. (answered (cond o (refused 14) (chain c))).length) (le-ltb 16 k short))

  pub to_backward_call_length : (answered (to_backward_outcome w f k)).length ≡ (answered (trim_outcome f k)).length
  to_backward_call_length =
      keeps_length (to_backward w) (subst (λ c. length (trimmed 0 (to_backward w c)) ≡ length (trimmed 0 c)) as_words (to_backward_length w c))

  pub to_forward_call_length : (answered (to_forward_outcome w f k)).length ≡ (answered (trim_outcome f k)).length
  to_forward_call_length = keeps_length (λ c. words w (to_forward c)) (to_forward_length w c ∙ ap (λ c. length (trimmed 0 c)) as_words)

  -- ---- "shift and inverse shift cancel in either order", as calls, for both kinds
  pub shift_call_undone : inverse_shift_outcome w (answered (shift_outcome w f k)).elements (answered (shift_outcome w f k)).length ≡ trim_outcome f k
  shift_call_undone =
      round (λ c. words w (SumChain.sum_shift c)) (SumChain.inverse_shift w)
      (length-map (SumChain.sum_shift c) (λ a. a % 2 ^ w) ∙ length_shift ◌+◌ c)
      (bottom_keeps_length w ◌+◌ (plus-zero w) c ∙ ap (λ c. length (trimmed 0 c)) as_words)
      (unshift_shift w c ∙ as_words)

  pub inverse_call_undone : shift_outcome w (answered (inverse_shift_outcome w f k)).elements (answered (inverse_shift_outcome w f k)).length ≡ trim_outcome f k
  inverse_call_undone =
      round (SumChain.inverse_shift w) (λ c. words w (SumChain.sum_shift c)) (length-from_top (Word.difference w) c)
      (trims_words (SumChain.inverse_shift w) (forward_inverse_words w) (top_keeps_length w (Word.difference w) (difference-zero w)))
      (shift_unshift w c ∙ as_words)

  pub backward_shift_call_undone :
      backward_inverse_shift_outcome w (answered (backward_shift_outcome w f k)).elements (answered (backward_shift_outcome w f k)).length ≡ trim_outcome f k
  backward_shift_call_undone =
      round (λ c. words w (BackwardChain.shift c)) (BackwardChain.inverse_shift w)
      (length-map (BackwardChain.shift c) (λ a. a % 2 ^ w) ∙ length-from_top ◌+◌ c)
      (top_keeps_length w ◌+◌ (plus-zero w) c ∙ ap (λ c. length (trimmed 0 c)) as_words)
      (backward_unshift_shift w c ∙ as_words)

  pub backward_inverse_call_undone :
      backward_shift_outcome w (answered (backward_inverse_shift_outcome w f k)).elements (answered (backward_inverse_shift_outcome w f k)).length ≡ trim_outcome f k
  backward_inverse_call_undone =
      round (BackwardChain.inverse_shift w) (λ c. words w (BackwardChain.shift c)) (length_shift (Word.difference w) c)
      (trims_words (BackwardChain.inverse_shift w) (backward_inverse_words w) (bottom_keeps_length w (Word.difference w) (difference-zero w)))
      (backward_shift_unshift w c ∙ as_words)
