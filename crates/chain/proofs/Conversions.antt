-- Conversions between forward and backward sum chains: there and back is the chain again, either way round, the trimmed length stays, and both chains have the
-- same word at every index, ahead of the present one and before it. One set of laws serves both ways: ⊙ and ⊘ are sum and difference of words, or the reverse.
use mathlib.Core.Path.{◌≡◌, refl, sym, ap, ◌∙◌}
use mathlib.Core.List.{List, [], ◌∷◌}
use Prim.Native.Nat.{ℕ, zero, suc, ◌+◌, ◌%◌, ◌^◌}
use native.Mathlib.Omega.{arith}
use lib.ListN.{length}
use Rattle.word.specs.Word as Word
use Rattle.word.proofs.Modulo.{outward}
use Rattle.word.proofs.Ring.{difference-sum}
use Rattle.chain.specs.Chain.{value, meeting, shift_from_top, words, shift, shifted, value_at}
use Rattle.chain.specs.SumChain.{sum_at, sum_shift}
use Rattle.chain.specs.SumChain as SumChain
use Rattle.chain.specs.BackwardChain.{after, value_ahead, value_before, converted_in, converted, to_backward, to_forward}
use Rattle.chain.specs.BackwardChain as BackwardChain
use Rattle.chain.proofs.SumLaws.{value-words}
use Rattle.chain.proofs.Shifting.{length-from_top, top_undoes_bottom, bottom_undoes_top, sum_undone, words-from_top, difference_of_words}
use Rattle.chain.proofs.Backward.{after_along, words_twice, ahead-words, forward_words, forward_inverse_words, backward_words, backward_inverse_words, value_of_words, ahead_as}

-- The paper's equation: the first element stays, and the rest is converted after one step.
pub convert-next : (step : List ℕ → List ℕ) (a : ℕ) (f : List ℕ) → length (step f) ≡ length f → converted step (a ∷ f) ≡ a ∷ converted step (step f)
unfolding converted_in
convert-next step a f e = ap {B = List ℕ} (λ n. a ∷ converted_in n step (step f)) (sym e)

pub convert-none : (step : List ℕ → List ℕ) → converted step [] ≡ []
unfolding converted_in
convert-none step = refl

pub value-converted : (step : List ℕ → List ℕ) (f : List ℕ) → value 0 (converted step f) ≡ value 0 f
unfolding converted_in
value-converted step [] = refl
value-converted step (a ∷ f) = refl

module _ (step : List ℕ → List ℕ) (keeps : (f : List ℕ) → length (step f) ≡ length f) where
  length_in : (n : ℕ) (f : List ℕ) → length f ≡ n → length (converted_in n step f) ≡ length f
  unfolding converted_in
  length_in zero f e = sym e
  length_in (suc n) [] e = refl
  length_in (suc n) (a ∷ f) e = ap suc (length_in n (step f) (omega (arith, keeps f)) ∙ keeps f)

  pub length-converted : (f : List ℕ) → length (converted step f) ≡ length f
  length-converted f = length_in (length f) f refl

-- Converting commutes with taking words.
pub converted-words : (w : ℕ) (step there : List ℕ → List ℕ) → ((f : List ℕ) → length (step f) ≡ length f) → ((f : List ℕ) → words w (step f) ≡ there (words w f))
    → (f : List ℕ) → words w (converted step f) ≡ converted there (words w f)
converted-words w step there keeps same f = go (length f) f refl
  where
    go : (n : ℕ) (f : List ℕ) → length f ≡ n → words w (converted step f) ≡ converted there (words w f)
    go zero [] e = ap (λ g. words w g) (convert-none step) ∙ sym (convert-none there)
    go zero (a ∷ f) e = absurd (omega arith)
    go (suc n) [] e = ap (λ g. words w g) (convert-none step) ∙ sym (convert-none there)
    go (suc n) (a ∷ f) e =
        ap (λ g. words w g) (convert-next step a f (keeps f))
        ∙ ap {B = List ℕ} (λ g. (a % 2 ^ w) ∷ g) (go n (step f) (omega (arith, keeps f)) ∙ ap (λ g. converted there g) (same f))
        ∙ sym (convert-next there (a % 2 ^ w) (words w f) (ap length (sym (same f)) ∙ word-length (step f) ∙ keeps f ∙ sym (word-length f)))
      where
        word-length : (g : List ℕ) → length (words w g) ≡ length g
        word-length g = lib.ListN.length-map g (λ a. a % 2 ^ w)

-- ---- ⊙ steps the chains given, ⊘ undoes it: the given chains go by S and back by S', those converted to go by R and back by R'
module _ (w : ℕ) (◌⊙◌ ◌⊘◌ : ℕ → ℕ → ℕ)
    (undo : (a b : ℕ) → ◌⊘◌ (◌⊙◌ a b) b ≡ a % 2 ^ w) (redo : (a b : ℕ) → ◌⊙◌ (◌⊘◌ a b) b ≡ a % 2 ^ w)
    (words-⊙ : (a b : ℕ) → ◌⊙◌ a b % 2 ^ w ≡ ◌⊙◌ (a % 2 ^ w) (b % 2 ^ w)) (words-⊘ : (a b : ℕ) → ◌⊘◌ a b % 2 ^ w ≡ ◌⊘◌ (a % 2 ^ w) (b % 2 ^ w)) where
  abbrev S : List ℕ → List ℕ
  S f = shift ◌⊙◌ f

  abbrev S' : List ℕ → List ℕ
  S' f = shift_from_top ◌⊘◌ f

  abbrev R : List ℕ → List ℕ
  R f = shift_from_top ◌⊙◌ f

  abbrev R' : List ℕ → List ℕ
  R' f = shift ◌⊘◌ f

  abbrev convert : List ℕ → List ℕ
  convert f = converted S' f

  convert-cons : (a : ℕ) (f : List ℕ) → convert (a ∷ f) ≡ a ∷ convert (S' f)
  convert-cons a f = convert-next S' a f (length-from_top ◌⊘◌ f)

  convert-words : (f : List ℕ) → words w (convert f) ≡ convert (words w f)
  convert-words f = converted-words w S' S' (length-from_top ◌⊘◌) (words-from_top w ◌⊘◌ ◌⊘◌ words-⊘) f

  again : (f : List ℕ) → S (words w (S' f)) ≡ words w f
  again f = ap (λ g. S g) (words-from_top w ◌⊘◌ ◌⊘◌ words-⊘ f) ∙ bottom_undoes_top w ◌⊘◌ ◌⊙◌ redo f

  -- Converting a shifted chain is shifting the converted one.
  commutes : (n : ℕ) (f : List ℕ) → length f ≡ n → convert (S (words w f)) ≡ R (convert (words w f))
  unfolding shift shift_from_top meeting converted_in
  commutes zero [] e = refl
  commutes zero (a ∷ f) e = absurd (omega arith)
  commutes (suc n) [] e = refl
  commutes (suc n) (a ∷ []) e = refl
  commutes (suc n) (a ∷ b ∷ f) e =
      convert-cons (◌⊙◌ (a % 2 ^ w) (b % 2 ^ w)) (S (words w (b ∷ f)))
      ∙ ap {B = List ℕ} (λ g. ◌⊙◌ (a % 2 ^ w) (b % 2 ^ w) ∷ convert g) (top_undoes_bottom w ◌⊙◌ ◌⊘◌ undo (b ∷ f))
      ∙ sym
      (ap (λ g. R g) (convert-cons (a % 2 ^ w) (words w (b ∷ f)))
      ∙ ap (λ g. meeting ◌⊙◌ (a % 2 ^ w) (R (convert g))) (sym (words-from_top w ◌⊘◌ ◌⊘◌ words-⊘ (b ∷ f)))
      ∙ ap (λ g. meeting ◌⊙◌ (a % 2 ^ w) g)
      (sym (commutes n (S' (b ∷ f)) (length-from_top ◌⊘◌ (b ∷ f) ∙ omega arith)) ∙ ap convert (again (b ∷ f))))

  pub convert-shift : (f : List ℕ) → convert (S (words w f)) ≡ R (convert (words w f))
  convert-shift f = commutes (length f) f refl

  pub convert_unshift : (f : List ℕ) → convert (S' (words w f)) ≡ R' (convert (words w f))
  convert_unshift f =
      ap convert (sym (words-from_top w ◌⊘◌ ◌⊘◌ words-⊘ f))
      ∙ sym (convert-words (S' f))
      ∙ sym (bottom_undoes_top w ◌⊙◌ ◌⊘◌ undo (convert (S' f)))
      ∙ ap (λ g. R' (R g)) (convert-words (S' f))
      ∙ ap (λ g. R' g) (sym (convert-shift (S' f)) ∙ ap convert (again f))

  -- "Converting there and back gives the .. chain again".
  pub there_and_back : (f : List ℕ) → converted R (convert (words w f)) ≡ words w f
  there_and_back [] = ap (λ g. converted R g) (convert-none S') ∙ convert-none R
  there_and_back (a ∷ f) =
      ap (λ g. converted R g) (convert-cons (a % 2 ^ w) (words w f))
      ∙ convert-next R (a % 2 ^ w) (convert (S' (words w f))) (length-from_top ◌⊙◌ (convert (S' (words w f))))
      ∙ ap {B = List ℕ} (λ g. (a % 2 ^ w) ∷ converted R g)
      (ap (λ g. R (convert g)) (sym (words-from_top w ◌⊘◌ ◌⊘◌ words-⊘ f)) ∙ sym (convert-shift (S' f)) ∙ ap convert (again f))
      ∙ ap {B = List ℕ} (λ g. (a % 2 ^ w) ∷ g) (there_and_back f)

module _ (w : ℕ) where
  pub word-sum_of_words : (a b : ℕ) → Word.sum w a b % 2 ^ w ≡ Word.sum w (a % 2 ^ w) (b % 2 ^ w)
  word-sum_of_words a b = simp outward

  -- ---- conversions of words
  pub to_forward_words : (f : List ℕ) → words w (to_forward f) ≡ converted (shift_from_top (Word.sum w)) (words w f)
  to_forward_words f = converted-words w BackwardChain.shift (shift_from_top (Word.sum w)) (length-from_top ◌+◌) (backward_words w) f

  pub to_backward_words : (f : List ℕ) → words w (to_backward w f) ≡ to_backward w (words w f)
  to_backward_words f =
      converted-words w (SumChain.inverse_shift w) (SumChain.inverse_shift w) (length-from_top (Word.difference w)) (forward_inverse_words w) f

  -- ---- "Converting there and back gives the trimmed chain again", either way round: all its words
  pub forward_again : (f : List ℕ) → words w (to_forward (to_backward w (words w f))) ≡ words w f
  forward_again f =
      to_forward_words (to_backward w (words w f))
      ∙ ap (λ g. converted (shift_from_top (Word.sum w)) g) (to_backward_words (words w f) ∙ ap (λ g. to_backward w g) (words_twice w f))
      ∙ there_and_back w (Word.sum w) (Word.difference w) (sum_undone w) (difference-sum w) word-sum_of_words (difference_of_words w) f

  pub backward_again : (f : List ℕ) → to_backward w (words w (to_forward f)) ≡ words w f
  backward_again f =
      ap (λ g. to_backward w g) (to_forward_words f)
      ∙ there_and_back w (Word.difference w) (Word.sum w) (difference-sum w) (sum_undone w) (difference_of_words w) word-sum_of_words f

  -- ---- "both kinds give the same word at every index", ahead of the present one and before it
  converted-ahead : (i : ℕ) (f : List ℕ) → to_backward w (words w (after sum_shift i f)) ≡ after (shift_from_top (Word.sum w)) i (to_backward w (words w f))
  converted-ahead i f =
      after_along (λ g. to_backward w (words w g)) sum_shift (shift_from_top (Word.sum w))
      (λ g. ap (λ h. to_backward w h) (forward_words w g)
      ∙ convert-shift w (Word.sum w) (Word.difference w) (sum_undone w) (difference-sum w) word-sum_of_words (difference_of_words w) g) i f

  converted-before : (i : ℕ) (f : List ℕ)
      → to_backward w (words w (after (SumChain.inverse_shift w) i f)) ≡ after (BackwardChain.inverse_shift w) i (to_backward w (words w f))
  converted-before i f =
      after_along (λ g. to_backward w (words w g)) (SumChain.inverse_shift w) (BackwardChain.inverse_shift w)
      (λ g. ap (λ h. to_backward w h) (forward_inverse_words w g)
      ∙ convert_unshift w (Word.sum w) (Word.difference w) (sum_undone w) (difference-sum w) word-sum_of_words (difference_of_words w) g) i f

  shifted-after : (i : ℕ) (f : List ℕ) → shifted ◌+◌ i f ≡ after sum_shift i f
  unfolding shifted after
  shifted-after zero f = refl
  shifted-after (suc i) f = shifted-after i (sum_shift f)

  pub same_ahead : (f : List ℕ) (i : ℕ) → value_ahead (to_backward w f) i % 2 ^ w ≡ sum_at f i % 2 ^ w
  unfolding value_at
  same_ahead f i =
      ahead_as w (to_backward w f) i
      ∙ ap (λ g. value 0 (after (shift_from_top (Word.sum w)) i g)) (to_backward_words f)
      ∙ ap (λ g. value 0 g) (sym (converted-ahead i f))
      ∙ value-converted (SumChain.inverse_shift w) (words w (after sum_shift i f))
      ∙ sym (value_of_words w (after sum_shift i f))
      ∙ ap (λ g. value 0 g % 2 ^ w) (sym (shifted-after i f))

  pub same_before : (f : List ℕ) (i : ℕ) → value_before w (to_backward w f) i % 2 ^ w ≡ value 0 (after (SumChain.inverse_shift w) i f) % 2 ^ w
  same_before f i =
      value_of_words w (after (BackwardChain.inverse_shift w) i (to_backward w f))
      ∙ ap (λ g. value 0 g)
      (after_along (words w) (BackwardChain.inverse_shift w) (BackwardChain.inverse_shift w) (backward_inverse_words w) i (to_backward w f)
      ∙ ap (λ g. after (BackwardChain.inverse_shift w) i g) (to_backward_words f)
      ∙ sym (converted-before i f))
      ∙ value-converted (SumChain.inverse_shift w) (words w (after (SumChain.inverse_shift w) i f))
      ∙ sym (value_of_words w (after (SumChain.inverse_shift w) i f))

  -- The same of a backward chain that is converted.
  pub forward_ahead : (f : List ℕ) (i : ℕ) → sum_at (to_forward f) i % 2 ^ w ≡ value_ahead f i % 2 ^ w
  forward_ahead f i =
      sym (value-words w (to_forward f) i)
      ∙ sym (same_ahead (words w (to_forward f)) i)
      ∙ ap (λ g. value_ahead g i % 2 ^ w) (backward_again f)
      ∙ ahead-words w f i

  steps-words : (step : List ℕ → List ℕ) → ((f : List ℕ) → words w (step f) ≡ step (words w f)) → (f : List ℕ) (i : ℕ)
      → value 0 (after step i f) % 2 ^ w ≡ value 0 (after step i (words w f)) % 2 ^ w
  steps-words step same f i =
      value_of_words w (after step i f)
      ∙ ap (λ g. value 0 g) (after_along (words w) step step same i f ∙ ap (λ g. after step i g) (sym (words_twice w f)) ∙ sym (after_along (words w) step step same i (words w f)))
      ∙ sym (value_of_words w (after step i (words w f)))

  pub forward_before : (f : List ℕ) (i : ℕ) → value 0 (after (SumChain.inverse_shift w) i (to_forward f)) % 2 ^ w ≡ value_before w f i % 2 ^ w
  forward_before f i =
      steps-words (SumChain.inverse_shift w) (forward_inverse_words w) (to_forward f) i
      ∙ sym (same_before (words w (to_forward f)) i)
      ∙ ap (λ g. value_before w g i % 2 ^ w) (backward_again f)
      ∙ sym (steps-words (BackwardChain.inverse_shift w) (backward_inverse_words w) f i)
