-- The calls of one chain: what they work out on 17 words is what their outcomes say.
use Rattle.std.proofs.Common.{◌≡◌, ℕ, ◌+◌, ◌%◌, ◌^◌, ◌<◌, ◌≤◌, cond, List, length, get_or, take, sym, refl, ap, ◌∙◌, le-ltb}
use native.Mathlib.Nat.{mod-mod}
use Rattle.word.specs.Word as Word
use Rattle.word.proofs.Modulo.{outward}
use Rattle.word.proofs.Ring as Ring
use Rattle.chain.specs.Chain.{shift, shift_from_top, words, trimmed, row}
use Rattle.chain.specs.BackwardChain.{converted}
use Rattle.chain.specs.BackwardChain as BackwardChain
use Rattle.chain.specs.Answer.{ChainAnswer, answered, refused, chain, given, unless_long}
use Rattle.chain.specs.BackwardAnswer.{changed, inverse_shift_outcome, backward_shift_outcome, backward_inverse_shift_outcome, to_backward_outcome, to_forward_outcome}
use Rattle.chain.proofs.Rows.{words-whole}
use Rattle.chain.proofs.Shifting.{length_shift, length-from_top, words-shift, words-from_top}
use Rattle.chain.proofs.Backward.{forward_inverse_words, backward_words}
use Rattle.chain.proofs.Conversions.{length-converted, word-sum_of_words, to_forward_words}
use Rattle.chain.proofs.BackwardCalls.{top_pads, bottom_pads, converted_pads, given-words, changed_trims}
use Rattle.chain_arrays.specs.Operations.{Difference}
use Rattle.chain_arrays.specs.Operations.{joining, shifted_by}

difference-zero : (w a : ℕ) → Word.difference w (a % 2 ^ w) 0 ≡ a % 2 ^ w
difference-zero w a = sym (Ring.difference-unique w (a % 2 ^ w) 0 (a % 2 ^ w) (Ring.word_fits w a) (Ring.sum-zero w (a % 2 ^ w)))

joining-difference : (a b : ℕ) → joining Difference a b % 2 ^ 64 ≡ Word.difference 64 (a % 2 ^ 64) (b % 2 ^ 64)
joining-difference a b = sym (simp outward)

sum-zero : (w a : ℕ) → Word.sum w (a % 2 ^ w) 0 ≡ a % 2 ^ w
sum-zero w a = Ring.sum-zero w (a % 2 ^ w) ∙ mod-mod a (2 ^ w)

-- A length up to 16 is no refusal.
pub within : (k : ℕ) (f : List ℕ) {r : ChainAnswer} → k ≤ 16 → r ≡ answered (chain f) → r ≡ answered (unless_long k (chain f))
within k f short e = e ∙ sym (ap (λ t. answered (cond t (refused 14) (chain f))) (le-ltb 16 k short))

module _ (f : List ℕ) (k : ℕ) (long : length f ≡ 17) (fits : (i : ℕ) → get_or f i 0 < 2 ^ 64) where
  -- A change of 17 words that keeps zeros past a chain, and is the outcome's on the chain.
  done : (change there : List ℕ → List ℕ) → ((g : List ℕ) → length (change g) ≡ length g)
      → ((n : ℕ) (g : List ℕ) → length g ≤ n → change (row n (words 64 g)) ≡ row n (change (words 64 g)))
      → change (given f k) ≡ there (given f k)
      → answered (unless_long k (chain (trimmed 0 (change (row 17 (take (k + 1) f)))))) ≡ answered (changed there f k)
  done change there keeps pads same =
      ap (λ g. answered (unless_long k (chain g))) (changed_trims 64 f k long fits change keeps pads ∙ ap (λ g. trimmed 0 g) same)

  abbrev laid : (List ℕ → List ℕ) → ChainAnswer
  laid change = answered (unless_long k (chain (trimmed 0 (change (row 17 (take (k + 1) f))))))

  pub inverse_shift-done : laid (shift_from_top (Word.difference 64)) ≡ answered (inverse_shift_outcome 64 f k)
  inverse_shift-done =
      done (shift_from_top (Word.difference 64)) (shift_from_top (Word.difference 64)) (length-from_top (Word.difference 64))
      (top_pads 64 (Word.difference 64) (difference-zero 64)) refl

  pub backward_shift-done : laid (shift_from_top (Word.sum 64)) ≡ answered (backward_shift_outcome 64 f k)
  backward_shift-done =
      done (shift_from_top (Word.sum 64)) (λ c. words 64 (BackwardChain.shift c)) (length-from_top (Word.sum 64)) (top_pads 64 (Word.sum 64) (sum-zero 64))
      (ap (λ g. shift_from_top (Word.sum 64) g) (sym (given-words 64 f k long fits)) ∙ sym (backward_words 64 (given f k)))

  -- The words up to the length, shifted with differences, as `shift_part` leaves them.
  pub backward_inverse_shift-done : {kept r : List ℕ} → kept ≡ row 17 (take (k + 1) f) → ((i : ℕ) → get_or kept i 0 < 2 ^ 64) → r ≡ shifted_by Difference kept
      → answered (unless_long k (chain (trimmed 0 r))) ≡ answered (backward_inverse_shift_outcome 64 f k)
  backward_inverse_shift-done {kept} e kept_fits q =
      ap (λ g. answered (unless_long k (chain (trimmed 0 g))))
      (q
      ∙ words-shift 64 (joining Difference) (Word.difference 64) joining-difference kept
      ∙ ap (λ g. shift (Word.difference 64) g) (words-whole 64 kept kept_fits ∙ e))
      ∙ done (shift (Word.difference 64)) (shift (Word.difference 64)) (length_shift (Word.difference 64))
      (bottom_pads 64 (Word.difference 64) (difference-zero 64)) refl

  pub to_backward_done : laid (converted (shift_from_top (Word.difference 64))) ≡ answered (to_backward_outcome 64 f k)
  to_backward_done =
      done (converted (shift_from_top (Word.difference 64))) (converted (shift_from_top (Word.difference 64)))
      (length-converted (shift_from_top (Word.difference 64)) (length-from_top (Word.difference 64)))
      (converted_pads 64 (shift_from_top (Word.difference 64)) (length-from_top (Word.difference 64)) (forward_inverse_words 64)
      (top_pads 64 (Word.difference 64) (difference-zero 64))) refl

  pub to_forward_done : laid (converted (shift_from_top (Word.sum 64))) ≡ answered (to_forward_outcome 64 f k)
  to_forward_done =
      done (converted (shift_from_top (Word.sum 64))) (λ c. words 64 (BackwardChain.to_forward c))
      (length-converted (shift_from_top (Word.sum 64)) (length-from_top (Word.sum 64)))
      (converted_pads 64 (shift_from_top (Word.sum 64)) (length-from_top (Word.sum 64)) (words-from_top 64 (Word.sum 64) (Word.sum 64) (word-sum_of_words 64))
      (top_pads 64 (Word.sum 64) (sum-zero 64)))
      (ap (λ g. converted (shift_from_top (Word.sum 64)) g) (sym (given-words 64 f k long fits)) ∙ sym (to_forward_words 64 (given f k)))
