-- Laws of crossings, over the width w: which way each pair of words crosses, what an array's first two words say of a chain's crossing, and that a step in whole
-- numbers is the shift and 2^w times the crossing.
use mathlib.Core.Path.{◌≡◌, refl, sym, ap, ap₂, ◌∙◌}
use mathlib.Core.Bool.{Bool, true, false, cond}
use mathlib.Core.List.{List, [], ◌∷◌}
use Prim.Native.Nat.{ℕ, suc, ◌+◌, ◌-◌, ◌%◌, ◌^◌, ◌≤◌, ◌<◌}
use native.Mathlib.Nat.{mul-one, mod-eq_of_lt, mod-eq-sub-mod}
use native.Mathlib.Omega.{arith}
use borrow.Author.Tests.{ltb-true, ltb-false, lt-ltb, le-ltb, le-leb, lt-leb}
use lib.Dec.{T, ltb, le→leb}
use lib.IntN.{ℤ, pos, negsuc, ◌+ℤ◌, ◌-ℤ◌, ◌*ℤ◌}
use lib.ListN.{length, get_or, take}
use lib.Pow.{pow_pos}
use lib.Signed.{le_z, lt_z, ◌≤ℤ◌, ◌<ℤ◌, le_z_yes, lt_z_yes, clash_ℤ}
use Rattle.word.specs.Signed.{half, signed}
use Rattle.word.proofs.SignedWords.{below_minus, signed_low, signed_high}
use Rattle.word.proofs.WholeNumbers.{passed, failed}
use Rattle.chain.specs.Chain.{value, rest, words, trimmed, row, shift}
use Rattle.chain.specs.SumChain.{sum_shift}
use Rattle.chain.specs.Answer.{ChainAnswer, answered, chain, given, with_crossing, shift_answer}
use Rattle.chain.specs.Crossing.{signed_step, crossed_by, crossing}
use Rattle.chain.proofs.Trimming.{row-trimmed}
use Rattle.chain.proofs.Calls.{shift_trims}

-- A number that is 2^w or more is not below 0.
not_below : (n : ℕ) (z : ℤ) → T (le_z (pos n) z) → pos 0 ≤ℤ z
not_below n (pos m) over = record { le = le→leb 0 m (omega arith) }
not_below n (negsuc m) over = absurd over

-- x - n, for x below n.
minus_one_era : (n x : ℕ) → x < n → pos x +ℤ pos n *ℤ negsuc 0 ≡ negsuc (n - suc x)
minus_one_era n x h = ap (λ k. pos x -ℤ pos k) (mul-one n) ∙ below_minus x n h

-- ---- two words: whether they add past the largest word, and whether the second reads as a number below 0
module _ (w a b : ℕ) (a-fits : a < 2 ^ w) (b-fits : b < 2 ^ w) where
  reaches : 2 ^ w ≤ a + b → (a + b) % 2 ^ w ≡ a + b - 2 ^ w
  reaches over = mod-eq-sub-mod over ∙ mod-eq_of_lt (omega arith)

  module _ (low : b < half w) where
    sum_low : pos a +ℤ signed w b ≡ pos (a + b)
    sum_low = rw (signed_low w b low)

    pub crosses_up : 2 ^ w ≤ a + b → crossed_by w a (signed w b) ≡ pos 1
    unfolding crossed_by
    crosses_up over = rw (sum_low, le-leb (2 ^ w) (a + b) over)

    pub stays_low : a + b < 2 ^ w → crossed_by w a (signed w b) ≡ pos 0
    unfolding crossed_by
    stays_low short = rw (sum_low, lt-leb (2 ^ w) (a + b) short, le-ltb (a + b) 0 (omega arith))

  module _ (high : half w ≤ b) where
    sum_high : a + b < 2 ^ w → pos a +ℤ signed w b ≡ negsuc (2 ^ w - suc (a + b))
    sum_high short = rw (signed_high w b high b-fits, lt-ltb a (suc (2 ^ w - suc b)) (omega arith)) (ap negsuc (omega arith))

    sum_over : 2 ^ w ≤ a + b → pos a +ℤ signed w b ≡ pos (a + b - 2 ^ w)
    sum_over over = rw (signed_high w b high b-fits, le-ltb a (suc (2 ^ w - suc b)) (omega arith)) (ap pos (omega arith))

    pub crosses_down : a + b < 2 ^ w → crossed_by w a (signed w b) ≡ negsuc 0
    unfolding crossed_by
    crosses_down short = rw (sum_high short)

    pub stays_high : 2 ^ w ≤ a + b → crossed_by w a (signed w b) ≡ pos 0
    unfolding crossed_by
    stays_high over =
        rw (sum_over over, lt-leb (2 ^ w) (a + b - 2 ^ w) (omega arith), le-ltb (a + b - 2 ^ w) 0 (omega arith))

  -- f0 + d, in whole numbers, is the word that the shift leaves and 2^w times the crossing.
  pub exact_words : pos a +ℤ signed w b ≡ pos ((a + b) % 2 ^ w) +ℤ pos (2 ^ w) *ℤ crossed_by w a (signed w b)
  exact_words = go (ltb b (half w)) refl (ltb (a + b) (2 ^ w)) refl
    where
      go : (low : Bool) → ltb b (half w) ≡ low → (short : Bool) → ltb (a + b) (2 ^ w) ≡ short
          → pos a +ℤ signed w b ≡ pos ((a + b) % 2 ^ w) +ℤ pos (2 ^ w) *ℤ crossed_by w a (signed w b)
      go true l true s =
          let low = ltb-true b (half w) l in
          let short = ltb-true (a + b) (2 ^ w) s in
          rw (stays_low low short, sum_low low, mod-eq_of_lt short) (ap pos (omega arith))
      go true l false s =
          let low = ltb-true b (half w) l in
          let over = ltb-false (a + b) (2 ^ w) s in
          rw (crosses_up low over, sum_low low, reaches over) (ap pos (omega arith))
      go false h true s =
          let high = ltb-false b (half w) h in
          let short = ltb-true (a + b) (2 ^ w) s in
          rw (crosses_down high short, sum_high high short, mod-eq_of_lt short) (sym (minus_one_era (2 ^ w) (a + b) short))
      go false h false s =
          let high = ltb-false b (half w) h in
          let over = ltb-false (a + b) (2 ^ w) s in
          rw (stays_high high over, sum_over high over, reaches over) (ap pos (omega arith))

-- ---- the sentence's three cases, of any first element and signed step
module _ (w a : ℕ) (d : ℤ) where
  pub told_up : pos (2 ^ w) ≤ℤ (pos a +ℤ d) → crossed_by w a d ≡ pos 1
  unfolding crossed_by
  told_up over = rw (passed (le_z (pos (2 ^ w)) (pos a +ℤ d)) over.le)

  pub told_down : (pos a +ℤ d) <ℤ pos 0 → crossed_by w a d ≡ negsuc 0
  unfolding crossed_by
  told_down below =
      rw (
        failed (le_z (pos (2 ^ w)) (pos a +ℤ d)) (λ over. clash_ℤ below (not_below (2 ^ w) (pos a +ℤ d) over)),
        passed (lt_z (pos a +ℤ d) (pos 0)) below.lt,
      )

  pub told_neither : pos 0 ≤ℤ (pos a +ℤ d) → (pos a +ℤ d) <ℤ pos (2 ^ w) → crossed_by w a d ≡ pos 0
  unfolding crossed_by
  told_neither low high =
      rw (
        failed (le_z (pos (2 ^ w)) (pos a +ℤ d)) (λ over. clash_ℤ high (le_z_yes over)),
        failed (lt_z (pos a +ℤ d) (pos 0)) (λ below. clash_ℤ (lt_z_yes below) low),
      )

pub told_constant : (w : ℕ) (f : List ℕ) (k : ℕ) {a : ℕ} → given f k ≡ a ∷ [] → (shift_answer w f k).crossing ≡ pos 0
told_constant w f k trims = go (ltb 16 k)
  where
    go : (b : Bool) → cond b (pos 0) (crossing w (given f k)) ≡ pos 0
    go true = refl
    go false = ap (crossing w) trims

-- ---- chains: a constant is a chain with the step 0
stays : (w a : ℕ) → a < 2 ^ w → crossed_by w a (signed w 0) ≡ pos 0
stays w a fits = stays_low w a 0 fits (pow_pos w) (pow_pos (w - 1)) (omega arith)

pub crossing-first : (w : ℕ) (f : List ℕ) → value 0 f < 2 ^ w → crossing w f ≡ crossed_by w (value 0 f) (signed w (value 0 (rest f)))
crossing-first w [] fits = sym (stays w 0 fits)
crossing-first w (a ∷ []) fits = sym (stays w a fits)
crossing-first w (a ∷ b ∷ f) fits = refl

-- The first two words of an array say how the trimmed chain of its words up to k crosses.
pub crossing-kept : (w : ℕ) (f : List ℕ) (k : ℕ) {e : List ℕ} → e ≡ row 17 (take (k + 1) f) → get_or e 0 0 < 2 ^ w
    → crossed_by w (get_or e 0 0) (signed w (get_or e 1 0)) ≡ crossing w (given f k)
unfolding row
crossing-kept w f k {e} kept fits =
    sym (crossing-first w (given f k) (rw (sym first) fits) ∙ ap₂ (λ x y. crossed_by w x (signed w y)) (sym first) (sym second))
  where
    first : get_or e 0 0 ≡ value 0 (given f k)
    first = ap (λ g. get_or g 0 0) kept ∙ sym (ap (λ g. get_or g 0 0) (row-trimmed 2 (take (k + 1) f)))

    second : get_or e 1 0 ≡ value 0 (rest (given f k))
    second = ap (λ g. get_or g 1 0) kept ∙ sym (ap (λ g. get_or g 1 0) (row-trimmed 2 (take (k + 1) f)))

-- What the code of an accepted shift answers: the kept words shifted and trimmed, and the crossing of the first two.
pub shift-done : (f : List ℕ) (k : ℕ) → length f ≡ 17 → k ≤ 16 → {kept shifted : List ℕ} {answer : ChainAnswer} {z : ℤ}
    → kept ≡ row 17 (take (k + 1) f) → get_or kept 0 0 < 2 ^ 64 → shifted ≡ words 64 (sum_shift kept) → answer ≡ answered (chain (trimmed 0 shifted))
    → z ≡ crossed_by 64 (get_or kept 0 0) (signed 64 (get_or kept 1 0)) → with_crossing answer z ≡ shift_answer 64 f k
shift-done f k long short {kept} {shifted} keeps fits shifts trims crosses =
    rw (le-ltb 16 k short)
    (ap₂ with_crossing (trims ∙ ap (λ g. answered (chain (trimmed 0 g))) (shifts ∙ ap (λ g. words 64 (sum_shift g)) keeps) ∙ ap (λ g. answered (chain g)) (shift_trims 64 f k long))
    (crosses ∙ crossing-kept 64 f k keeps fits))

-- One shift of a chain of words: the exact value after it is the first element then and 2^w times the crossing.
pub exact_shift : (w : ℕ) (f : List ℕ) → ((i : ℕ) → get_or f i 0 < 2 ^ w)
    → pos (value 0 f) +ℤ signed_step w f ≡ pos (value 0 (words w (sum_shift f))) +ℤ pos (2 ^ w) *ℤ crossing w f
unfolding shift
exact_shift w [] fits = ap pos (omega arith)
exact_shift w (a ∷ []) fits = rw (mod-eq_of_lt (fits 0)) (ap pos (omega arith))
exact_shift w (a ∷ b ∷ f) fits = exact_words w a b (fits 0) (fits 1)
