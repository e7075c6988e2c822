-- Chains with alternating signs: twice is once over, zeros and so the trimmed length stay, and what a backward chain gives walking back the forward chain gives
-- walking on. So the product of two backward chains is that of the forward ones, its signs alternated again.
use Rattle.std.proofs.Common.{◌≡◌, ℕ, zero, suc, ◌+◌, ◌-◌, ◌*◌, ◌%◌, ◌^◌, ◌<◌, ◌≤◌, Bool, true, false, cond, eqb, ltb, List, [], ◌∷◌, length, get_or, take, sym, refl, ap, ◌∙◌, ap₂, one-mul, pow-suc, mul-zero, arith, pow_pos, ltb-false, eq-eqb, ne_eqb, eqb-true}
use native.Mathlib.Nat.{zero-mod, mod-mod, mod_self, pow-zero}
use lib.ListN.{length-map}
use Rattle.word.specs.Word as Word
use Rattle.word.proofs.Modulo.{outward, mul_same}
use Rattle.word.proofs.Ring as Ring
use Rattle.chain.specs.Chain.{rest, words, shifted, value_at, with_last, without_trailing, trimmed, row}
use Rattle.chain.specs.SumChain.{sum_at}
use Rattle.chain.specs.SumChain as SumChain
use Rattle.chain.specs.BackwardChain.{inverse_shift}
use Rattle.chain.specs.BackwardChain as BackwardChain
use Rattle.chain.specs.Answer.{ChainAnswer, Outcome, refused, chain, answered, given, unless_over, product_outcome}
use Rattle.chain.specs.BackwardAnswer.{backward_product_outcome}
use Rattle.chain.proofs.Rows.{entry_words}
use Rattle.chain.proofs.Trimming.{length-trimmed_some}
use Rattle.chain.proofs.SumLaws.{sum-next, value-words, value-product}
use Rattle.chain.proofs.Canonical.{same_trimmed}
use Rattle.chain.proofs.Calls.{length-product, length-product_by}
use Rattle.chain.proofs.Shifting.{length_shift}
use Rattle.chain.proofs.Backward.{less, before-next, whole-product}
use Rattle.chain.proofs.BackwardCalls.{trimmed-words, kept-words}
use Rattle.chain_backward.specs.Alternating.{alternated_from, alternated}

module _ (w : ℕ) where
  -- ---- the sign: -1 times -1 is 1
  squared : ((2 ^ w - 1) * (2 ^ w - 1)) % 2 ^ w ≡ 1 % 2 ^ w
  squared =
      sym (Ring.negation-product w (2 ^ w - 1))
      ∙ sym (Ring.difference-unique w 0 (2 ^ w - 1) (1 % 2 ^ w) (Ring.word_fits w 1) whole)
    where
      whole : Word.sum w (1 % 2 ^ w) (2 ^ w - 1) ≡ Word.word w 0
      whole = native.Mathlib.Nat.mod-add-mod 1 (2 ^ w) (2 ^ w - 1) ∙ ap (λ z. z % 2 ^ w) (omega (arith, pow_pos w)) ∙ mod_self (2 ^ w) ∙ sym (zero-mod (2 ^ w))

  twice : (p : ℕ) → (p * (2 ^ w - 1) * (2 ^ w - 1)) % 2 ^ w ≡ p % 2 ^ w
  twice p =
      ap (λ z. z % 2 ^ w) (native.Mathlib.Nat.mul_assoc p (2 ^ w - 1) (2 ^ w - 1))
      ∙ mul_same (2 ^ w) p p ((2 ^ w - 1) * (2 ^ w - 1)) 1 refl squared
      ∙ ap (λ z. z % 2 ^ w) (native.Mathlib.Nat.mul-one p)

  sign_two : (i : ℕ) → (2 ^ w - 1) ^ suc (suc i) % 2 ^ w ≡ (2 ^ w - 1) ^ i % 2 ^ w
  sign_two i =
      ap (λ z. z % 2 ^ w) (pow-suc (2 ^ w - 1) (suc i) ∙ ap (λ z. z * (2 ^ w - 1)) (pow-suc (2 ^ w - 1) i))
      ∙ twice ((2 ^ w - 1) ^ i)

  pub even_sign : (i a : ℕ) → i % 2 ≡ 0 → ((2 ^ w - 1) ^ i * a) % 2 ^ w ≡ a % 2 ^ w
  even_sign zero a e = ap (λ z. (z * a) % 2 ^ w) (pow-zero (2 ^ w - 1)) ∙ ap (λ z. z % 2 ^ w) (one-mul a)
  even_sign (suc zero) a e = absurd (omega arith)
  even_sign (suc (suc i)) a e =
      mul_same (2 ^ w) ((2 ^ w - 1) ^ suc (suc i)) ((2 ^ w - 1) ^ i) a a (sign_two i) refl ∙ even_sign i a (omega arith)

  pub odd_sign : (i a : ℕ) → (i % 2 ≡ 0 → ⊥) → ((2 ^ w - 1) ^ i * a) % 2 ^ w ≡ Word.negation w a
  odd_sign zero a other = absurd (other refl)
  odd_sign (suc zero) a other =
      ap (λ z. (z * a) % 2 ^ w) (pow-suc (2 ^ w - 1) 0 ∙ ap (λ z. z * (2 ^ w - 1)) (pow-zero (2 ^ w - 1)) ∙ one-mul (2 ^ w - 1))
      ∙ sym (Ring.negation-product w a)
  odd_sign (suc (suc i)) a other =
      mul_same (2 ^ w) ((2 ^ w - 1) ^ suc (suc i)) ((2 ^ w - 1) ^ i) a a (sign_two i) refl ∙ odd_sign i a (λ e. other (omega arith))

  -- ---- entries, lengths and parts
  entry : (s : ℕ) (f : List ℕ) (i : ℕ) → get_or (alternated_from w s f) i 0 ≡ ((2 ^ w - 1) ^ i * s) * get_or f i 0
  unfolding alternated_from
  entry s [] i = sym (mul-zero ((2 ^ w - 1) ^ i * s))
  entry s (a ∷ f) zero = ap (λ z. z * a) (sym (ap (λ z. z * s) (pow-zero (2 ^ w - 1)) ∙ one-mul s))
  entry s (a ∷ f) (suc i) =
      entry ((2 ^ w - 1) * s) f i ∙ ap (λ z. z * get_or f i 0) (along ((2 ^ w - 1) ^ i) (2 ^ w - 1) s ∙ ap (λ z. z * s) (sym (pow-suc (2 ^ w - 1) i)))
    where
      along : (p m s : ℕ) → p * (m * s) ≡ (p * m) * s
      along p m s = omega arith

  pub entry_alternated : (f : List ℕ) (i : ℕ) → get_or (words w (alternated w f)) i 0 ≡ ((2 ^ w - 1) ^ i * get_or f i 0) % 2 ^ w
  entry_alternated f i =
      entry_words w (alternated w f) i
      ∙ ap (λ z. z % 2 ^ w) (entry 1 f i ∙ ap (λ z. z * get_or f i 0) (native.Mathlib.Nat.mul-one ((2 ^ w - 1) ^ i)))

  length_from : (s : ℕ) (f : List ℕ) → length (alternated_from w s f) ≡ length f
  unfolding alternated_from
  length_from s [] = refl
  length_from s (a ∷ f) = ap suc (length_from ((2 ^ w - 1) * s) f)

  pub length-alternated : (f : List ℕ) → length (words w (alternated w f)) ≡ length f
  length-alternated f = length-map (alternated w f) (λ a. a % 2 ^ w) ∙ length_from 1 f

  take-from : (n s : ℕ) (f : List ℕ) → take n (words w (alternated_from w s f)) ≡ words w (alternated_from w s (take n f))
  unfolding alternated_from
  take-from zero s f = refl
  take-from (suc n) s [] = refl
  take-from (suc n) s (a ∷ f) = ap {B = List ℕ} (λ g. ((s * a) % 2 ^ w) ∷ g) (take-from n ((2 ^ w - 1) * s) f)

  row_from : (n s : ℕ) (f : List ℕ) → words w (alternated_from w s (row n f)) ≡ row n (words w (alternated_from w s f))
  unfolding alternated_from row
  row_from zero s f = refl
  row_from (suc n) s [] =
      ap₂ {B = List ℕ} {C = List ℕ} ◌∷◌ (ap (λ z. z % 2 ^ w) (mul-zero s) ∙ zero-mod (2 ^ w)) (row_from n ((2 ^ w - 1) * s) [])
  row_from (suc n) s (a ∷ f) = ap {B = List ℕ} (λ g. ((s * a) % 2 ^ w) ∷ g) (row_from n ((2 ^ w - 1) * s) f)

  -- ---- a sign s that t undoes: signs alternated twice are as they were, and zeros stay
  undone : (t s : ℕ) → (t * s) % 2 ^ w ≡ 1 % 2 ^ w → ((2 ^ w - 1) * t * ((2 ^ w - 1) * s)) % 2 ^ w ≡ 1 % 2 ^ w
  undone t s e = ap (λ z. z % 2 ^ w) (along t s (2 ^ w - 1)) ∙ twice (t * s) ∙ e
    where
      along : (t s m : ℕ) → m * t * (m * s) ≡ t * s * m * m
      along t s m = omega arith

  undoes : (t s a : ℕ) → (t * s) % 2 ^ w ≡ 1 % 2 ^ w → (t * (s * a)) % 2 ^ w ≡ a % 2 ^ w
  undoes t s a e =
      ap (λ z. z % 2 ^ w) (sym (native.Mathlib.Nat.mul_assoc t s a)) ∙ mul_same (2 ^ w) (t * s) 1 a a e refl ∙ ap (λ z. z % 2 ^ w) (one-mul a)

  again : (t s : ℕ) → (t * s) % 2 ^ w ≡ 1 % 2 ^ w → (f : List ℕ) → words w (alternated_from w t (words w (alternated_from w s f))) ≡ words w f
  unfolding alternated_from
  again t s e [] = refl
  again t s e (a ∷ f) =
      ap₂ {B = List ℕ} {C = List ℕ} ◌∷◌
      (Rattle.word.proofs.Modulo.mul-mod-mod t (s * a) (2 ^ w) ∙ undoes t s a e)
      (again ((2 ^ w - 1) * t) ((2 ^ w - 1) * s) (undone t s e) f)

  zero_test : (t s a : ℕ) → (t * s) % 2 ^ w ≡ 1 % 2 ^ w → eqb ((s * a) % 2 ^ w) 0 ≡ eqb (a % 2 ^ w) 0
  zero_test t s a e = go (eqb (a % 2 ^ w) 0) refl
    where
      go : (b : Bool) → eqb (a % 2 ^ w) 0 ≡ b → eqb ((s * a) % 2 ^ w) 0 ≡ b
      go true q =
          eq-eqb ((s * a) % 2 ^ w) 0
          (mul_same (2 ^ w) s s a 0 refl (eqb-true (a % 2 ^ w) 0 q ∙ sym (zero-mod (2 ^ w))) ∙ ap (λ z. z % 2 ^ w) (mul-zero s) ∙ zero-mod (2 ^ w))
      go false q = ne_eqb ((s * a) % 2 ^ w) 0 (λ none. other (sym (undoes t s a e) ∙ mul_same (2 ^ w) t t (s * a) 0 refl (none ∙ sym (zero-mod (2 ^ w))) ∙ ap (λ z. z % 2 ^ w) (mul-zero t) ∙ zero-mod (2 ^ w)))
        where
          other : a % 2 ^ w ≡ 0 → ⊥
          other z = mathlib.Core.Bool.false≢true (sym q ∙ eq-eqb (a % 2 ^ w) 0 z)

  trailing : (t s : ℕ) → (t * s) % 2 ^ w ≡ 1 % 2 ^ w → (f : List ℕ)
      → without_trailing 0 (words w (alternated_from w s f)) ≡ words w (alternated_from w s (without_trailing 0 (words w f)))
  unfolding alternated_from without_trailing with_last
  trailing t s e [] = refl
  trailing t s e (a ∷ f) =
      ap (λ g. with_last 0 ((s * a) % 2 ^ w) g) (trailing ((2 ^ w - 1) * t) ((2 ^ w - 1) * s) (undone t s e) f) ∙ last (without_trailing 0 (words w f))
    where
      same : (s * a) % 2 ^ w ≡ (s * (a % 2 ^ w)) % 2 ^ w
      same = sym (Rattle.word.proofs.Modulo.mul-mod-mod s a (2 ^ w))

      alone : (b : Bool) → cond b [] (((s * a) % 2 ^ w) ∷ []) ≡ words w (alternated_from w s (cond b [] ((a % 2 ^ w) ∷ [])))
      alone true = refl
      alone false = ap {B = List ℕ} (λ z. z ∷ []) same

      last : (g : List ℕ) → with_last 0 ((s * a) % 2 ^ w) (words w (alternated_from w ((2 ^ w - 1) * s) g)) ≡ words w (alternated_from w s (with_last 0 (a % 2 ^ w) g))
      last [] = ap (λ b. cond b [] (((s * a) % 2 ^ w) ∷ [])) (zero_test t s a e) ∙ alone (eqb (a % 2 ^ w) 0)
      last (b ∷ g) = ap {B = List ℕ} (λ z. z ∷ words w (alternated_from w ((2 ^ w - 1) * s) (b ∷ g))) same

  -- The sign 1 undoes itself.
  one_one : (1 * 1) % 2 ^ w ≡ 1 % 2 ^ w
  one_one = refl

  pub alternated_twice : (f : List ℕ) → words w (alternated w (words w (alternated w f))) ≡ words w f
  alternated_twice f = again 1 1 one_one f

  pub trimmed-alternated : (f : List ℕ) → trimmed 0 (words w (alternated w f)) ≡ words w (alternated w (trimmed 0 (words w f)))
  unfolding trimmed without_trailing alternated_from
  trimmed-alternated [] = ap {B = List ℕ} (λ z. z ∷ []) (sym (zero-mod (2 ^ w)))
  trimmed-alternated (a ∷ f) =
      ap₂ {B = List ℕ} {C = List ℕ} ◌∷◌
      (sym (Rattle.word.proofs.Modulo.mul-mod-mod 1 a (2 ^ w)))
      (trailing ((2 ^ w - 1) * 1) ((2 ^ w - 1) * 1) (undone 1 1 one_one) f)

  -- ---- values: walking on along the alternated chain is walking back along the backward one
  value-from : (s : ℕ) (i : ℕ) (f : List ℕ) → sum_at (alternated_from w s f) i ≡ s * value_at (less w) 0 f i
  unfolding value_at shifted alternated_from
  value-from s zero [] = sym (mul-zero s)
  value-from s zero (a ∷ f) = refl
  value-from s (suc i) f =
      sum-next (alternated_from w s f) i
      ∙ ap₂ ◌+◌ (value-from s i f) (ap (λ g. sum_at g i) (later f) ∙ value-from ((2 ^ w - 1) * s) i (rest f))
      ∙ spread s (value_at (less w) 0 f i) (value_at (less w) 0 (rest f) i) (2 ^ w - 1)
      ∙ ap (λ z. s * z) (sym (before-next w f i))
    where
      later : (f : List ℕ) → rest (alternated_from w s f) ≡ alternated_from w ((2 ^ w - 1) * s) (rest f)
      later [] = refl
      later (a ∷ f) = refl

      spread : (s x u m : ℕ) → s * x + m * s * u ≡ s * (x + m * u)
      spread s x u m = omega arith

  value-alternated : (f : List ℕ) (i : ℕ) → sum_at (words w (alternated w f)) i % 2 ^ w ≡ value_at (less w) 0 f i % 2 ^ w
  value-alternated f i = value-words w (alternated w f) i ∙ ap (λ z. z % 2 ^ w) (value-from 1 i f ∙ one-mul (value_at (less w) 0 f i))

-- ---- the call: the forward call's answer with its signs alternated is the backward outcome
module _ (w : ℕ) where
  -- The chain with alternating signs, as words.
  abbrev flip : List ℕ → List ℕ
  flip f = words w (alternated w f)

  -- The words of no elements stay.
  pub none_flipped : row 17 [] ≡ flip (row 17 [])
  unfolding alternated_from
  none_flipped = sym (row_from w 17 1 [])

  flipped : Outcome → ChainAnswer
  flipped o = record { number = (answered o).number; place = (answered o).place; length = (answered o).length; elements = flip (answered o).elements }

  flipped_refused : (n : ℕ) → flipped (refused n) ≡ answered (refused n)
  unfolding flipped
  flipped_refused n = ap (λ e. record { number = n; place = 0; length = 0; elements = e }) (sym none_flipped)

  flipped_chain : (f : List ℕ) → words w f ≡ f → flipped (chain (flip f)) ≡ answered (chain f)
  unfolding flipped
  flipped_chain f whole =
      ap₂ (λ n e. record { number = 0; place = 0; length = n - 1; elements = e })
      (length-alternated w f) (row_from w 17 1 (flip f) ∙ ap (λ g. row 17 g) (alternated_twice w f ∙ whole))

  given_flipped : (f : List ℕ) (k : ℕ) → length f ≡ 17 → ((i : ℕ) → get_or f i 0 < 2 ^ w) → given (flip f) k ≡ flip (given f k)
  given_flipped f k long fits =
      ap (λ g. trimmed 0 g) (take-from w (k + 1) 1 f)
      ∙ trimmed-alternated w (take (k + 1) f)
      ∙ ap (λ g. flip (trimmed 0 g)) (kept-words w f k long fits)

  -- The product of the alternated chains is the alternated product, where it has 17 elements at most.
  product_flipped : (c d : List ℕ) → 0 < length c → 0 < length d → (length c - 1) + (length d - 1) ≤ 16
      → trimmed 0 (words w (SumChain.product (flip c) (flip d))) ≡ flip (trimmed 0 (words w (BackwardChain.product w c d)))
  product_flipped c d some-c some-d short =
      same_trimmed w 16 (SumChain.product (flip c) (flip d)) (alternated w (BackwardChain.product w c d))
      (omega (arith, length-product (flip c) (flip d) (length c) (length d - 1) (omega (arith, length-alternated w c)) (omega (arith, length-alternated w d))))
      (omega (arith, length_from w 1 (BackwardChain.product w c d), length-product_by (inverse_shift w) (length_shift (Word.difference w)) c d (length c) (length d - 1) (omega arith) (omega arith)))
      (λ i h. ap (λ z. z % 2 ^ w) (value-product (flip c) (flip d) i)
      ∙ mul_same (2 ^ w) (sum_at (flip c) i) (value_at (less w) 0 c i) (sum_at (flip d) i) (value_at (less w) 0 d i) (value-alternated w c i) (value-alternated w d i)
      ∙ sym (whole-product w i c d)
      ∙ ap (λ z. z % 2 ^ w) (sym (value-from w 1 i (BackwardChain.product w c d) ∙ one-mul (value_at (less w) 0 (BackwardChain.product w c d) i))))
      ∙ trimmed-alternated w (BackwardChain.product w c d)

  -- The outcomes, test by test.
  outcomes : (c d : List ℕ) → 0 < length c → 0 < length d → (a b : Bool)
      → flipped (cond a (refused 14) (cond b (refused 14) (unless_over (flip c) (flip d) (chain (trimmed 0 (words w (SumChain.product (flip c) (flip d))))))))
      ≡ answered (cond a (refused 14) (cond b (refused 14) (unless_over c d (chain (trimmed 0 (words w (BackwardChain.product w c d)))))))
  outcomes c d some-c some-d true b = flipped_refused 14
  outcomes c d some-c some-d false true = flipped_refused 14
  outcomes c d some-c some-d false false =
      ap (λ n. flipped (cond (ltb 16 n) (refused 15) (chain (trimmed 0 (words w (SumChain.product (flip c) (flip d)))))))
      (ap₂ (λ m n. (m - 1) + (n - 1)) (length-alternated w c) (length-alternated w d))
      ∙ go (ltb 16 ((length c - 1) + (length d - 1))) refl
    where
      go : (t : Bool) → ltb 16 ((length c - 1) + (length d - 1)) ≡ t
          → flipped (cond t (refused 15) (chain (trimmed 0 (words w (SumChain.product (flip c) (flip d))))))
          ≡ answered (cond t (refused 15) (chain (trimmed 0 (words w (BackwardChain.product w c d)))))
      go true e = flipped_refused 15
      go false e =
          ap (λ g. flipped (chain g)) (product_flipped c d some-c some-d (ltb-false 16 ((length c - 1) + (length d - 1)) e))
          ∙ flipped_chain (trimmed 0 (words w (BackwardChain.product w c d))) (trimmed-words w (BackwardChain.product w c d))

  pub product_by_signs : (f : List ℕ) (k : ℕ) (g : List ℕ) (l : ℕ) → length f ≡ 17 → length g ≡ 17
      → ((i : ℕ) → get_or f i 0 < 2 ^ w) → ((i : ℕ) → get_or g i 0 < 2 ^ w) → {p q e : List ℕ} {r : ChainAnswer}
      → p ≡ words w (alternated w f) → q ≡ words w (alternated w g) → r ≡ answered (product_outcome w p k q l) → e ≡ words w (alternated w r.elements)
      → record { number = r.number; place = r.place; length = r.length; elements = e } ≡ answered (backward_product_outcome w f k g l)
  unfolding flipped
  product_by_signs f k g l f-long g-long f-fits g-fits {p} {q} {e} {r} from-f from-g product signs =
      ap (λ x. record { number = r.number; place = r.place; length = r.length; elements = x }) signs
      ∙ ap (λ x. record { number = x.number; place = x.place; length = x.length; elements = flip x.elements })
      (product ∙ ap₂ (λ x y. answered (product_outcome w x k y l)) from-f from-g)
      ∙ ap₂ (λ c d. flipped (cond (ltb 16 k) (refused 14) (cond (ltb 16 l) (refused 14) (unless_over c d (chain (trimmed 0 (words w (SumChain.product c d))))))))
      (given_flipped f k f-long f-fits) (given_flipped g l g-long g-fits)
      ∙ outcomes (given f k) (given g l) (length-trimmed_some 0 (take (k + 1) f)) (length-trimmed_some 0 (take (l + 1) g)) (ltb 16 k) (ltb 16 l)
