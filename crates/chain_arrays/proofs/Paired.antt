-- Arrays of 17 words worked out word by word: the words that a loop stores, and that they are sums, differences, products, powers and
-- raises of chains. What these are worth and how they are trimmed is in `chain`.
use Rattle.std.proofs.Common.{◌≡◌, ℕ, zero, suc, ◌+◌, ◌*◌, ◌%◌, ◌^◌, ◌<◌, List, [], ◌∷◌, map, length, get_or, replicate, sym, refl, ap, ◌∙◌, le_of_suc-le-suc, not-suc-le-zero, arith}
use Rattle.word.specs.Word as Word
use Rattle.chain.specs.Chain.{joined, words, row}
use Rattle.chain.specs.SumChain.{sum, difference}
use Rattle.chain.specs.ProductChain.{joint_product, power_of_each, raised}
use Rattle.chain.proofs.Rows.{row-whole}
use Rattle.chain_arrays.specs.Operations.{Sum, Difference, Product, Power, paired, word_by_word}

module _ (◌⊙◌ : ℕ → ℕ → ℕ) where
  pub entry_paired : (f g : List ℕ) (i : ℕ) → i < length f → i < length g → get_or (paired ◌⊙◌ f g) i 0 ≡ ◌⊙◌ (get_or f i 0) (get_or g i 0)
  unfolding paired
  entry_paired [] g i h k = absurd (not-suc-le-zero h)
  entry_paired (a ∷ f) [] i h k = absurd (not-suc-le-zero k)
  entry_paired (a ∷ f) (b ∷ g) zero h k = refl
  entry_paired (a ∷ f) (b ∷ g) (suc i) h k = entry_paired f g i (le_of_suc-le-suc h) (le_of_suc-le-suc k)

  pub length-paired : (n : ℕ) (f g : List ℕ) → length f ≡ n → length g ≡ n → length (paired ◌⊙◌ f g) ≡ n
  unfolding paired
  length-paired n [] g p q = p
  length-paired n (a ∷ f) [] p q = q
  length-paired zero (a ∷ f) (b ∷ g) p q = absurd (omega arith)
  length-paired (suc n) (a ∷ f) (b ∷ g) p q = ap suc (length-paired n f g (omega arith) (omega arith))

  -- Where both have one length, nothing is filled.
  paired-joined : (unit : ℕ) (f g : List ℕ) → length f ≡ length g → paired ◌⊙◌ f g ≡ joined ◌⊙◌ unit f g
  unfolding paired joined
  paired-joined unit [] [] e = refl
  paired-joined unit [] (b ∷ g) e = absurd (omega arith)
  paired-joined unit (a ∷ f) [] e = absurd (omega arith)
  paired-joined unit (a ∷ f) (b ∷ g) e = ap {B = List ℕ} (λ h. (◌⊙◌ a b) ∷ h) (paired-joined unit f g (omega arith))

  -- One word with every word.
  paired-left : (c n : ℕ) (f : List ℕ) → length f ≡ n → paired ◌⊙◌ (replicate n c) f ≡ map (λ a. ◌⊙◌ c a) f
  unfolding paired
  paired-left c zero [] e = refl
  paired-left c zero (a ∷ f) e = absurd (omega arith)
  paired-left c (suc n) [] e = refl
  paired-left c (suc n) (a ∷ f) e = ap {B = List ℕ} (λ h. (◌⊙◌ c a) ∷ h) (paired-left c n f (omega arith))

  -- Each result taken modulo 2^64.
  words-paired : (f g : List ℕ) → paired (λ a b. ◌⊙◌ a b % 2 ^ 64) f g ≡ words 64 (paired ◌⊙◌ f g)
  unfolding paired
  words-paired [] g = refl
  words-paired (a ∷ f) [] = refl
  words-paired (a ∷ f) (b ∷ g) = ap {B = List ℕ} (λ h. (◌⊙◌ a b % 2 ^ 64) ∷ h) (words-paired f g)

-- The operands exchanged, and the operation with them.
exchanged : (◌⊙◌ : ℕ → ℕ → ℕ) (f g : List ℕ) → paired ◌⊙◌ f g ≡ paired (λ a b. ◌⊙◌ b a) g f
unfolding paired
exchanged ◌⊙◌ [] [] = refl
exchanged ◌⊙◌ [] (b ∷ g) = refl
exchanged ◌⊙◌ (a ∷ f) [] = refl
exchanged ◌⊙◌ (a ∷ f) (b ∷ g) = ap {B = List ℕ} (λ h. (◌⊙◌ a b) ∷ h) (exchanged ◌⊙◌ f g)

module _ (f : List ℕ) (f-long : length f ≡ 17) where
  pub powers_by_word : (n : ℕ) → word_by_word Power f (replicate 17 n) ≡ words 64 (power_of_each f n)
  powers_by_word n =
      words-paired ◌^◌ f (replicate 17 n)
      ∙ ap (words 64) (exchanged ◌^◌ f (replicate 17 n) ∙ paired-left (λ b a. a ^ b) n 17 f f-long)

  pub raises_by_word : (c : ℕ) → word_by_word Power (replicate 17 c) f ≡ words 64 (raised c f)
  raises_by_word c = words-paired ◌^◌ (replicate 17 c) f ∙ ap (words 64) (paired-left ◌^◌ c 17 f f-long)

  module _ (g : List ℕ) (g-long : length g ≡ 17) where
    pub products_by_word : word_by_word Product f g ≡ words 64 (joint_product f g)
    products_by_word = words-paired ◌*◌ f g ∙ ap (words 64) (paired-joined ◌*◌ 1 f g (f-long ∙ sym g-long))

    as_row : (◌⊙◌ : ℕ → ℕ → ℕ) {h : List ℕ} → paired ◌⊙◌ f g ≡ h → paired ◌⊙◌ f g ≡ row 17 h
    as_row ◌⊙◌ e = sym (row-whole 17 (paired ◌⊙◌ f g) (length-paired ◌⊙◌ 17 f g f-long g-long)) ∙ ap (row 17) e

    pub sums_by_word : word_by_word Sum f g ≡ row 17 (words 64 (sum f g))
    sums_by_word = as_row (Word.sum 64) (words-paired ◌+◌ f g ∙ ap (words 64) (paired-joined ◌+◌ 0 f g (f-long ∙ sym g-long)))

    pub differences_by_word : word_by_word Difference f g ≡ row 17 (difference 64 f g)
    differences_by_word = as_row (Word.difference 64) (paired-joined (Word.difference 64) 0 f g (f-long ∙ sym g-long))
