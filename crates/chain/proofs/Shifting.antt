-- A chain shifted in place, from the bottom up or from the top down: what an array holds on the way, and that a shift can be taken back.
use mathlib.Core.Path.{◌≡◌, refl, sym, ap, ap₂, ◌∙◌}
use mathlib.Core.List.{List, [], ◌∷◌, ◌++◌}
use Prim.Native.Nat.{ℕ, zero, suc, ◌+◌, ◌%◌, ◌^◌, ◌<◌, ◌≤◌}
use native.Mathlib.Nat.{mod-eq_of_lt, mod-mod, le_of_suc-le-suc, not-suc-le-zero}
use native.Mathlib.Numerals.{add-one}
use native.Mathlib.Omega.{arith}
use lib.ListN.{length, get_or, take, drop, set}
use lib.Seq.{take-nil, drop-nil}
use Rattle.word.proofs.Modulo.{outward}
use Rattle.chain.specs.Chain.{shift, meeting, shift_from_top, words}
use Rattle.chain.specs.SumChain.{sum_shift, inverse_shift}
use Rattle.chain.proofs.Rows.{words-whole}
use Rattle.word.specs.Word as Word
use Rattle.word.proofs.Ring as Ring

pub length_shift : (◌⊙◌ : ℕ → ℕ → ℕ) (f : List ℕ) → length (shift ◌⊙◌ f) ≡ length f
unfolding shift
length_shift ◌⊙◌ [] = refl
length_shift ◌⊙◌ (a ∷ []) = refl
length_shift ◌⊙◌ (a ∷ b ∷ f) = ap suc (length_shift ◌⊙◌ (b ∷ f))

-- ---- one shift, from the bottom up, of a sum chain or a product chain
module _ (◌⊙◌ : ℕ → ℕ → ℕ) (w : ℕ) where
  -- What an array holds after i replacements: i words of the shifted chain, then those that are still to be replaced.
  pub turned : ℕ → List ℕ → List ℕ
  turned i f = take i (words w (shift ◌⊙◌ f)) ++ drop i f

  pub turned_none : (f : List ℕ) → f ≡ turned 0 f
  unfolding turned
  turned_none f = refl

  -- When at most the last element is left, it is kept, and all is done.
  pub turned_all : (i : ℕ) (f : List ℕ) → length f ≤ suc i → get_or f i 0 < 2 ^ w → turned i f ≡ words w (shift ◌⊙◌ f)
  unfolding turned shift
  turned_all zero [] h fits = refl
  turned_all (suc i) [] h fits = refl
  turned_all zero (a ∷ []) h fits = ap {B = List ℕ} (λ x. x ∷ []) (sym (mod-eq_of_lt fits))
  turned_all (suc i) (a ∷ []) h fits = ap₂ {C = List ℕ} (λ f g. (a % 2 ^ w) ∷ f ++ g) (take-nil i) (drop-nil i)
  turned_all zero (a ∷ b ∷ f) h fits = absurd (not-suc-le-zero (le_of_suc-le-suc h))
  turned_all (suc i) (a ∷ b ∷ f) h fits = ap {B = List ℕ} (λ g. (◌⊙◌ a b % 2 ^ w) ∷ g) (turned_all i (b ∷ f) (le_of_suc-le-suc h) fits)

  turn : (i : ℕ) (f : List ℕ) → suc i < length f
      → set (turned i f) i (◌⊙◌ (get_or (turned i f) i 0) (get_or (turned i f) (suc i) 0) % 2 ^ w) ≡ turned (suc i) f
  unfolding turned shift
  turn i [] h = absurd (not-suc-le-zero h)
  turn i (a ∷ []) h = absurd (not-suc-le-zero (le_of_suc-le-suc h))
  turn zero (a ∷ b ∷ f) h = refl
  turn (suc i) (a ∷ b ∷ f) h = ap {B = List ℕ} (λ g. (◌⊙◌ a b % 2 ^ w) ∷ g) (turn i (b ∷ f) (le_of_suc-le-suc h))

  -- One replacement: an element meets its neighbour's old value.
  pub shift_turn : (i : ℕ) (f : List ℕ) {r : List ℕ} {v : ℕ} → i + 1 < length f → r ≡ turned i f
      → v ≡ ◌⊙◌ (get_or r i 0) (get_or r (i + 1) 0) % 2 ^ w → set r i v ≡ turned (i + 1) f
  shift_turn i f {r} h e q =
      ap (λ x. set r i x) q
      ∙ ap (λ l. set l i (◌⊙◌ (get_or l i 0) (get_or l (i + 1) 0) % 2 ^ w)) e
      ∙ ap (λ n. set (turned i f) i (◌⊙◌ (get_or (turned i f) i 0) (get_or (turned i f) n 0) % 2 ^ w)) (add-one i)
      ∙ turn i f (omega arith)
      ∙ ap (λ n. turned n f) (sym (add-one i))

-- ---- a shift from the top down
module _ (◌⊙◌ : ℕ → ℕ → ℕ) where
  length-meeting : (a : ℕ) (g : List ℕ) → length (meeting ◌⊙◌ a g) ≡ suc (length g)
  unfolding meeting
  length-meeting a [] = refl
  length-meeting a (b ∷ g) = refl

  pub length-from_top : (f : List ℕ) → length (shift_from_top ◌⊙◌ f) ≡ length f
  unfolding shift_from_top
  length-from_top [] = refl
  length-from_top (a ∷ f) = length-meeting a (shift_from_top ◌⊙◌ f) ∙ ap suc (length-from_top f)

  -- What an array holds when its words from the i-th on are replaced.
  pub unturned : ℕ → List ℕ → List ℕ
  unturned i f = take i f ++ shift_from_top ◌⊙◌ (drop i f)

  pub unturned_none : (i : ℕ) (f : List ℕ) → length f ≤ suc i → f ≡ unturned i f
  unfolding unturned shift_from_top meeting
  unturned_none zero [] h = refl
  unturned_none (suc i) [] h = refl
  unturned_none zero (a ∷ []) h = refl
  unturned_none zero (a ∷ b ∷ f) h = absurd (not-suc-le-zero (le_of_suc-le-suc h))
  unturned_none (suc i) (a ∷ f) h = ap {B = List ℕ} (λ g. a ∷ g) (unturned_none i f (le_of_suc-le-suc h))

  pub unturned_all : (f : List ℕ) → unturned 0 f ≡ shift_from_top ◌⊙◌ f
  unfolding unturned
  unturned_all f = refl

  meeting_some : (a : ℕ) (g : List ℕ) → 0 < length g → ◌⊙◌ a (get_or g 0 0) ∷ g ≡ meeting ◌⊙◌ a g
  unfolding meeting
  meeting_some a [] h = absurd (not-suc-le-zero h)
  meeting_some a (b ∷ g) h = refl

  unturn : (i : ℕ) (f : List ℕ) → suc i < length f
      → set (unturned (suc i) f) i (◌⊙◌ (get_or (unturned (suc i) f) i 0) (get_or (unturned (suc i) f) (suc i) 0)) ≡ unturned i f
  unfolding unturned shift_from_top
  unturn i [] h = absurd (not-suc-le-zero h)
  unturn zero (a ∷ f) h = meeting_some a (shift_from_top ◌⊙◌ f) (rw (length-from_top f) (le_of_suc-le-suc h))
  unturn (suc i) (a ∷ f) h = ap {B = List ℕ} (λ g. a ∷ g) (unturn i f (le_of_suc-le-suc h))

  -- One replacement: an element meets its neighbour's new value.
  pub from_top_turn : (i : ℕ) (f : List ℕ) {r : List ℕ} {v : ℕ} → i + 1 < length f → r ≡ unturned (i + 1) f
      → v ≡ ◌⊙◌ (get_or r i 0) (get_or r (i + 1) 0) → set r i v ≡ unturned i f
  from_top_turn i f {r} h e q =
      ap (λ x. set r i x) q
      ∙ ap (λ l. set l i (◌⊙◌ (get_or l i 0) (get_or l (i + 1) 0))) e
      ∙ ap (λ n. set (unturned n f) i (◌⊙◌ (get_or (unturned n f) i 0) (get_or (unturned n f) n 0))) (add-one i)
      ∙ unturn i f (omega arith)

-- ---- a shift taken back: where ⊘ undoes ⊙ on words, going from one end with ⊘ undoes going from the other end with ⊙
module _ (w : ℕ) (◌⊙◌ ◌⊘◌ : ℕ → ℕ → ℕ) (undo : (a b : ℕ) → ◌⊘◌ (◌⊙◌ a b) b ≡ a % 2 ^ w) where
  undo_word : (a b : ℕ) → ◌⊘◌ (◌⊙◌ (a % 2 ^ w) b) b ≡ a % 2 ^ w
  undo_word a b = undo (a % 2 ^ w) b ∙ mod-mod a (2 ^ w)

  pub top_undoes_bottom : (f : List ℕ) → shift_from_top ◌⊘◌ (shift ◌⊙◌ (words w f)) ≡ words w f
  unfolding shift shift_from_top meeting
  top_undoes_bottom [] = refl
  top_undoes_bottom (a ∷ []) = refl
  top_undoes_bottom (a ∷ b ∷ f) =
      ap (λ g. meeting ◌⊘◌ (◌⊙◌ (a % 2 ^ w) (b % 2 ^ w)) g) (top_undoes_bottom (b ∷ f))
      ∙ ap {B = List ℕ} (λ x. x ∷ (b % 2 ^ w) ∷ words w f) (undo_word a (b % 2 ^ w))

  pub bottom_undoes_top : (f : List ℕ) → shift ◌⊘◌ (shift_from_top ◌⊙◌ (words w f)) ≡ words w f
  unfolding shift shift_from_top meeting
  bottom_undoes_top [] = refl
  bottom_undoes_top (a ∷ f) = first (shift_from_top ◌⊙◌ (words w f)) ∙ ap {B = List ℕ} (λ g. (a % 2 ^ w) ∷ g) (bottom_undoes_top f)
    where
      first : (g : List ℕ) → shift ◌⊘◌ (meeting ◌⊙◌ (a % 2 ^ w) g) ≡ (a % 2 ^ w) ∷ shift ◌⊘◌ g
      first [] = refl
      first (b ∷ g) = ap {B = List ℕ} (λ x. x ∷ shift ◌⊘◌ (b ∷ g)) (undo_word a b)

-- ---- sums and differences of words undo each other, and a shift in whole numbers is one in words
module _ (w : ℕ) where
  pub sum_undone : (a b : ℕ) → Word.difference w (Word.sum w a b) b ≡ a % 2 ^ w
  sum_undone a b =
      sym (Ring.difference-unique w ((a + b) % 2 ^ w) b (a % 2 ^ w) (Ring.word_fits w a) (simp outward))

  pub words-shift : (◌⊙◌ ◌⊞◌ : ℕ → ℕ → ℕ) → ((a b : ℕ) → ◌⊙◌ a b % 2 ^ w ≡ ◌⊞◌ (a % 2 ^ w) (b % 2 ^ w))
      → (f : List ℕ) → words w (shift ◌⊙◌ f) ≡ shift ◌⊞◌ (words w f)
  unfolding shift
  words-shift ◌⊙◌ ◌⊞◌ same [] = refl
  words-shift ◌⊙◌ ◌⊞◌ same (a ∷ []) = refl
  words-shift ◌⊙◌ ◌⊞◌ same (a ∷ b ∷ f) = ap₂ {B = List ℕ} {C = List ℕ} ◌∷◌ (same a b) (words-shift ◌⊙◌ ◌⊞◌ same (b ∷ f))

  pub words-from_top : (◌⊙◌ ◌⊞◌ : ℕ → ℕ → ℕ) → ((a b : ℕ) → ◌⊙◌ a b % 2 ^ w ≡ ◌⊞◌ (a % 2 ^ w) (b % 2 ^ w))
      → (f : List ℕ) → words w (shift_from_top ◌⊙◌ f) ≡ shift_from_top ◌⊞◌ (words w f)
  unfolding shift_from_top meeting
  words-from_top ◌⊙◌ ◌⊞◌ same [] = refl
  words-from_top ◌⊙◌ ◌⊞◌ same (a ∷ f) =
      first (shift_from_top ◌⊙◌ f) ∙ ap (λ g. meeting ◌⊞◌ (a % 2 ^ w) g) (words-from_top ◌⊙◌ ◌⊞◌ same f)
    where
      first : (g : List ℕ) → words w (meeting ◌⊙◌ a g) ≡ meeting ◌⊞◌ (a % 2 ^ w) (words w g)
      first [] = refl
      first (b ∷ g) = ap {B = List ℕ} (λ x. x ∷ (b % 2 ^ w) ∷ words w g) (same a b)

  pub sum_of_words : (a b : ℕ) → (a + b) % 2 ^ w ≡ Word.sum w (a % 2 ^ w) (b % 2 ^ w)
  sum_of_words a b = simp outward

  pub difference_of_words : (a b : ℕ) → Word.difference w a b % 2 ^ w ≡ Word.difference w (a % 2 ^ w) (b % 2 ^ w)
  difference_of_words a b = simp outward

  -- The inverse shift of a shifted chain is the chain, as words.
  pub unshift_shift : (f : List ℕ) → inverse_shift w (words w (sum_shift f)) ≡ words w f
  unshift_shift f =
      ap (λ g. inverse_shift w g) (words-shift ◌+◌ (Word.sum w) sum_of_words f) ∙ top_undoes_bottom w (Word.sum w) (Word.difference w) sum_undone f

  pub unshifted : (f : List ℕ) → ((i : ℕ) → get_or f i 0 < 2 ^ w) → inverse_shift w (words w (sum_shift f)) ≡ f
  unshifted f fits = unshift_shift f ∙ words-whole w f fits
