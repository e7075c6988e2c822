-- Conversion turn by turn: after j turns j words are those of the converted chain, and the rest is a chain still to be converted.
use Rattle.std.proofs.Common.{◌≡◌, ℕ, zero, suc, ◌-◌, ◌<◌, ◌≤◌, List, [], ◌∷◌, ◌++◌, length, take, drop, sym, refl, ap, ◌∙◌, ap₂, append-nil, le_of_suc-le-suc, not-suc-le-zero, arith, length-drop, drop_of_length-le, take_all}
use Rattle.chain.specs.Chain.{shift_from_top}
use Rattle.chain.specs.BackwardChain.{converted}
use Rattle.chain.proofs.Shifting.{length-from_top}
use Rattle.chain.proofs.Conversions.{convert-next, convert-none}

module _ (◌⊙◌ : ℕ → ℕ → ℕ) where
  pub underway : ℕ → List ℕ → List ℕ
  underway zero f = f
  underway (suc j) [] = []
  underway (suc j) (a ∷ f) = a ∷ underway j (shift_from_top ◌⊙◌ f)

  pub underway_none : (f : List ℕ) → f ≡ underway 0 f
  unfolding underway
  underway_none f = refl

  pub length_underway : (j : ℕ) (f : List ℕ) → length (underway j f) ≡ length f
  unfolding underway
  length_underway zero f = refl
  length_underway (suc j) [] = refl
  length_underway (suc j) (a ∷ f) = ap suc (length_underway j (shift_from_top ◌⊙◌ f) ∙ length-from_top ◌⊙◌ f)

  pub underway_all : (j : ℕ) (f : List ℕ) → length f ≤ suc j → underway j f ≡ converted (shift_from_top ◌⊙◌) f
  unfolding underway shift_from_top
  underway_all zero [] h = sym (convert-none (shift_from_top ◌⊙◌))
  underway_all zero (a ∷ []) h =
      sym (convert-next (shift_from_top ◌⊙◌) a [] (length-from_top ◌⊙◌ []) ∙ ap {B = List ℕ} (λ g. a ∷ g) (convert-none (shift_from_top ◌⊙◌)))
  underway_all zero (a ∷ b ∷ f) h = absurd (not-suc-le-zero (le_of_suc-le-suc h))
  underway_all (suc j) [] h = sym (convert-none (shift_from_top ◌⊙◌))
  underway_all (suc j) (a ∷ f) h =
      ap {B = List ℕ} (λ g. a ∷ g) (underway_all j (shift_from_top ◌⊙◌ f) (rw (length-from_top ◌⊙◌ f) (le_of_suc-le-suc h)))
      ∙ sym (convert-next (shift_from_top ◌⊙◌) a f (length-from_top ◌⊙◌ f))

  turn : (j : ℕ) (f : List ℕ) → take (suc j) (underway j f) ++ shift_from_top ◌⊙◌ (drop (suc j) (underway j f)) ≡ underway (suc j) f
  unfolding underway shift_from_top
  turn zero [] = refl
  turn zero (a ∷ f) = refl
  turn (suc j) [] = refl
  turn (suc j) (a ∷ f) = ap {B = List ℕ} (λ g. a ∷ g) (turn j (shift_from_top ◌⊙◌ f))

  -- One turn over the words from the j-th on, as they are lent and put back.
  pub underway_turn : (j : ℕ) (f : List ℕ) {r part : List ℕ} → 0 < j → length f ≡ 17 → r ≡ underway (j - 1) f
      → part ≡ shift_from_top ◌⊙◌ (take (17 - j) (drop j r)) → take j r ++ (part ++ drop (17 - j) (drop j r)) ≡ underway j f
  underway_turn zero f some long e q = absurd (not-suc-le-zero some)
  underway_turn (suc j) f {r} {part} some long e q =
      ap (λ l. take (suc j) r ++ l)
      (ap₂ ◌++◌ (q ∙ ap (λ l. shift_from_top ◌⊙◌ l) (take_all (17 - suc j) (drop (suc j) r) short)) (drop_of_length-le (drop (suc j) r) {i = 17 - suc j} short)
      ∙ append-nil (shift_from_top ◌⊙◌ (drop (suc j) r)))
      ∙ ap (λ l. take (suc j) l ++ shift_from_top ◌⊙◌ (drop (suc j) l)) before
      ∙ turn j f
    where
      before : r ≡ underway j f
      before = e ∙ ap (λ n. underway n f) (omega arith)

      short : length (drop (suc j) r) ≤ 17 - suc j
      short = omega (arith, length-drop (suc j) r, ap length before, length_underway j f)
