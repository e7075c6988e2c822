-- Passes over a lent part and over an array, and every word of a part: what the loops leave after each turn. What the passes are worth is in ByValues.antt.
use mathlib.Core.Path.{◌≡◌, refl, sym, ap, ap₂, ◌∙◌}
use mathlib.Core.List.{List, [], ◌∷◌, ◌++◌, append-nil, map}
use Prim.Native.Nat.{ℕ, zero, suc, ◌+◌, ◌-◌, ◌<◌, ◌≤◌}
use native.Mathlib.Nat.{le_of_suc-le-suc, not-suc-le-zero}
use native.Mathlib.Numerals.{add-one}
use native.Mathlib.Omega.{arith}
use lib.ListN.{length, get_or, take, drop, set, length-drop, drop_of_length-le}
use lib.Seq.{take-length, take_all}
use Rattle.chain_values.specs.Passes.{behind, met, passes}

module _ (◌⊙◌ : ℕ → ℕ → ℕ) where
  pub length-behind : (a : ℕ) (f : List ℕ) → length (behind ◌⊙◌ a f) ≡ length f
  unfolding behind
  length-behind a [] = refl
  length-behind a (b ∷ f) = ap suc (length-behind b f)

  pub length-met : (f : List ℕ) → length (met ◌⊙◌ f) ≡ length f
  unfolding met
  length-met [] = refl
  length-met (a ∷ f) = ap suc (length-behind a f)

  pub length-passes : (n : ℕ) (f : List ℕ) → length (passes ◌⊙◌ n f) ≡ length f
  unfolding passes
  length-passes zero f = refl
  length-passes (suc n) [] = refl
  length-passes (suc n) (a ∷ f) = ap suc (length-passes n (behind ◌⊙◌ a f) ∙ length-behind a f)

  pub entry_behind : (a : ℕ) (f : List ℕ) (i : ℕ) → i < length f → get_or (behind ◌⊙◌ a f) i 0 ≡ ◌⊙◌ (get_or f i 0) (get_or (a ∷ f) i 0)
  unfolding behind
  entry_behind a [] i h = absurd (not-suc-le-zero h)
  entry_behind a (b ∷ f) zero h = refl
  entry_behind a (b ∷ f) (suc i) h = entry_behind b f i (le_of_suc-le-suc h)

  -- ---- one pass in place, from the top down: the words from the i-th on have met the ones before them
  pub meeting : ℕ → List ℕ → List ℕ
  meeting i f = take i f ++ drop i (met ◌⊙◌ f)

  pub meeting-none : (f : List ℕ) → f ≡ meeting (length f) f
  unfolding meeting
  meeting-none f =
      sym (append-nil f)
      ∙ sym (ap₂ ◌++◌ (take-length f) (drop_of_length-le (met ◌⊙◌ f) {i = length f} (omega (arith, length-met f))))

  pub meeting-all : (i : ℕ) (f : List ℕ) → i ≤ 1 → meeting i f ≡ met ◌⊙◌ f
  unfolding meeting met
  meeting-all zero f h = refl
  meeting-all (suc zero) [] h = refl
  meeting-all (suc zero) (a ∷ f) h = refl
  meeting-all (suc (suc i)) f h = absurd (not-suc-le-zero (le_of_suc-le-suc h))

  meet : (i a : ℕ) (f : List ℕ) → i < length f
      → set (a ∷ (take (suc i) f ++ drop (suc i) (behind ◌⊙◌ a f))) (suc i)
      (◌⊙◌ (get_or (a ∷ (take (suc i) f ++ drop (suc i) (behind ◌⊙◌ a f))) (suc i) 0) (get_or (a ∷ (take (suc i) f ++ drop (suc i) (behind ◌⊙◌ a f))) i 0))
      ≡ a ∷ (take i f ++ drop i (behind ◌⊙◌ a f))
  unfolding behind
  meet i a [] h = absurd (not-suc-le-zero h)
  meet zero a (b ∷ f) h = refl
  meet (suc i) a (b ∷ f) h = ap {B = List ℕ} (λ g. a ∷ g) (meet i b f (le_of_suc-le-suc h))

  meets : (i : ℕ) (f : List ℕ) → suc i < length f
      → set (meeting (suc (suc i)) f) (suc i) (◌⊙◌ (get_or (meeting (suc (suc i)) f) (suc i) 0) (get_or (meeting (suc (suc i)) f) i 0)) ≡ meeting (suc i) f
  unfolding meeting met
  meets i [] h = absurd (not-suc-le-zero h)
  meets i (a ∷ f) h = meet i a f (le_of_suc-le-suc h)

  -- One replacement: a word meets its lower neighbour's old value; i is its place.
  pub meet_turn : (below : ℕ) (f : List ℕ) {i : ℕ} {r : List ℕ} {v : ℕ} → i ≡ below + 1 → i < length f → r ≡ meeting (i + 1) f
      → v ≡ ◌⊙◌ (get_or r i 0) (get_or r below 0) → set r i v ≡ meeting i f
  meet_turn below f {i} {r} above h e q =
      ap (λ x. set r i x) q
      ∙ ap (λ n. set r n (◌⊙◌ (get_or r n 0) (get_or r below 0))) next
      ∙ ap (λ l. set l (suc below) (◌⊙◌ (get_or l (suc below) 0) (get_or l below 0))) (e ∙ ap (λ n. meeting n f) (omega arith))
      ∙ meets below f (omega arith)
      ∙ ap (λ n. meeting n f) (sym next)
    where
      next : i ≡ suc below
      next = omega arith

  -- ---- pass after pass
  pub passes_none : (f : List ℕ) → f ≡ passes ◌⊙◌ 0 f
  unfolding passes
  passes_none f = refl

  pass : (j : ℕ) (f : List ℕ) → take j (passes ◌⊙◌ j f) ++ met ◌⊙◌ (drop j (passes ◌⊙◌ j f)) ≡ passes ◌⊙◌ (suc j) f
  unfolding passes met
  pass zero [] = refl
  pass zero (a ∷ f) = refl
  pass (suc j) [] = refl
  pass (suc j) (a ∷ f) = ap {B = List ℕ} (λ g. a ∷ g) (pass j (behind ◌⊙◌ a f))

  -- One pass over the words from the j-th on, as they are lent and put back.
  pub pass_turn : (j : ℕ) (f : List ℕ) {r part : List ℕ} → length f ≡ 17 → r ≡ passes ◌⊙◌ j f
      → part ≡ met ◌⊙◌ (take (17 - j) (drop j r)) → take j r ++ (part ++ drop (17 - j) (drop j r)) ≡ passes ◌⊙◌ (j + 1) f
  pass_turn j f {r} {part} long e q =
      ap (λ l. take j r ++ l) (ap₂ ◌++◌ (q ∙ ap (λ l. met ◌⊙◌ l) (take_all (17 - j) (drop j r) short)) (drop_of_length-le (drop j r) {i = 17 - j} short) ∙ append-nil (met ◌⊙◌ (drop j r)))
      ∙ ap (λ l. take j l ++ met ◌⊙◌ (drop j l)) e
      ∙ pass j f
      ∙ ap (λ n. passes ◌⊙◌ n f) (sym (add-one j))
    where
      short : length (drop j r) ≤ 17 - j
      short = omega (arith, length-drop j r, ap length e, length-passes j f)

-- ---- every word, in place: the first i are done
module _ (h : ℕ → ℕ) where
  pub done : ℕ → List ℕ → List ℕ
  done i f = take i (map h f) ++ drop i f

  pub done_none : (f : List ℕ) → f ≡ done 0 f
  unfolding done
  done_none f = refl

  pub done_all : (i : ℕ) (f : List ℕ) → length f ≤ i → done i f ≡ map h f
  unfolding done
  done_all zero [] k = refl
  done_all (suc i) [] k = refl
  done_all zero (a ∷ f) k = absurd (not-suc-le-zero k)
  done_all (suc i) (a ∷ f) k = ap {B = List ℕ} (λ g. h a ∷ g) (done_all i f (le_of_suc-le-suc k))

  does : (i : ℕ) (f : List ℕ) → i < length f → set (done i f) i (h (get_or (done i f) i 0)) ≡ done (suc i) f
  unfolding done
  does i [] k = absurd (not-suc-le-zero k)
  does zero (a ∷ f) k = refl
  does (suc i) (a ∷ f) k = ap {B = List ℕ} (λ g. h a ∷ g) (does i f (le_of_suc-le-suc k))

  pub done_turn : (i : ℕ) (f : List ℕ) {r : List ℕ} {v : ℕ} → i < length f → r ≡ done i f → v ≡ h (get_or r i 0) → set r i v ≡ done (i + 1) f
  done_turn i f {r} k e q =
      ap (λ x. set r i x) q ∙ ap (λ l. set l i (h (get_or l i 0))) e ∙ does i f k ∙ ap (λ n. done n f) (sym (add-one i))
