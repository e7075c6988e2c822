-- Passes over a list of words: each word with the one before it, and again without the first. The operation on two words is a parameter.
-- With sums a sum chain becomes its values, with differences values become the chain through them; that they do is in proofs/ByValues.antt.
use Rattle.std.specs.Prelude.{List, [], ◌∷◌, ℕ, zero, suc}

-- Each word with the one before it, old values on the right; a stands before the first.
unfoldable pub behind : (ℕ → ℕ → ℕ) → ℕ → List ℕ → List ℕ
behind ◌⊙◌ a [] = []
behind ◌⊙◌ a (b ∷ f) = (◌⊙◌ b a) ∷ behind ◌⊙◌ b f

-- One pass: the first word stays.
unfoldable pub met : (ℕ → ℕ → ℕ) → List ℕ → List ℕ
met ◌⊙◌ [] = []
met ◌⊙◌ (a ∷ f) = a ∷ behind ◌⊙◌ a f

-- n passes, each over the words behind the first one of the pass before.
unfoldable pub passes : (ℕ → ℕ → ℕ) → ℕ → List ℕ → List ℕ
passes ◌⊙◌ zero f = f
passes ◌⊙◌ (suc n) [] = []
passes ◌⊙◌ (suc n) (a ∷ f) = a ∷ passes ◌⊙◌ n (behind ◌⊙◌ a f)
