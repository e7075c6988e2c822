-- The operations on two words, on two arrays word by word, and from word to word of a chain that is shifted. Chains and their rules are in `chain`.
use Rattle.std.specs.Prelude.{ℕ, ◌+◌, ◌-◌, ◌*◌, ◌%◌, ◌^◌, List, [], ◌∷◌}
use Rattle.chain.specs.Chain.{words, shift}

-- The four operations.
pub data Operation : Type 0 where
  Sum : Operation
  Difference : Operation
  Product : Operation
  Power : Operation

-- What each operation makes of two words, before it is taken modulo 2^64.
abbrev pub joining : Operation → ℕ → ℕ → ℕ
joining Sum a b = a + b
joining Difference a b = a + (2 ^ 64 - b % 2 ^ 64)
joining Product a b = a * b
joining Power a b = a ^ b

-- What each operation works out of two words: "All values are words modulo 2^64."
abbrev pub worked : Operation → ℕ → ℕ → ℕ
worked operation a b = joining operation a b % 2 ^ 64

-- "element by element", as far as both lists go: the arrays have 17 words each.
unfoldable pub paired : (ℕ → ℕ → ℕ) → List ℕ → List ℕ → List ℕ
paired ◌⊙◌ [] g = []
paired ◌⊙◌ (a ∷ f) [] = []
paired ◌⊙◌ (a ∷ f) (b ∷ g) = (◌⊙◌ a b) ∷ paired ◌⊙◌ f g

abbrev pub word_by_word : Operation → List ℕ → List ℕ → List ℕ
word_by_word operation f g = paired (worked operation) f g

-- "One shift replaces each fj, j < k, by fj + f(j+1), old values on the right, and keeps fk. A product chain does the same with *."
abbrev pub shifted_by : Operation → List ℕ → List ℕ
shifted_by operation f = words 64 (shift (joining operation) f)
