-- Chains of recurrences, sum and product chains alike: a chain of length k is the list of its elements f0..fk.
-- The operation ⊙ and its unit are parameters, as in document 000: + and 0 for a sum chain, * and 1 for a product chain.
-- Elements are whole numbers here; `words` takes them modulo 2^w.
use Rattle.std.specs.Prelude.{cond, List, [], ◌∷◌, map, ℕ, zero, suc, ◌%◌, ◌^◌, eqb}

-- "the value f0 at the present point". Where no element is left, the unit stands in.
abbrev pub value : ℕ → List ℕ → ℕ
value unit [] = unit
value unit (a ∷ f) = a

-- The chain without its first element.
abbrev pub rest : List ℕ → List ℕ
rest [] = []
rest (a ∷ f) = f

-- "One shift replaces each fj, j < k, by fj + f(j+1), old values on the right, and keeps fk. A product chain does the same with *."
unfoldable pub shift : (ℕ → ℕ → ℕ) → List ℕ → List ℕ
shift ◌⊙◌ [] = []
shift ◌⊙◌ (a ∷ []) = a ∷ []
shift ◌⊙◌ (a ∷ b ∷ f) = (◌⊙◌ a b) ∷ shift ◌⊙◌ (b ∷ f)

-- Document 000's shifts that go from the top down: "the subchain Φ1 has to be shifted before its value is used". The rest goes first, and the first element meets
-- its neighbour's new value. `meeting ◌⊙◌ a g` puts a, ⊙ the value of g, before g.
unfoldable pub meeting : (ℕ → ℕ → ℕ) → ℕ → List ℕ → List ℕ
meeting ◌⊙◌ a [] = a ∷ []
meeting ◌⊙◌ a (b ∷ g) = (◌⊙◌ a b) ∷ b ∷ g

unfoldable pub shift_from_top : (ℕ → ℕ → ℕ) → List ℕ → List ℕ
shift_from_top ◌⊙◌ [] = []
shift_from_top ◌⊙◌ (a ∷ f) = meeting ◌⊙◌ a (shift_from_top ◌⊙◌ f)

-- The chain after i shifts, and its value then: its value at index i.
unfoldable pub shifted : (ℕ → ℕ → ℕ) → ℕ → List ℕ → List ℕ
shifted ◌⊙◌ zero f = f
shifted ◌⊙◌ (suc i) f = shifted ◌⊙◌ i (shift ◌⊙◌ f)

unfoldable pub value_at : (ℕ → ℕ → ℕ) → ℕ → List ℕ → ℕ → ℕ
value_at ◌⊙◌ unit f i = value unit (shifted ◌⊙◌ i f)

-- "All values are words modulo 2^64": each element taken modulo 2^w.
abbrev pub words : ℕ → List ℕ → List ℕ
words w f = map (λ a. a % 2 ^ w) f

-- "element by element, the shorter one filled with zeros", or "filled with ones".
unfoldable pub joined : (ℕ → ℕ → ℕ) → ℕ → List ℕ → List ℕ → List ℕ
joined ◌⊙◌ unit [] g = map (λ b. ◌⊙◌ unit b) g
joined ◌⊙◌ unit (a ∷ f) g = (◌⊙◌ a (value unit g)) ∷ joined ◌⊙◌ unit f (rest g)

-- "a sum chain drops trailing zeros, a product chain trailing ones; at length 0 it is a constant": the first element always stays.
unfoldable pub with_last : ℕ → ℕ → List ℕ → List ℕ
with_last unit a [] = cond (eqb a unit) [] (a ∷ [])
with_last unit a (b ∷ f) = a ∷ b ∷ f

unfoldable pub without_trailing : ℕ → List ℕ → List ℕ
without_trailing unit [] = []
without_trailing unit (a ∷ f) = with_last unit a (without_trailing unit f)

unfoldable pub trimmed : ℕ → List ℕ → List ℕ
trimmed unit f = value unit f ∷ without_trailing unit (rest f)

-- The first n elements, 0 past the last one: what an array of n words holds of a chain.
unfoldable pub row : ℕ → List ℕ → List ℕ
row zero f = []
row (suc n) f = value 0 f ∷ row n (rest f)
