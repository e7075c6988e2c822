-- Sum chains: value, shift and inverse shift, sum, difference, scaling, product and power, by document 000's rules.
-- Product chains are in ProductChain.antt; the answers of the public calls in Answer.antt.
use Rattle.std.specs.Prelude.{List, [], ◌∷◌, map, ℕ, zero, suc, ◌+◌, ◌*◌}
use Rattle.word.specs.Word as Word
use Rattle.chain.specs.Chain as Chain

-- The value of a sum chain after i shifts.
abbrev pub sum_at : List ℕ → ℕ → ℕ
sum_at f i = Chain.value_at ◌+◌ 0 f i

abbrev pub sum_shift : List ℕ → List ℕ
sum_shift f = Chain.shift ◌+◌ f

-- Document 000's inverse shift: a constant stays, and {φ0, +, Φ1} becomes "{φ0 - V(E^-1(Φ1)), +, E^-1(Φ1)}": the rest is unshifted
-- first, then its value is subtracted.
abbrev pub inverse_shift : ℕ → List ℕ → List ℕ
inverse_shift w f = Chain.shift_from_top (Word.difference w) f

-- "C+S, S+C, S+S, and the same under -: element by element, the shorter one filled with zeros, C standing as f0."
abbrev pub sum : List ℕ → List ℕ → List ℕ
sum f g = Chain.joined ◌+◌ 0 f g

-- A difference of words is a word, so the width enters here.
abbrev pub difference : ℕ → List ℕ → List ℕ → List ℕ
difference w f g = Chain.joined (Word.difference w) 0 f g

-- "C*S and S*C: every element."
abbrev pub scaled : ℕ → List ℕ → List ℕ
scaled c f = map (λ a. c * a) f

-- "document 000's rule, f*g = (f0*g0, then the chain of f*g1 + f1*(shifted g)), where f1 and g1 are the chains without their
-- first element." For f = (a, f1), `times step a below g` is f*g, and `below` multiplies by f1. How g is shifted is a parameter: by E here, and by E^-1 for
-- the backward chains of BackwardChain.antt.
unfoldable pub times : (List ℕ → List ℕ) → ℕ → (List ℕ → List ℕ) → List ℕ → List ℕ
times step a below [] = []
times step a below (b ∷ g) = (a * b) ∷ sum (times step a below g) (below (step (b ∷ g)))

unfoldable pub product_by : (List ℕ → List ℕ) → List ℕ → List ℕ → List ℕ
product_by step [] g = []
product_by step (a ∷ f) g = times step a (product_by step f) g

abbrev pub product : List ℕ → List ℕ → List ℕ
product f g = product_by sum_shift f g

-- "S^n": the n-fold product; n = 0 gives 1.
unfoldable pub power : List ℕ → ℕ → List ℕ
power f zero = 1 ∷ []
power f (suc n) = product (power f n) f
