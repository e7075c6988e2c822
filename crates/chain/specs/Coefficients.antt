-- Coefficient lists: the sum chain of a polynomial in the index, and the numbers that its table holds.
use Rattle.std.specs.Prelude.{List, [], ◌∷◌, ℕ, zero, suc, ◌+◌, ◌*◌, ◌^◌}

-- Stirling numbers of the second kind.
unfoldable pub stirling : ℕ → ℕ → ℕ
stirling zero zero = 1
stirling zero (suc m) = 0
stirling (suc j) zero = 0
stirling (suc j) (suc m) = suc m * stirling j (suc m) + stirling j m

unfoldable pub factorial : ℕ → ℕ
factorial zero = 1
factorial (suc m) = suc m * factorial m

-- "It stands on a table of 289 numbers", m! * S(j,m): in how many ways j things map onto m.
unfoldable pub onto : ℕ → ℕ → ℕ
onto j m = factorial m * stirling j m

-- The polynomial a0 + a1 * i + .. + ad * i^d: with the power that the first coefficient stands at.
unfoldable pub polynomial_from : ℕ → List ℕ → ℕ → ℕ
polynomial_from j [] i = 0
polynomial_from j (a ∷ later) i = a * i ^ j + polynomial_from (suc j) later i

abbrev pub polynomial : List ℕ → ℕ → ℕ
polynomial a i = polynomial_from 0 a i

-- "element m is the sum over j of aj * m! * S(j,m)": with the j that the first coefficient stands at.
unfoldable pub element_from : ℕ → List ℕ → ℕ → ℕ
element_from j [] m = 0
element_from j (a ∷ later) m = a * onto j m + element_from (suc j) later m

-- F m, F (m + 1), ..: n numbers.
unfoldable pub tabulated : (ℕ → ℕ) → ℕ → ℕ → List ℕ
tabulated F m zero = []
tabulated F m (suc n) = F m ∷ tabulated F (suc m) n

-- "A coefficient list a0..ad in the index i, up to 17 words, becomes a sum chain", with "j and m from 0 to 16".
abbrev pub from_coefficients : List ℕ → List ℕ
from_coefficients a = tabulated (element_from 0 a) 0 17
