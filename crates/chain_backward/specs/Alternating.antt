-- Chains with alternating signs: element j times -1 to the j, where 2^w - 1 stands for -1. Backward chains themselves are in `chain`.
use Rattle.std.specs.Prelude.{ℕ, ◌-◌, ◌*◌, ◌^◌, List, [], ◌∷◌}

-- With the sign that the first element has.
unfoldable pub alternated_from : ℕ → ℕ → List ℕ → List ℕ
alternated_from w sign [] = []
alternated_from w sign (a ∷ f) = (sign * a) ∷ alternated_from w ((2 ^ w - 1) * sign) f

abbrev pub alternated : ℕ → List ℕ → List ℕ
alternated w f = alternated_from w 1 f
