-- Lists of digits behind one another, and the number that they mean together.
use mathlib.Core.Path.{◌≡◌, refl}
use mathlib.Core.List.{List, [], ◌∷◌, ◌++◌}
use Prim.Native.Nat.{ℕ, ◌+◌, ◌-◌, ◌*◌}
use Rattle.formula.specs.Bytes.{digits_from}
use Rattle.formula.specs.Grammar.{Digits, no_digit, digit}

pub digits-both : {s t : List ℕ} → Digits s → Digits t → Digits (s ++ t)
digits-both no_digit h = h
digits-both (digit d more) h = digit d (digits-both more h)

-- The value of digits goes on from the value of those before them.
pub value-both : (v : ℕ) (s t : List ℕ) → digits_from v (s ++ t) ≡ digits_from (digits_from v s) t
unfolding digits_from
value-both v [] t = refl
value-both v (d ∷ s) t = value-both (10 * v + (d - 48)) s t
