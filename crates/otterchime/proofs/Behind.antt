-- A word stored behind a part of lent words: what a shift's answer is laid out by.
use Rattle.std.proofs.Common.{◌≡◌, ℕ, zero, suc, refl, sym, List, [], ◌∷◌, length, drop}
use native.Mathlib.Nat.{suc_inj, suc-ne-zero}
use lib.ListN.{set}

pub last_stored : (n : ℕ) (l : List ℕ) (x : ℕ) → length l ≡ suc n → drop n (set l n x) ≡ x ∷ []
last_stored n [] x e = absurd (suc-ne-zero n (sym e))
last_stored zero (a ∷ []) x e = refl
last_stored zero (a ∷ b ∷ l) x e = absurd (suc-ne-zero (length l) (suc_inj e))
last_stored (suc n) (a ∷ l) x e = last_stored n l x (suc_inj e)
