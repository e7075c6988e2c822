-- Product chains as 17 words: filled with ones past the length.
use mathlib.Core.Path.{◌≡◌, refl, sym, ap, ap₂, ◌∙◌}
use mathlib.Core.List.{List, [], ◌∷◌, ◌++◌, append-nil}
use Prim.Native.Nat.{ℕ, zero, suc, ◌+◌, ◌-◌, ◌≤◌}
use native.Mathlib.Nat.{not-suc-le-zero, le_of_suc-le-suc, suc-sub-suc, sub-zero}
use native.Mathlib.Omega.{arith}
use lib.ListN.{length, take, drop, replicate, length-drop, drop_of_length-le}
use lib.Seq.{length-take-le}
use Rattle.fold_rows.specs.Standing.{filled_with_ones}

-- Elements and then ones.
ones_behind : (n : ℕ) (f : List ℕ) → length f ≤ n → f ++ replicate (n - length f) 1 ≡ filled_with_ones n f
unfolding filled_with_ones
ones_behind zero [] h = refl
ones_behind zero (a ∷ f) h = absurd (not-suc-le-zero h)
ones_behind (suc n) [] h = ap (λ k. replicate k 1) (sub-zero (suc n)) ∙ ap {B =
    List ℕ} (λ g. 1 ∷ g) (ap (λ k. replicate k 1) (sym (sub-zero n)) ∙ ones_behind n [] (omega arith))
ones_behind (suc n) (a ∷ f) h =
    ap {B = List ℕ} (λ k. a ∷ (f ++ replicate k 1)) (suc-sub-suc n (length f)) ∙ ap {B = List ℕ} (λ g. a ∷ g) (ones_behind n f (le_of_suc-le-suc h))

-- What an array holds when the words past `last` are ones.
pub ones_put : (last : ℕ) (e : List ℕ) {new : List ℕ} → last ≤ 16 → length e ≡ 17
    → new ≡ replicate (length (take (17 - (last + 1)) (drop (last + 1) e))) 1
    → take (last + 1) e ++ (new ++ drop (17 - (last + 1)) (drop (last + 1) e)) ≡ filled_with_ones 17 (take (last + 1) e)
ones_put last e h long q =
    ap₂ (λ f g. take (last + 1) e ++ (f ++ g)) (q ∙ ap (λ n. replicate n 1) rest) nothing
    ∙ ap (λ f. take (last + 1) e ++ f) (append-nil (replicate (17 - length (take (last + 1) e)) 1))
    ∙ ones_behind 17 (take (last + 1) e) (omega (arith, count))
  where
    count : length (take (last + 1) e) ≡ last + 1
    count = length-take-le (last + 1) e (omega arith)

    behind : length (drop (last + 1) e) ≡ 17 - (last + 1)
    behind = omega (arith, length-drop (last + 1) e)

    nothing : drop (17 - (last + 1)) (drop (last + 1) e) ≡ []
    nothing = drop_of_length-le (drop (last + 1) e) (omega (arith, behind))

    rest : length (take (17 - (last + 1)) (drop (last + 1) e)) ≡ 17 - length (take (last + 1) e)
    rest = length-take-le (17 - (last + 1)) (drop (last + 1) e) (omega (arith, behind)) ∙ omega (arith, count)
