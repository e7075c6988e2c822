-- Where a mark is found, and what stands before it.
use mathlib.Core.Path.{◌≡◌, refl, sym, ◌∙◌}
use mathlib.Core.Bool.{Bool, true, false, cond, not}
use mathlib.Core.List.{List, [], ◌∷◌}
use Prim.Native.Nat.{ℕ, ◌+◌, ◌≤◌, ◌<◌}
use native.Mathlib.Omega.{arith}
use lib.Dec.{eqb}
use lib.ListN.{length}
use Rattle.std.specs.Prelude.{Some, None}
use Rattle.std.specs.List.{position, position_or_len}
use Rattle.std.proofs.lemmas.Grind.{common_steps}
use Rattle.table.specs.Parts.{before}

place_before : (b : ℕ) (s : List ℕ) → position_or_len (λ c. eqb c b) s ≡ length (before b s)
unfolding before
place_before b [] = refl
place_before b (c ∷ s) = go (eqb c b) (place_before b s)
  where
    go : (t : Bool) → position_or_len (λ x. eqb x b) s ≡ length (before b s)
        → cond (not t) (1 + position_or_len (λ x. eqb x b) s) 0 ≡ length (cond t [] (c ∷ before b s))
    go true e = refl
    go false e = omega (arith, e)

pub place_some : (b : ℕ) (s : List ℕ) (i : ℕ) → position (λ c. eqb c b) s ≡ Some i → (i ≡ length (before b s)) × (i < length s)
place_some b s i e =
    let at : position_or_len (λ c. eqb c b) s ≡ i = grind (arith, common_steps) in
    let inside : i < length s = grind (arith, common_steps) in (sym at ∙ place_before b s, inside)

pub place_none : (b : ℕ) (s : List ℕ) → position (λ c. eqb c b) s ≡ None → length s ≤ length (before b s)
place_none b s e =
    let all : length s ≤ position_or_len (λ c. eqb c b) s = grind (arith, common_steps) in omega (arith, all, place_before b s)
