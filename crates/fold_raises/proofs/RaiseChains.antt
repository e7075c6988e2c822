-- A constant to a chain of 17 words: what it trims to.
use mathlib.Core.Path.{◌≡◌, refl, sym, ap, ap₂, ◌∙◌}
use mathlib.Core.List.{List, ◌∷◌, map}
use Prim.Native.Nat.{ℕ, zero, suc, ◌^◌, ◌≤◌}
use native.Mathlib.Nat.{pow-zero}
use lib.ListN.{length}
use Rattle.chain.specs.Chain.{rest, words, row}
use Rattle.chain.specs.ProductChain.{trimmed_product, raised}
use Rattle.chain.proofs.Values.{value-map, rest-map}
use Rattle.fold_rows.specs.Standing.{filled_with_ones}
use Rattle.fold_operands.proofs.OnesTrimmed.{short-map, words-trimmed}

-- "C by S becomes a product chain with elements C^fj": the zeros past the length give ones
map_row : (h : ℕ → ℕ) → h 0 ≡ 1 → (n : ℕ) (f : List ℕ) → map h (row n f) ≡ filled_with_ones n (map h f)
unfolding filled_with_ones row
map_row h e zero f = refl
map_row h e (suc n) f =
    ap₂ {B = List ℕ} {C = List ℕ} ◌∷◌ (sym (value-map h 0 1 e f)) (map_row h e n (rest f) ∙ ap (filled_with_ones n) (sym (rest-map h f)))

pub raise-trimmed : (c : ℕ) (f : List ℕ) → length f ≤ 17
    → trimmed_product (words 64 (raised c (row 17 f))) ≡ trimmed_product (words 64 (raised c f))
raise-trimmed c f short =
    words-trimmed (raised c f) (short-map (λ a. c ^ a) f short) (map_row (λ a. c ^ a) (pow-zero c) 17 f)
