-- Marks: the bytes of a text with their places.
use Rattle.std.specs.Prelude.{List, [], ◌∷◌, ℕ, suc}

pub data Mark : Type 0 where
  mark : (place byte : ℕ) → Mark

-- The marks of bytes that stand one after the other, the first at that place.
unfoldable pub marked : ℕ → List ℕ → List Mark
marked at [] = []
marked at (c ∷ s) = mark at c ∷ marked (suc at) s
