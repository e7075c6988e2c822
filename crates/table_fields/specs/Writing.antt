-- Bytes written one behind the other into a lent buffer.
use Rattle.std.specs.Prelude.{◌≡◌, List, ◌++◌, ℕ, ◌+◌, length, take, drop}

-- `Wrote l at s r l'`: the bytes s stand in the buffer from place `at` on, every other byte is as it was, and the next place is r.
pub record Wrote (l : List ℕ) (at : ℕ) (s : List ℕ) (r : ℕ) (l' : List ℕ) : Type 0 where
  pub bytes : l' ≡ take at l ++ (s ++ drop (at + length s) l)
  pub next : r ≡ at + length s
