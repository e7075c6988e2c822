-- A formula's tree. Each node knows the span of the text that means it; numbers know the place of their first digit, powers the place of their ^, and
-- a literal exponent stands right after it.
use Rattle.std.specs.Prelude.{Bool, true, false, ◌||◌, ℕ, ◌+◌}

-- "first byte and end byte (the byte after the last) of the text": document 02, request Five.
pub data Span : Type 0 where
  span : (first end : ℕ) → Span

abbrev pub first : Span → ℕ
first (span f e) = f

abbrev pub end : Span → ℕ
end (span f e) = e

pub data Tree : Type 0 where
  number : Span → (place value : ℕ) → Tree
  variable : Span → Tree
  sum : Span → Tree → Tree → Tree
  difference : Span → Tree → Tree → Tree
  product : Span → Tree → Tree → Tree
  minus : Span → Tree → Tree
  literal_power : Span → Tree → (place n : ℕ) → Tree
  raise : Span → Tree → (place : ℕ) → Tree → Tree

abbrev pub span_of : Tree → Span
span_of (number s p v) = s
span_of (variable s) = s
span_of (sum s a b) = s
span_of (difference s a b) = s
span_of (product s a b) = s
span_of (minus s a) = s
span_of (literal_power s a p n) = s
span_of (raise s a p b) = s

-- "Nodes: each number that is not a literal exponent, each x, and each + - * ^ and leading minus count one."
unfoldable pub nodes : Tree → ℕ
nodes (number s p v) = 1
nodes (variable s) = 1
nodes (sum s a b) = nodes a + nodes b + 1
nodes (difference s a b) = nodes a + nodes b + 1
nodes (product s a b) = nodes a + nodes b + 1
nodes (minus s a) = nodes a + 1
nodes (literal_power s a p n) = nodes a + 1
nodes (raise s a p b) = nodes a + nodes b + 1

-- Whether x stands anywhere in the tree.
unfoldable pub holds_x : Tree → Bool
holds_x (number s p v) = false
holds_x (variable s) = true
holds_x (sum s a b) = holds_x a || holds_x b
holds_x (difference s a b) = holds_x a || holds_x b
holds_x (product s a b) = holds_x a || holds_x b
holds_x (minus s a) = holds_x a
holds_x (literal_power s a p n) = holds_x a
holds_x (raise s a p b) = holds_x a || holds_x b
