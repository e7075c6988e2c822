-- The words of a tree: "the node count, then two words a node in postfix order, left operand first", in 257 words. What is quoted here is
-- document 02's, its request Eight, which has a call read a text into a lent tree; 01 has the nodes and their limit.
use Rattle.std.specs.Prelude.{◌≡◌, Result, MatchResult, List, [], ◌∷◌, ◌++◌, ℕ, ◌+◌, ◌-◌, ◌*◌, ◌<◌, length, replicate}
use Rattle.formula.specs.declared.UnknownKind.{UnknownKind}
use Rattle.formula.specs.declared.NodeKind.{NodeKind}
use Rattle.formula.specs.declared.NodeKind.TheVariants.{Number, Variable, Sum, Difference, Product, Minus, LiteralPower, Raise}
use Rattle.formula.specs.Tree.{Tree, number, variable, sum, difference, product, minus, literal_power, raise, nodes}

-- 01's 128 nodes at most, "two words a node", behind the node count: "a lent tree of 257 words".
abbrev pub most_nodes : ℕ
most_nodes = 128

abbrev pub nodes_length : ℕ
nodes_length = 2 * most_nodes

abbrev pub tree_length : ℕ
tree_length = 1 + nodes_length

-- "kind (0 number, 1 x, 3 to 8 as in 01) and a word (the number's value, a literal power's n from 0 to 64, otherwise 0)".
unfoldable pub node_words : Tree → List ℕ
node_words (number s p v) = 0 ∷ v ∷ []
node_words (variable s) = 1 ∷ 0 ∷ []
node_words (sum s a b) = node_words a ++ node_words b ++ 3 ∷ 0 ∷ []
node_words (difference s a b) = node_words a ++ node_words b ++ 4 ∷ 0 ∷ []
node_words (product s a b) = node_words a ++ node_words b ++ 5 ∷ 0 ∷ []
node_words (minus s a) = node_words a ++ 6 ∷ 0 ∷ []
node_words (literal_power s a p n) = node_words a ++ 7 ∷ n ∷ []
node_words (raise s a p b) = node_words a ++ node_words b ++ 8 ∷ 0 ∷ []

-- "The rest of the 257 words are 0."
abbrev pub tree_words : Tree → List ℕ
tree_words t = nodes t ∷ node_words t ++ replicate (nodes_length - length (node_words t)) 0

-- A kind's number, and what a number is read as: the kind of that number; 2 and from 9 on there is none.
abbrev pub kind_number : NodeKind → ℕ
kind_number Number = 0
kind_number Variable = 1
kind_number Sum = 3
kind_number Difference = 4
kind_number Product = 5
kind_number Minus = 6
kind_number LiteralPower = 7
kind_number Raise = 8

abbrev pub KindOf : ℕ → Result NodeKind UnknownKind → Type 0
KindOf n r = MatchResult r (λ kind. kind_number kind ≡ n) (λ unknown. (unknown.0 ≡ n) × (n < 9 → n ≡ 2))
