-- What the statements of proofs/Demands.antt say of an answer: the refused chain, the limits of a text, and the values of an accepted chain.
use Rattle.std.specs.Prelude.{◌≡◌, false, List, ℕ, ◌+◌, ◌%◌, ◌^◌, ◌≤◌, ◌<◌, length, get_or, take, replicate}
use Rattle.formula.specs.Words.{most_nodes}
use Rattle.word.specs.Word as Word
use Rattle.formula.specs.Tree.{Span, Tree, number, literal_power, raise, nodes, holds_x}
use Rattle.formula.specs.Grammar.{Formula}
use Rattle.formula.specs.Value.{value_for}
use Rattle.formula.specs.Refusals.{TooDeep, Part}
use Rattle.chain.specs.Answer.{ChainAnswer}
use Rattle.chain.specs.SumChain.{sum_at}

-- "Refused chain calls (13 to 15) return the constant 0 beside the number", place 0.
abbrev pub no_chain : ℕ → ChainAnswer
no_chain n = record { number = n; place = 0; length = 0; elements = replicate 17 0 }

-- "01's grammar and limits": the text means a tree, and keeps every limit of 2, 3 and 5 to 8.
pub record Allowed (s : List ℕ) (t : Tree) : Type 0 where
  pub grammar : Formula s t
  pub bytes : length s ≤ 1024
  pub brackets : (p : ℕ) → TooDeep s p → ⊥
  pub numbers : (k : Span) (p v : ℕ) → Part (number k p v) t → v < 2 ^ 64
  pub exponents : (k : Span) (a : Tree) (p n : ℕ) → Part (literal_power k a p n) t → n ≤ 64
  pub size : nodes t ≤ most_nodes
  pub bases : (k : Span) (a b : Tree) (p : ℕ) → Part (raise k a p b) t → (holds_x a ≡ false) × (value_for 64 0 a % 2 ≡ 1)

-- The value at index i of a chain that is given as words and a length: words past the length are not read.
abbrev pub value_of : List ℕ → ℕ → ℕ → ℕ
value_of f k i = Word.word 64 (sum_at (take (k + 1) f) i)

-- The call is accepted, its chain is trimmed with 0 past its length, and has these values, at every index.
pub record Answers (r : ChainAnswer) (values : ℕ → ℕ) : Type 0 where
  pub number : r.number ≡ 0
  pub place : r.place ≡ 0
  pub short : r.length ≤ 16
  pub last : 0 < r.length → get_or r.elements r.length 0 ≡ 0 → ⊥
  pub past : (j : ℕ) → r.length < j → get_or r.elements j 0 ≡ 0
  pub right : (i : ℕ) → value_of r.elements r.length i ≡ values i
