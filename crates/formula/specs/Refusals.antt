-- Which refusal a text gets, by 01's table: every fault of the text, and the first number that applies, leftmost.
-- None of it mentions a grid. The width w sets the largest number, 2^w - 1; the box has w = 64.
use Rattle.std.specs.Prelude.{◌≡◌, true, cond, ◌⊎◌, List, [], ◌∷◌, ◌++◌, ℕ, suc, ◌+◌, ◌%◌, ◌^◌, ◌≤◌, ◌<◌, eqb, length, get_or, take, drop}
use Rattle.formula.specs.Answer.{ReadAnswer}
use Rattle.formula.specs.Bytes.{open_bracket, close_bracket}
use Rattle.formula.specs.Tree.{Span, Tree, number, sum, difference, product, minus, literal_power, raise, nodes, holds_x}
use Rattle.formula.specs.Grammar.{Formula}
use Rattle.formula.specs.Value.{value_for}
use Rattle.formula.specs.Words.{tree_words, tree_length, most_nodes}

-- How often a byte stands in a text.
unfoldable pub count : ℕ → List ℕ → ℕ
count b [] = 0
count b (c ∷ s) = cond (eqb c b) (suc (count b s)) (count b s)

-- "more than 32 round brackets open in some prefix, closed ones subtracted": the ( at place p ends such a prefix.
pub record TooDeep (s : List ℕ) (p : ℕ) : Type 0 where
  pub inside : p < length s
  pub opens : get_or s p 0 ≡ open_bracket
  pub deep : 32 + count close_bracket (take (p + 1) s) < count open_bracket (take (p + 1) s)

-- Some grammar text begins with s.
abbrev pub Begins : List ℕ → Type 0
Begins s = (r : List ℕ) × (t : Tree) × Formula (s ++ r) t

-- "not in the grammar: first byte after which no grammar text can begin so; the length if the text only stops early".
pub record StopsAt (s : List ℕ) (p : ℕ) : Type 0 where
  pub outside : (t : Tree) → Formula s t → ⊥
  pub within : p ≤ length s
  pub before : Begins (take p s)
  pub after : p < length s → Begins (take (p + 1) s) → ⊥

-- `Part u t`: the tree u is t or stands in it.
pub data Part : Tree → Tree → Type 0 where
  itself : {t : Tree} → Part t t
  sum_left : {s : Span} {u a b : Tree} → Part u a → Part u (sum s a b)
  sum-right : {s : Span} {u a b : Tree} → Part u b → Part u (sum s a b)
  difference-left : {s : Span} {u a b : Tree} → Part u a → Part u (difference s a b)
  difference-right : {s : Span} {u a b : Tree} → Part u b → Part u (difference s a b)
  product-left : {s : Span} {u a b : Tree} → Part u a → Part u (product s a b)
  product-right : {s : Span} {u a b : Tree} → Part u b → Part u (product s a b)
  under-minus : {s : Span} {u a : Tree} → Part u a → Part u (minus s a)
  under-power : {s : Span} {u a : Tree} {p n : ℕ} → Part u a → Part u (literal_power s a p n)
  in_base : {s : Span} {u a b : Tree} {p : ℕ} → Part u a → Part u (raise s a p b)
  in_exponent : {s : Span} {u a b : Tree} {p : ℕ} → Part u b → Part u (raise s a p b)

-- `Fault w s n p`: the refusal number n applies to the text s at place p. A line of 01's table each; a literal exponent's first digit
-- stands right after its ^, and is a number too.
pub data Fault (w : ℕ) (s : List ℕ) : ℕ → ℕ → Type 0 where
  too_long : 1024 < length s → Fault w s 2 1024
  too_deep : {p : ℕ} → TooDeep s p → Fault w s 3 p
  not-grammar : {p : ℕ} → StopsAt s p → Fault w s 4 p
  number-over : {k : Span} {t : Tree} {p v : ℕ} → Formula s t → Part (number k p v) t → 2 ^ w ≤ v → Fault w s 5 p
  exponent-number-over : {k : Span} {t a : Tree} {p n : ℕ} → Formula s t → Part (literal_power k a p n) t → 2 ^ w ≤ n → Fault w s 5 (suc p)
  exponent-over : {k : Span} {t a : Tree} {p n : ℕ} → Formula s t → Part (literal_power k a p n) t → 64 < n → Fault w s 6 (suc p)
  too_many : {t : Tree} → Formula s t → most_nodes < nodes t → Fault w s 7 0
  x_in_base : {k : Span} {t a b : Tree} {p : ℕ} → Formula s t → Part (raise k a p b) t → holds_x a ≡ true → Fault w s 8 p
  -- With no x in the base, any number may stand for x in its value.
  even_base : {k : Span} {t a b : Tree} {p : ℕ} → Formula s t → Part (raise k a p b) t → value_for w 0 a % 2 ≡ 0 → Fault w s 8 p

-- "Refusals 2 to 8 take the first number that applies", and then the leftmost place.
pub record Refused (w : ℕ) (s : List ℕ) (n p : ℕ) : Type 0 where
  pub applies : Fault w s n p
  pub first : (m q : ℕ) → Fault w s m q → (n < m) ⊎ ((n ≡ m) × (p ≤ q))

pub record Accepted (w : ℕ) (s : List ℕ) (t : Tree) : Type 0 where
  pub means : Formula s t
  pub faultless : (n p : ℕ) → Fault w s n p → ⊥

-- What reading a text into a lent tree answers, and what the lent words are afterwards. The call is document 02's, its request Eight, in whose
-- words "1, a lent tree under 257 words", "for reading then 2 to 8", "What lies past the 257 words or past the text stays"; 01 has "a refusal alters
-- no lent word".
pub data Reading (w : ℕ) (s lent : List ℕ) : ReadAnswer → List ℕ → Type 0 where
  too_short : length lent < tree_length → Reading w s lent (record { number = 1; place = 0 }) lent
  refused : {n p : ℕ} → tree_length ≤ length lent → Refused w s n p → Reading w s lent (record { number = n; place = p }) lent
  accepted : {t : Tree} → tree_length ≤ length lent → Accepted w s t → Reading w s lent (record { number = 0; place = 0 }) (tree_words t ++ drop tree_length lent)
