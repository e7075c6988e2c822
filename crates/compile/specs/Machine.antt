-- A tree's nodes folded one after the other: trees that are finished stand folded in the plan, one behind the other, the last on top.
use Rattle.std.specs.Prelude.{◌≡◌, cond, List, [], ◌∷◌, ℕ, ◌+◌, ◌-◌, ◌*◌, ◌^◌, ◌≤◌, ◌<◌, eqb, get_or, take, drop}
use Rattle.plan.specs.Measures.{plan_length, row_length, row_start, most_rows}
use Rattle.formula.specs.Tree.{Span, span, Tree, span_of, nodes}
use Rattle.formula.specs.Refusals.{Part}
use Rattle.formula.specs.Words.{most_nodes}
use Rattle.formula_scan.specs.Readers.{spanned_tree, spanned_words}
use Rattle.fold.specs.Folded.{Spans, Folded}
use Rattle.fold.specs.Folding.{fold, fold_sum, fold_difference, fold_product, fold_raise}
use Rattle.fold.specs.Layout.{row_count, rows_from, words_of}
use Rattle.fold.proofs.Shape.{WellFormed}
use Rattle.fold_operands.specs.Operands.{Operand, One, Left}

-- The tree stands in the last words of the plan's own, its nodes behind the node count.
abbrev pub tree_start : ℕ
tree_start = plan_length - spanned_tree

abbrev pub nodes_start : ℕ
nodes_start = tree_start + 1

-- `Finishes done words t`: with the trees `done` finished, the last one first, the node words left make the tree t. "in postfix order, left operand
-- first": four words a node, kind and word, and the first byte and end byte of its text.
pub data Finishes (t : Tree) : List Tree → List ℕ → Type 0 where
  finished : Finishes t (t ∷ []) []
  number : {done : List Tree} {words : List ℕ} {first end : ℕ} (place v : ℕ)
      → Finishes t (Tree.number (span first end) place v ∷ done) words → Finishes t done (0 ∷ v ∷ first ∷ end ∷ words)
  variable : {done : List Tree} {words : List ℕ} {first end : ℕ}
      → Finishes t (Tree.variable (span first end) ∷ done) words → Finishes t done (1 ∷ 0 ∷ first ∷ end ∷ words)
  sum : {a b : Tree} {done : List Tree} {words : List ℕ} {first end : ℕ}
      → Finishes t (Tree.sum (span first end) a b ∷ done) words → Finishes t (b ∷ a ∷ done) (3 ∷ 0 ∷ first ∷ end ∷ words)
  difference : {a b : Tree} {done : List Tree} {words : List ℕ} {first end : ℕ}
      → Finishes t (Tree.difference (span first end) a b ∷ done) words → Finishes t (b ∷ a ∷ done) (4 ∷ 0 ∷ first ∷ end ∷ words)
  product : {a b : Tree} {done : List Tree} {words : List ℕ} {first end : ℕ}
      → Finishes t (Tree.product (span first end) a b ∷ done) words → Finishes t (b ∷ a ∷ done) (5 ∷ 0 ∷ first ∷ end ∷ words)
  minus : {a : Tree} {done : List Tree} {words : List ℕ} {first end : ℕ}
      → Finishes t (Tree.minus (span first end) a ∷ done) words → Finishes t (a ∷ done) (6 ∷ 0 ∷ first ∷ end ∷ words)
  power : {a : Tree} {done : List Tree} {words : List ℕ} {first end : ℕ} (place n : ℕ)
      → Finishes t (Tree.literal_power (span first end) a place n ∷ done) words → Finishes t (a ∷ done) (7 ∷ n ∷ first ∷ end ∷ words)
  raise : {a b : Tree} {done : List Tree} {words : List ℕ} {first end : ℕ} (place : ℕ)
      → Finishes t (Tree.raise (span first end) a place b ∷ done) words → Finishes t (b ∷ a ∷ done) (8 ∷ 0 ∷ first ∷ end ∷ words)

-- The finished trees stand folded in the plan p, each under its own span, one behind the other, the last up to row `end`.
unfoldable pub Stack : ℕ → ℕ → List ℕ → List Tree → ℕ → Type 0
Stack start step p [] end = end ≡ 0
Stack start step p (a ∷ done) end = (first : ℕ) × Operand p first end (span_of a) (fold 64 start step a) × Stack start step p done first

-- Some operand ends before row `end`; r is its first row.
abbrev pub Ends : List ℕ → ℕ → Type 0
Ends p end = (first : ℕ) × One p first end

abbrev pub FirstRow : List ℕ → ℕ → ℕ → Type 0
FirstRow p end r = (first : ℕ) → One p first end → r ≡ first

-- ---- the operators of two operands, by the kind of a node
abbrev pub fold_both : ℕ → Spans → Folded → Folded → Folded
fold_both kind s a b =
    cond (eqb kind 3) (fold_sum 64 s a b)
    (cond (eqb kind 4) (fold_difference 64 s a b)
    (cond (eqb kind 5) (fold_product 64 s a b)
    (fold_raise 64 s a b)))

-- ---- what the machine is at
-- What acceptance gives for a tree: every part folds to something that fits a plan, its numbers are words, its literal exponents at most 64.
pub record Compilable (start step : ℕ) (t : Tree) : Type 0 where
  pub formed : (u : Tree) → Part u t → WellFormed 64 (fold 64 start step u)
  pub numbers : (s : Span) (place v : ℕ) → Part (Tree.number s place v) t → v < 2 ^ 64
  pub exponents : (s : Span) (a : Tree) (place n : ℕ) → Part (Tree.literal_power s a place n) t → n ≤ 64
  pub few : nodes t ≤ most_nodes

-- Some trees are finished and stand in the plan, and the node words left make t of them.
pub record Working (t : Tree) (start step : ℕ) (p : List ℕ) (end : ℕ) (words : List ℕ) : Type 0 where
  pub done : List Tree
  pub stands : Stack start step p done end
  pub finishes : Finishes t done words

-- The node of this kind and word comes next, on the way to some tree.
abbrev pub AtNode : ℕ → ℕ → List ℕ → ℕ → ℕ → ℕ → Type 0
AtNode start step p end kind word =
    (t : Tree) × (words : List ℕ) × (first_byte : ℕ) × (end_byte : ℕ)
    × Compilable start step t × Working t start step p end (kind ∷ word ∷ first_byte ∷ end_byte ∷ words)

-- The tree of a node that spans `whole` is left, up to row r of the plan q, behind the trees that stay in p; it stands under some span as yet.
pub record Grown (t : Tree) (start step : ℕ) (p : List ℕ) (end : ℕ) (whole : Span) (words : List ℕ) (q : List ℕ) (r : ℕ) : Type 0 where
  pub done : List Tree
  pub tree : Tree
  pub first : ℕ
  pub own : span_of tree ≡ whole
  pub stays : Stack start step p done first
  pub finishes : Finishes t (tree ∷ done) words
  pub left : Left p first (fold 64 start step tree) r q
  pub most : r ≤ end + 1
  pub few : end < most_rows

-- A step that folds the node, whichever tree it is on the way to.
abbrev pub FoldsNode : ℕ → ℕ → List ℕ → ℕ → ℕ → ℕ → List ℕ → ℕ → Type 0
FoldsNode start step p end kind word q r =
    (t : Tree) (words : List ℕ) (first_byte end_byte : ℕ) → Compilable start step t
    → Working t start step p end (kind ∷ word ∷ first_byte ∷ end_byte ∷ words) → Grown t start step p end (span first_byte end_byte) words q r

-- The four words of the node at a place of the plan, before those of the nodes behind it.
abbrev pub node_at : List ℕ → ℕ → List ℕ → List ℕ
node_at p at words = get_or p at 0 ∷ get_or p (at + 1) 0 ∷ get_or p (at + 2) 0 ∷ get_or p (at + 3) 0 ∷ words

-- The node at this place comes next; and a step that folds it and puts its span on it.
abbrev pub AtPlace : ℕ → ℕ → List ℕ → ℕ → ℕ → Type 0
AtPlace start step p end at = (t : Tree) × (words : List ℕ) × Compilable start step t × Working t start step p end (node_at p at words)

abbrev pub FoldsPlace : ℕ → ℕ → List ℕ → ℕ → ℕ → List ℕ → ℕ → Type 0
FoldsPlace start step p end at q r =
    (t : Tree) (words : List ℕ) → Compilable start step t → Working t start step p end (node_at p at words)
    → Working t start step q r words × ((i : ℕ) → row_start (end + 1) ≤ i → drop i q ≡ drop i p)

-- ---- the tree's words at the end of the plan, and the folded tree at its beginning
abbrev pub Written : List ℕ → Tree → Type 0
Written p t = take spanned_tree (drop tree_start p) ≡ spanned_words t

pub record FoldedAt (start step : ℕ) (p : List ℕ) (t : Tree) (q : List ℕ) (end : ℕ) : Type 0 where
  pub rows : end ≡ row_count (fold 64 start step t)
  pub few : end ≤ most_rows
  pub stands : take (row_length * end) (drop 1 q) ≡ words_of (rows_from 0 (span_of t) (fold 64 start step t))
  pub behind : drop plan_length q ≡ drop plan_length p
