-- What the readers' own contracts say: how far a reader came, and what it noted of the tree it read. The tree itself is in no word of
-- the reader's state, so each contract says that there is one. Nobody has to believe this page; proofs/ ties it to the others.
use Rattle.std.specs.Prelude.{◌≡◌, Bool, true, false, cond, ◌||◌, Result, Ok, Err, List, [], ◌∷◌, ◌++◌, ℕ, zero, suc, ◌+◌, ◌-◌, ◌*◌, ◌%◌, ◌^◌, ◌≤◌, ◌<◌, min, eqb, leb, ltb, length, get_or, take, drop, replicate}
use Rattle.std.proofs.lemmas.List.Edits.{sets}
use Rattle.formula.specs.Bytes.{star, plus_sign, minus_sign, Digit}
use Rattle.formula.specs.Grammar.{Number}
use Rattle.formula.specs.Words.{most_nodes, nodes_length}
use Rattle.formula_scan.specs.Fields.{Found, Left, Numeral}
use Rattle.formula.specs.Answer.{ReadAnswer}
use Rattle.formula.specs.declared.Refusal.{Refusal}
use Rattle.formula.specs.declared.Refusal.TheVariants.{NumberTooLarge, ExponentTooLarge, TooManyNodes, BaseNotOdd}
use Rattle.formula.specs.Refusals.{TooDeep, Refused, Accepted}
use Rattle.formula.specs.Tree.{Span, span, first, end, Tree, number, variable, sum, difference, product, minus, literal_power, raise, nodes, holds_x}
use Rattle.formula_scan.specs.Scan.{Piece, piece, number_to, literal_to, raise_to, PendingSum, Level, level, no_product, Outer, in_brackets, in_exponent, fresh, State, operand, atomed, after_caret, powered, run, stops}

-- ---- what is noted of a tree
-- A number that fits a word, or the largest word for one that doesn't.
abbrev pub kept : ℕ → ℕ → ℕ
kept w v = min v (2 ^ w - 1)

-- 1 for an odd value and 0 for an even one, where each raise in the tree has an odd base.
unfoldable pub parity : Tree → ℕ
parity (number s p v) = v % 2
parity (variable s) = 0
parity (sum s a b) = (parity a + parity b) % 2
parity (difference s a b) = (parity a + parity b) % 2
parity (product s a b) = parity a * parity b
parity (minus s a) = parity a
parity (literal_power s a p n) = cond (eqb n 0) 1 (parity a)
parity (raise s a p b) = 1

-- A fault as one number, smaller for a smaller refusal number and then for a smaller place, since places are below `fault_places`;
-- `no_fault` is above all of 5 to 8.
abbrev pub fault_places : ℕ
fault_places = 2048

abbrev pub fault_code : ℕ → ℕ → ℕ
fault_code n p = n * fault_places + p

abbrev pub no_fault : ℕ
no_fault = fault_code 9 0

abbrev pub number_fault : ℕ → ℕ → ℕ → ℕ
number_fault w p v = cond (ltb v (2 ^ w)) no_fault (fault_code 5 p)

abbrev pub literal_fault : ℕ → ℕ → ℕ → ℕ
literal_fault w p n = cond (ltb n (2 ^ w)) (cond (leb n 64) no_fault (fault_code 6 (p + 1))) (fault_code 5 (p + 1))

abbrev pub base_fault : Bool → ℕ → ℕ → ℕ
base_fault holds odd p = cond (holds || eqb odd 0) (fault_code 8 p) no_fault

-- The least of f and the faults of a tree.
unfoldable pub faulted : ℕ → Tree → ℕ → ℕ
faulted w (number s p v) f = min f (number_fault w p v)
faulted w (variable s) f = f
faulted w (sum s a b) f = faulted w b (faulted w a f)
faulted w (difference s a b) f = faulted w b (faulted w a f)
faulted w (product s a b) f = faulted w b (faulted w a f)
faulted w (minus s a) f = faulted w a f
faulted w (literal_power s a p n) f = min (faulted w a f) (literal_fault w p n)
faulted w (raise s a p b) f = faulted w b (min (faulted w a f) (base_fault (holds_x a) (parity a) p))

-- The least fault of a tree, refusal 7 for its count of nodes among them; `no_fault` if there is none.
abbrev pub code : ℕ → Tree → ℕ
code w t = min (faulted w t no_fault) (cond (ltb most_nodes (nodes t)) (fault_code 7 0) no_fault)

-- The refusal that a code's number and place stand for, 5 to 8, or none.
abbrev pub noted_refusal : (number place : ℕ) → Result (Unit {0}) Refusal
noted_refusal n p =
    cond (eqb n 5) (Err (NumberTooLarge p))
    (cond (eqb n 6) (Err (ExponentTooLarge p)) (cond (eqb n 7) (Err TooManyNodes) (cond (eqb n 8) (Err (BaseNotOdd p)) (Ok tt))))

-- How a node is laid out, with its kind, its word and its span: not at all, in two words, or in four where the span stands behind.
abbrev pub Layout : Type 0
Layout = ℕ → ℕ → Span → List ℕ

abbrev pub nothing : Layout
nothing kind word s = []

abbrev pub plain : Layout
plain kind word s = kind ∷ word ∷ []

abbrev pub spanned : Layout
spanned kind word s = kind ∷ word ∷ first s ∷ end s ∷ []

-- Lent words are laid out so that each of the most nodes has room: none in less than 256 words, two words in 256, four in 512.
abbrev pub spanned_length : ℕ
spanned_length = 4 * most_nodes

abbrev pub layout_of : List ℕ → Layout
layout_of out = cond (ltb (length out) nodes_length) nothing (cond (ltb (length out) spanned_length) plain spanned)

-- The words of node n, put if it is one of the most nodes.
abbrev pub put_words : List ℕ → ℕ → List ℕ → List ℕ
put_words out n words = cond (ltb n most_nodes) (sets out (length words * n) words) out

abbrev pub put : List ℕ → ℕ → ℕ → ℕ → Span → List ℕ
put out n kind word s = put_words out n (layout_of out kind word s)

-- The nodes of a tree, put from node n on in postfix order.
unfoldable pub wrote : ℕ → Tree → ℕ → List ℕ → List ℕ
wrote w (number s p v) n out = put out n 0 (kept w v) s
wrote w (variable s) n out = put out n 1 0 s
wrote w (sum s a b) n out = put (wrote w b (n + nodes a) (wrote w a n out)) (n + nodes a + nodes b) 3 0 s
wrote w (difference s a b) n out = put (wrote w b (n + nodes a) (wrote w a n out)) (n + nodes a + nodes b) 4 0 s
wrote w (product s a b) n out = put (wrote w b (n + nodes a) (wrote w a n out)) (n + nodes a + nodes b) 5 0 s
wrote w (minus s a) n out = put (wrote w a n out) (n + nodes a) 6 0 s
wrote w (literal_power s a p m) n out = put (wrote w a n out) (n + nodes a) 7 (kept w m) s
wrote w (raise s a p b) n out = put (wrote w b (n + nodes a) (wrote w a n out)) (n + nodes a + nodes b) 8 0 s

-- The words of a tree's nodes in postfix order, laid out.
unfoldable pub laid_out : Layout → Tree → List ℕ
laid_out f (number s p v) = f 0 v s
laid_out f (variable s) = f 1 0 s
laid_out f (sum s a b) = laid_out f a ++ laid_out f b ++ f 3 0 s
laid_out f (difference s a b) = laid_out f a ++ laid_out f b ++ f 4 0 s
laid_out f (product s a b) = laid_out f a ++ laid_out f b ++ f 5 0 s
laid_out f (minus s a) = laid_out f a ++ f 6 0 s
laid_out f (literal_power s a p n) = laid_out f a ++ f 7 n s
laid_out f (raise s a p b) = laid_out f a ++ laid_out f b ++ f 8 0 s

-- A whole tree with spans, in 513 words: the node count, then four words a node, and 0.
abbrev pub spanned_tree : ℕ
spanned_tree = 1 + spanned_length

abbrev pub spanned_words : Tree → List ℕ
spanned_words t = nodes t ∷ laid_out spanned t ++ replicate (spanned_length - length (laid_out spanned t)) 0

-- `count` minus signs, side by side before place q, put from node n on, the last one first; they end where what they stand before ends.
unfoldable pub wrote_minus : (count q end n : ℕ) → List ℕ → List ℕ
wrote_minus zero q e n out = out
wrote_minus (suc count) q e n out = put (wrote_minus count q e n out) (n + count) 6 0 (span (q - suc count) e)

-- What a reader answers: that it stopped at a place, or what it found.
abbrev pub stopping : ℕ → Found
stopping p = record { ok = false; variable = false; odd = 0; at = p; nodes = 0; fault = 0 }

abbrev pub finding : Bool → ℕ → ℕ → ℕ → ℕ → Found
finding x odd p n f = record { ok = true; variable = x; odd = odd; at = p; nodes = n; fault = f }

-- What waits on the left of a sign, from its first byte on.
abbrev pub waiting : ℕ → ℕ → Bool → ℕ → Left
waiting p sign x odd = record { first = p; sign = sign; variable = x; odd = odd }

-- What is found with one node more, and what is found of two operands, one after the other: whether x stands in the left one, the right one, and the
-- oddness of the whole.
abbrev pub with_node : Found → Found
with_node f = finding f.variable f.odd f.at (f.nodes + 1) f.fault

abbrev pub both_found : Bool → Found → ℕ → Found
both_found x right odd = finding (x || right.variable) odd right.at right.nodes right.fault

-- What is found of a literal power, a product and a sum, from what was found of the operands: of the left one, whether x stands in it and its oddness.
abbrev pub literal_found : Found → Numeral → Found
literal_found base num =
    finding base.variable (cond num.over base.odd (cond (eqb num.value 0) 1 base.odd)) num.at (base.nodes + 1)
    (min base.fault (cond num.over (fault_code 5 (base.at + 1)) (cond (leb num.value 64) no_fault (fault_code 6 (base.at + 1)))))

abbrev pub product_found : Bool → ℕ → Found → Found
product_found x odd right = with_node (both_found x right (odd * right.odd))

abbrev pub sum_found : Bool → ℕ → Found → Found
sum_found x odd right = with_node (both_found x right ((odd + right.odd) % 2))

-- What is found of the tree t that ends before place p, after n nodes and the faults f.
abbrev pub found : ℕ → Tree → ℕ → ℕ → ℕ → Found
found w t p n f = finding (holds_x t) (parity t) p (n + nodes t) (faulted w t f)

-- ---- readers
-- A reader takes the scan from `from c` to `to c x` in every context c, x the piece from its place to where it came, or the scan stops where the
-- reader says.
-- `Next` is what it says of the byte after the tree (0 at the end of the text).
pub data Read (w : ℕ) (C : Type 0) (from : C → State) (to : C → Piece → State) (Next : ℕ → Type 0)
    (l : List ℕ) (at n f : ℕ) (out : List ℕ) (r : Found) (now : List ℕ) : Type 0 where
  fails : r.ok ≡ false → ((c : C) → run (from c) at (drop at l) ≡ stops r.at) → Read w C from to Next l at n f out r now
  gets : (t : Tree) (p : ℕ) → r ≡ found w t p n f → now ≡ wrote w t n out → at < p → p ≤ length l → at + nodes t ≤ p → Next (get_or l p 0)
      → ((c : C) → run (from c) at (drop at l) ≡ run (to c (piece (span at p) t)) p (drop p l)) → Read w C from to Next l at n f out r now

abbrev pub Anything : ℕ → Type 0
Anything c = Unit {0}

abbrev pub NoStar : ℕ → Type 0
NoStar c = c ≡ star → ⊥

abbrev pub NoSign : ℕ → Type 0
NoSign c = (c ≡ star → ⊥) × (c ≡ plus_sign → ⊥) × (c ≡ minus_sign → ⊥)

-- A product stands in a sum at one level.
abbrev pub InSum : Type 0
InSum = PendingSum × Outer

abbrev pub in_sum : InSum → Level
in_sum c = level c.0 no_product [] c.1

-- What a bracketed sum stands in; it is read from behind its ( on and ends behind its ).
pub data Enclosing : Type 0 where
  brackets : Level → ℕ → Enclosing
  exponent : Level → Piece → ℕ → Enclosing

abbrev pub opened : Enclosing → State
opened (brackets lv p) = operand (fresh (in_brackets lv p))
opened (exponent lv a p) = operand (fresh (in_exponent lv a p))

abbrev pub enclosed : Enclosing → Piece → State
enclosed (brackets lv p) x = atomed lv (piece (span p (end x.text)) x.tree)
enclosed (exponent lv a p) x = powered lv (raise_to a p x.tree (end x.text))

abbrev pub SumRead : ℕ → List ℕ → ℕ → ℕ → ℕ → List ℕ → Found → List ℕ → Type 0
SumRead w = Read w Outer (λ o. operand (fresh o)) (λ o x. powered (fresh o) x) NoSign

abbrev pub ProductRead : ℕ → List ℕ → ℕ → ℕ → ℕ → List ℕ → Found → List ℕ → Type 0
ProductRead w = Read w InSum (λ c. operand (in_sum c)) (λ c x. powered (in_sum c) x) NoStar

abbrev pub PowerRead : ℕ → List ℕ → ℕ → ℕ → ℕ → List ℕ → Found → List ℕ → Type 0
PowerRead w = Read w Level operand powered Anything

abbrev pub AtomRead : ℕ → List ℕ → ℕ → ℕ → ℕ → List ℕ → Found → List ℕ → Type 0
AtomRead w = Read w Level operand atomed Anything

-- The sum inside the brackets begins after the place of the (.
abbrev pub BracketRead : ℕ → List ℕ → ℕ → ℕ → ℕ → List ℕ → Found → List ℕ → Type 0
BracketRead w l at = Read w Enclosing opened enclosed Anything l (at + 1)

-- A number at a place: its value v, where the scan stands after it, as an atom and as a literal exponent, and its digits, which are 0 alone or
-- all that follow.
pub record NumberRead (w : ℕ) (l : List ℕ) (at : ℕ) (r : Numeral) : Type 0 where
  pub v : ℕ
  pub value-kept : r.value ≡ kept w v
  pub value-over : r.over ≡ leb (2 ^ w) v
  pub value_odd : r.odd ≡ v % 2
  pub onward : at < r.at
  pub inside : r.at ≤ length l
  pub as_atom : (lv : Level) → run (operand lv) at (drop at l) ≡ run (atomed lv (number_to at v r.at)) r.at (drop r.at l)
  pub as_exponent : (lv : Level) (x : Piece) (p : ℕ)
      → run (after_caret lv x p) at (drop at l) ≡ run (powered lv (literal_to x p v r.at)) r.at (drop r.at l)
  pub spelt : Number (take (r.at - at) (drop at l)) v
  pub all : 49 ≤ get_or l at 0 → Digit (get_or l r.at 0) → ⊥

-- One more digit: whatever value v the number has so far, it has 10 * v + digit then.
pub record Pushed (w : ℕ) (number : Numeral) (digit : ℕ) (r : Numeral) : Type 0 where
  pub onward : r.at ≡ number.at + 1
  pub value-kept : (v : ℕ) → number.value ≡ kept w v → number.over ≡ leb (2 ^ w) v → r.value ≡ kept w (10 * v + digit)
  pub value-over : (v : ℕ) → number.value ≡ kept w v → number.over ≡ leb (2 ^ w) v → r.over ≡ leb (2 ^ w) (10 * v + digit)
  pub value_odd : r.odd ≡ digit % 2

-- The places of minus signs, side by side before place q, the last one first.
unfoldable pub signs_before : (q count : ℕ) → List ℕ
signs_before q zero = []
signs_before q (suc count) = signs_before q count ++ (q - suc count) ∷ []

-- The minus signs from place `at` on end before place p.
pub record MinusSigns (l : List ℕ) (at p : ℕ) : Type 0 where
  pub onward : at ≤ p
  pub inside : p ≤ length l
  pub none : get_or l p 0 ≡ minus_sign → ⊥
  pub counted : (σ : PendingSum) (π : Rattle.formula_scan.specs.Scan.PendingProduct) (m : List ℕ) (o : Outer)
      → run (operand (level σ π m o)) at (drop at l) ≡ run (operand (level σ π (signs_before p (p - at) ++ m) o)) p (drop p l)

-- The first ( that is too deep, or the text's length.
pub record DeepAt (l : List ℕ) (p : ℕ) : Type 0 where
  pub within : p ≤ length l
  pub clear : (q : ℕ) → q < p → TooDeep l q → ⊥
  pub deep : p < length l → TooDeep l p

-- The words of a tree over that many lent words: the node count, and the nodes as they are laid out in the words behind it.
abbrev pub over_words : ℕ → Tree → List ℕ
over_words size t = nodes t ∷ wrote 64 t 0 (replicate (size - 1) 0)

-- What reading a text over all of some lent words answers, and what they are afterwards: a refusal, which alters none, or none, and the words of
-- an accepted text's tree.
pub data ReadOver (words : Tree → List ℕ) (s lent : List ℕ) : ReadAnswer → List ℕ → Type 0 where
  refused_over : {n p : ℕ} → Refused 64 s n p → ReadOver words s lent (record { number = n; place = p }) lent
  accepted-over : {t : Tree} → Accepted 64 s t → ReadOver words s lent (record { number = 0; place = 0 }) (words t)

-- Refusals 2 to 8 of a text, or none.
pub data Judged (w : ℕ) (l : List ℕ) : ReadAnswer → Type 0 where
  refuses : {n p : ℕ} → Refused w l n p → Judged w l (record { number = n; place = p })
  accepts : {t : Tree} → Accepted w l t → Judged w l (record { number = 0; place = 0 })
