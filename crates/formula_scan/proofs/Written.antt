-- What the readers put into the lent words: node by node, in postfix order, the words of the tree. Where there is room for all of them,
-- they stand behind what was put before and alter nothing after; where there is no room, nothing is put. One law for both layouts.
use mathlib.Core.Path.{◌≡◌, refl, sym, ap, ap₂, ◌∙◌}
use mathlib.Core.Bool.{Bool, true, false, cond}
use mathlib.Core.List.{List, [], ◌∷◌, ◌++◌, append_assoc}
use Prim.Native.Nat.{ℕ, zero, suc, ◌+◌, ◌-◌, ◌*◌, ◌^◌, ◌≤◌, ◌<◌}
use native.Mathlib.Nat.{sub-zero, zero-sub, suc-sub-suc}
use native.Mathlib.Numerals.{add-one}
use native.Mathlib.Omega.{arith}
use lib.Dec.{ltb}
use lib.ListN.{length, drop, set, replicate, length-append, length-drop, length-replicate}
use lib.Seq.{sets, sets-eq, length-sets, drop-drop, drop_at, take_at}
use borrow.Author.Tests.{lt-ltb, le-ltb}
use Rattle.formula.specs.Tree.{Span, span, Tree, number, variable, sum, difference, product, minus, literal_power, raise, nodes}
use Rattle.formula.specs.Words.{node_words, tree_words, nodes_length, tree_length, most_nodes}
use Rattle.formula.specs.Refusals.{Part, itself, sum_left, sum-right, difference-left, difference-right, product-left, product-right, under-minus, under-power, in_base, in_exponent}
use Rattle.formula_scan.specs.Readers.{kept, Layout, nothing, plain, spanned, spanned_length, layout_of, put_words, put, laid_out, spanned_words, wrote}
use Rattle.formula_scan.proofs.Numerals.{kept_fits}

-- ---- one node
-- Words go right behind what is done.
words-next : (done rest words : List ℕ) (n : ℕ) → n < most_nodes → length done ≡ length words * n → length words ≤ length rest
    → put_words (done ++ rest) n words ≡ (done ++ words) ++ drop (length words) rest
words-next done rest words n one at room =
    rw (lt-ltb n most_nodes one)
    (sets-eq words (done ++ rest) (length words * n) enough
    ∙ ap₂ (λ a b. a ++ words ++ b) (take_at done rest (length words * n) at)
    (sym (drop-drop (length words) (length words * n) (done ++ rest)) ∙ ap (λ l. drop (length words) l) (drop_at done rest (length words * n) at)))
  where
    enough : length words * n + length words ≤ length (done ++ rest)
    enough = simp length-append (omega arith)

length-words : (out : List ℕ) (n : ℕ) (words : List ℕ) → length (put_words out n words) ≡ length out
length-words out n words = go (ltb n most_nodes)
  where
    go : (room : Bool) → length (cond room (sets out (length words * n) words) out) ≡ length out
    go true = length-sets out (length words * n) words
    go false = refl

-- Past the most nodes, and into less than 256 words, nothing is put; else two words, or four.
module _ (out : List ℕ) (n kind word : ℕ) where
  pub put-past : (s : Span) → most_nodes ≤ n → put out n kind word s ≡ out
  put-past s past = rw (le-ltb n most_nodes past)

  pub put_nowhere : (s : Span) → n < most_nodes → length out < nodes_length → put out n kind word s ≡ out
  put_nowhere s one small = rw (lt-ltb n most_nodes one, lt-ltb (length out) nodes_length small)

  pub put-plain : (s : Span) → n < most_nodes → nodes_length ≤ length out → length out < spanned_length
      → put out n kind word s ≡ set (set out (2 * n) kind) (2 * n + 1) word
  put-plain s one some small =
      rw (lt-ltb n most_nodes one, le-ltb (length out) nodes_length some, lt-ltb (length out) spanned_length small)
      (ap (λ i. set (set out (2 * n) kind) i word) (sym (add-one (2 * n))))

  pub put-spanned : (p e : ℕ) → n < most_nodes → spanned_length ≤ length out
      → put out n kind word (span p e) ≡ set (set (set (set out (4 * n) kind) (4 * n + 1) word) (4 * n + 2) p) (4 * n + 3) e
  put-spanned p e one some =
      rw (lt-ltb n most_nodes one, le-ltb (length out) nodes_length (omega arith), le-ltb (length out) spanned_length some)
      (ap₂ (λ i j. set (set (set (set out (4 * n) kind) i word) j p) (suc j) e) (sym (add-one (4 * n))) second
      ∙ ap (λ j. set (set (set (set out (4 * n) kind) (4 * n + 1) word) (4 * n + 2) p) j e) third)
    where
      second : suc (suc (4 * n)) ≡ 4 * n + 2
      second = omega arith

      third : suc (4 * n + 2) ≡ 4 * n + 3
      third = omega arith

pub length-put : (out : List ℕ) (n kind word : ℕ) (s : Span) → length (put out n kind word s) ≡ length out
length-put out n kind word s = length-words out n (layout_of out kind word s)

-- ---- the words of a whole tree
-- Every number of the tree fits a word, and every literal exponent.
record Fits (w : ℕ) (t : Tree) : Type 0 where
  numbers : (k : Span) (p v : ℕ) → Part (number k p v) t → v < 2 ^ w
  exponents : (k : Span) (a : Tree) (p m : ℕ) → Part (literal_power k a p m) t → m < 2 ^ w

within : {w : ℕ} {s t : Tree} → Fits w t → ((u : Tree) → Part u s → Part u t) → Fits w s
within fit up = record { numbers = λ k p v h. fit.numbers k p v (up _ h); exponents = λ k a p m h. fit.exponents k a p m (up _ h) }

drop-replicate : (k n a : ℕ) → drop k (replicate n a) ≡ replicate (n - k) a
drop-replicate zero n a = rw sub-zero
drop-replicate (suc k) zero a = rw zero-sub
drop-replicate (suc k) (suc n) a = rw suc-sub-suc (drop-replicate k n a)

-- A layout of `each` words a node, which is that of lent words of some size.
module _ (f : Layout) (each size : ℕ) (sized : (kind word : ℕ) (s : Span) → length (f kind word s) ≡ each)
    (lays : (out : List ℕ) → length out ≡ size → layout_of out ≡ f) where
  -- `Writes g ws k`: g writes k nodes from node n on, and their words are ws.
  record Writes (g : ℕ → List ℕ → List ℕ) (ws : List ℕ) (k : ℕ) : Type 0 where
    long : length ws ≡ each * k
    goes : (n : ℕ) (done rest : List ℕ) → n + k ≤ most_nodes → length (done ++ rest) ≡ size → length done ≡ each * n → each * k ≤ length rest
        → g n (done ++ rest) ≡ (done ++ ws) ++ drop (each * k) rest

  one_node : (kind word v : ℕ) (s : Span) → word ≡ v → Writes (λ n out. put out n kind word s) (f kind v s) 1
  one_node kind word v s e = record { long = once; goes = go }
    where
      once : length (f kind v s) ≡ each * 1
      once = sized kind v s ∙ omega arith

      go : (n : ℕ) (done rest : List ℕ) → n + 1 ≤ most_nodes → length (done ++ rest) ≡ size → length done ≡ each * n → each * 1 ≤ length rest
          → put (done ++ rest) n kind word s ≡ (done ++ f kind v s) ++ drop (each * 1) rest
      go n done rest one whole at room =
          ap₂ (λ (g : Layout) z. put_words (done ++ rest) n (g kind z s)) (lays (done ++ rest) whole) e
          ∙ words-next done rest (f kind v s) n (omega arith) (at ∙ ap (λ k. k * n) (sym (sized kind v s))) (omega (arith, sized kind v s))
          ∙ ap (λ k. (done ++ f kind v s) ++ drop k rest) once

  one_after_other : {g h : ℕ → List ℕ → List ℕ} {ws vs : List ℕ} {k j m : ℕ} → Writes g ws k → Writes h vs j → m ≡ k + j
      → Writes (λ n out. h (n + k) (g n out)) (ws ++ vs) m
  one_after_other {g} {h} {ws} {vs} {k} {j} {m} G H e = record {
    long = simp length-append (omega (arith, G.long, H.long) ∙ ap (λ i. each * i) (sym e));
    goes = λ n done rest few whole at room.
        ap (h (n + k)) (G.goes n done rest (omega arith) whole at (fits_first room))
        ∙ H.goes (n + k) (done ++ ws) (drop (each * k) rest) (omega arith) (still n done rest whole at room) (further n done at) (fits_second rest room)
        ∙ ap₂ ◌++◌ (append_assoc done ws vs) (drop-drop (each * j) (each * k) rest ∙ ap (λ i. drop i rest) (sym both));
  }
    where
      both : each * m ≡ each * k + each * j
      both = ap (λ i. each * i) e ∙ omega arith

      fits_first : {r : ℕ} → each * m ≤ r → each * k ≤ r
      fits_first room = omega (arith, both)

      fits_second : (rest : List ℕ) → each * m ≤ length rest → each * j ≤ length (drop (each * k) rest)
      fits_second rest room = simp length-drop (omega (arith, both))

      further : (n : ℕ) (done : List ℕ) → length done ≡ each * n → length (done ++ ws) ≡ each * (n + k)
      further n done at = simp length-append (omega (arith, G.long))

      still : (n : ℕ) (done rest : List ℕ) → length (done ++ rest) ≡ size → length done ≡ each * n → each * m ≤ length rest
          → length ((done ++ ws) ++ drop (each * k) rest) ≡ size
      still n done rest whole at room =
          let parts : length (done ++ rest) ≡ length done + length rest = simp length-append in
          simp (length-append, length-drop) (omega (arith, G.long, both))

  two_operands : {g h : ℕ → List ℕ → List ℕ} {ws vs : List ℕ} {k j : ℕ} (kind : ℕ) (s : Span) → Writes g ws k → Writes h vs j
      → Writes (λ n out. put (h (n + k) (g n out)) (n + k + j) kind 0 s) (ws ++ vs ++ f kind 0 s) (k + j + 1)
  two_operands kind s G H = rw append_assoc (one_after_other G (one_after_other H (one_node kind 0 0 s refl) refl) (omega arith))

  writes : (w : ℕ) (t : Tree) → Fits w t → Writes (wrote w t) (laid_out f t) (nodes t)
  unfolding wrote laid_out nodes
  writes w (number s p v) fit = one_node 0 (kept w v) v s (kept_fits w v (fit.numbers s p v itself))
  writes w (variable s) fit = one_node 1 0 0 s refl
  writes w (sum s a b) fit = two_operands 3 s (writes w a (within fit (λ u. sum_left))) (writes w b (within fit (λ u. sum-right)))
  writes w (difference s a b) fit =
      two_operands 4 s (writes w a (within fit (λ u. difference-left))) (writes w b (within fit (λ u. difference-right)))
  writes w (product s a b) fit = two_operands 5 s (writes w a (within fit (λ u. product-left))) (writes w b (within fit (λ u. product-right)))
  writes w (minus s a) fit = one_after_other (writes w a (within fit (λ u. under-minus))) (one_node 6 0 0 s refl) refl
  writes w (literal_power s a p m) fit =
      one_after_other (writes w a (within fit (λ u. under-power))) (one_node 7 (kept w m) m s (kept_fits w m (fit.exponents s a p m itself))) refl
  writes w (raise s a p b) fit = two_operands 8 s (writes w a (within fit (λ u. in_base))) (writes w b (within fit (λ u. in_exponent)))

  pub length-laid : (t : Tree) → length (laid_out f t) ≡ each * nodes t
  unfolding laid_out nodes
  length-laid (number s p v) = sized 0 v s ∙ omega arith
  length-laid (variable s) = sized 1 0 s ∙ omega arith
  length-laid (sum s a b) = simp length-append (omega (arith, sized 3 0 s, length-laid a, length-laid b))
  length-laid (difference s a b) = simp length-append (omega (arith, sized 4 0 s, length-laid a, length-laid b))
  length-laid (product s a b) = simp length-append (omega (arith, sized 5 0 s, length-laid a, length-laid b))
  length-laid (minus s a) = simp length-append (omega (arith, sized 6 0 s, length-laid a))
  length-laid (literal_power s a p n) = simp length-append (omega (arith, sized 7 n s, length-laid a))
  length-laid (raise s a p b) = simp length-append (omega (arith, sized 8 0 s, length-laid a, length-laid b))

  -- The nodes of a tree, put into words that are 0.
  pub laid : (t : Tree) → nodes t ≤ most_nodes → each * nodes t ≤ size → ((k : Span) (p v : ℕ) → Part (number k p v) t → v < 2 ^ 64)
      → ((k : Span) (a : Tree) (p m : ℕ) → Part (literal_power k a p m) t → m < 2 ^ 64)
      → wrote 64 t 0 (replicate size 0) ≡ laid_out f t ++ replicate (size - length (laid_out f t)) 0
  laid t few room numbers exponents =
      (writes 64 t (record { numbers = numbers; exponents = exponents })).goes 0 [] (replicate size 0) (omega arith) (length-replicate size 0) (omega arith)
      (omega (arith, length-replicate {A = ℕ} size 0))
      ∙ ap (λ l. laid_out f t ++ l) (drop-replicate (each * nodes t) size 0 ∙ ap (λ k. replicate (size - k) 0) (sym (length-laid t)))

-- ---- two words a node, in 256 of them, and four, in 512
plain-words : (t : Tree) → laid_out plain t ≡ node_words t
unfolding laid_out node_words
plain-words (number s p v) = refl
plain-words (variable s) = refl
plain-words (sum s a b) = ap₂ (λ x y. x ++ y ++ 3 ∷ 0 ∷ []) (plain-words a) (plain-words b)
plain-words (difference s a b) = ap₂ (λ x y. x ++ y ++ 4 ∷ 0 ∷ []) (plain-words a) (plain-words b)
plain-words (product s a b) = ap₂ (λ x y. x ++ y ++ 5 ∷ 0 ∷ []) (plain-words a) (plain-words b)
plain-words (minus s a) = ap (λ x. x ++ 6 ∷ 0 ∷ []) (plain-words a)
plain-words (literal_power s a p n) = ap (λ x. x ++ 7 ∷ n ∷ []) (plain-words a)
plain-words (raise s a p b) = ap₂ (λ x y. x ++ y ++ 8 ∷ 0 ∷ []) (plain-words a) (plain-words b)

lays_plain : (out : List ℕ) → length out ≡ nodes_length → layout_of out ≡ plain
lays_plain out e =
    ap₂ (λ a b. cond a nothing (cond b plain spanned)) (le-ltb (length out) nodes_length (omega arith)) (lt-ltb (length out) spanned_length (omega arith))

lays_spanned : (out : List ℕ) → length out ≡ spanned_length → layout_of out ≡ spanned
lays_spanned out e =
    ap₂ (λ a b. cond a nothing (cond b plain spanned)) (le-ltb (length out) nodes_length (omega arith)) (le-ltb (length out) spanned_length (omega arith))

pub nodes-words : (t : Tree) → length (node_words t) ≡ 2 * nodes t
nodes-words t = sym (ap (λ l. length l) (plain-words t)) ∙ length-laid plain 2 nodes_length (λ kind word s. refl) lays_plain t

pub length-tree-words : (t : Tree) → nodes t ≤ most_nodes → length (tree_words t) ≡ tree_length
length-tree-words t few = simp (length-append, length-replicate) (omega (arith, nodes-words t))

pub spanned-length : (t : Tree) → length (laid_out spanned t) ≡ 4 * nodes t
spanned-length t = length-laid spanned 4 spanned_length (λ kind word s. refl) lays_spanned t

module _ (t : Tree) (few : nodes t ≤ most_nodes) (numbers : (k : Span) (p v : ℕ) → Part (number k p v) t → v < 2 ^ 64)
    (exponents : (k : Span) (a : Tree) (p m : ℕ) → Part (literal_power k a p m) t → m < 2 ^ 64) where
  pub tree-written : nodes t ∷ wrote 64 t 0 (replicate nodes_length 0) ≡ tree_words t
  tree-written =
      ap (λ l. nodes t ∷ l)
      (laid plain 2 nodes_length (λ kind word s. refl) lays_plain t few (omega arith) numbers exponents
      ∙ ap (λ l. l ++ replicate (nodes_length - length l) 0) (plain-words t))

  pub spanned-written : nodes t ∷ wrote 64 t 0 (replicate spanned_length 0) ≡ spanned_words t
  spanned-written = ap (λ l. nodes t ∷ l) (laid spanned 4 spanned_length (λ kind word s. refl) lays_spanned t few (omega arith) numbers exponents)

-- ---- no word more or less
pub length-wrote : (w : ℕ) (t : Tree) (n : ℕ) (out : List ℕ) → length (wrote w t n out) ≡ length out
unfolding wrote
length-wrote w (number s p v) n out = length-put out n 0 (kept w v) s
length-wrote w (variable s) n out = length-put out n 1 0 s
length-wrote w (sum s a b) n out = length-put (wrote w b (n + nodes a) (wrote w a n out)) (n + nodes a + nodes b) 3 0 s ∙ length-wrote w b (n + nodes a) (wrote w a n out) ∙ length-wrote w a n out
length-wrote w (difference s a b) n out = length-put (wrote w b (n + nodes a) (wrote w a n out)) (n + nodes a + nodes b) 4 0 s ∙ length-wrote w b (n + nodes a) (wrote w a n out) ∙ length-wrote w a n out
length-wrote w (product s a b) n out = length-put (wrote w b (n + nodes a) (wrote w a n out)) (n + nodes a + nodes b) 5 0 s ∙ length-wrote w b (n + nodes a) (wrote w a n out) ∙ length-wrote w a n out
length-wrote w (minus s a) n out = length-put (wrote w a n out) (n + nodes a) 6 0 s ∙ length-wrote w a n out
length-wrote w (literal_power s a p m) n out = length-put (wrote w a n out) (n + nodes a) 7 (kept w m) s ∙ length-wrote w a n out
length-wrote w (raise s a p b) n out = length-put (wrote w b (n + nodes a) (wrote w a n out)) (n + nodes a + nodes b) 8 0 s ∙ length-wrote w b (n + nodes a) (wrote w a n out) ∙ length-wrote w a n out

pub wrote_nothing : (w : ℕ) (t : Tree) (n : ℕ) → wrote w t n [] ≡ []
wrote_nothing w t n = empty (wrote w t n []) (length-wrote w t n [])
  where
    empty : (l : List ℕ) → length l ≡ 0 → l ≡ []
    empty [] e = refl
    empty (a ∷ l) e = absurd (omega arith)
