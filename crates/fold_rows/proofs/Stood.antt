-- What stands where in a plan: the rows of a folded tree in it, a tree put into it, an operator behind its operands, a span put into the root's row,
-- and rows moved down.
use mathlib.Core.Path.{◌≡◌, refl, sym, ap, ap₂, subst, ◌∙◌}
use mathlib.Core.Bool.{true, false, ◌&&◌}
use mathlib.Core.List.{List, [], ◌∷◌, ◌++◌, map, map-append, append-nil, append_assoc}
use Prim.Native.Nat.{ℕ, zero, suc, ◌+◌, ◌-◌, ◌*◌, ◌≤◌, ◌<◌}
use native.Mathlib.Nat.{suc-add}
use native.Mathlib.Numerals.{add-one}
use native.Mathlib.Omega.{arith}
use lib.Dec.{eqb}
use lib.ListN.{length, get_or, take, drop, set, length-append, length-drop, take-append-drop, length-map}
use lib.Seq.{take_at, drop_at, get_or_at, take-take, take-add, take-suc, take-length, drop-drop, length-take-le, sets-eq}
use lib.Seq.{take-append_seam, drop-append_seam}
use borrow.Author.Tests.{lt-ltb, le-ltb, eq-eqb, ne_eqb}
use Rattle.plan.specs.Measures.{element_count, row_length, row_start, span_start}
use Rattle.plan.specs.Row.{Row, kind, elements, first_byte, end_byte, kind_facts}
use Rattle.plan.specs.Plan as Plan
use Rattle.plan.proofs.RowLaws.{row_at, row-part, slice-part}
use Rattle.plan.proofs.SoundLaws.{earlier_row}
use Rattle.formula.specs.Tree as Tree
use Rattle.formula.specs.Tree.{Span, span}
use Rattle.fold.specs.Folded as Folded
use Rattle.fold.specs.Folded.{Spans, Folded, constant, sum_chain, product_chain, sum_row, difference_row, product_row, minus_row, power_row, raise_row}
use Rattle.fold.specs.Folded.{is_constant, is_sum_chain, is_product_chain, of_sum, of_product}
use Rattle.fold.specs.Folding.{word_of, is, is_sum}
use Rattle.fold.specs.Layout.{row_count, row_words, root_row, rows_from, words_of}
use Rattle.fold.proofs.ReadBack.{FullRows, full_append, length-words_of, cut_rows, Rows, rows_of, some_rows, length-tree}
use Rattle.fold.proofs.ReadBack.{row-elements, first_back, end_back}
use Rattle.fold.proofs.Origins.{kind_of, word_a_of, word_b_of, root_words, operand_rows, root_last, respanned}
use Rattle.fold.proofs.KindTests.{constant_test, sum-chain_test, product-chain_test, sum_test}
use Rattle.fold_rows.specs.Standing.{with_words, with_row, Stands, placed, with_span, no_span, lowered, moved_down}
use Rattle.fold_rows.proofs.RowWords.{length-elements}
use Rattle.fold_rows.proofs.Placing.{chain_words, sum_row_lem, product-row}

-- ---- rows and their words
words-both : (f g : List Row) → words_of (f ++ g) ≡ words_of f ++ words_of g
unfolding words_of
words-both [] g = refl
words-both (row ∷ f) g = ap (λ l. row ++ l) (words-both f g) ∙ sym (append_assoc row (words_of f) (words_of g))

words-behind : (f : List Row) (row : Row) → words_of (f ++ row ∷ []) ≡ words_of f ++ row
unfolding words_of
words-behind f row = words-both f (row ∷ []) ∙ ap (λ l. words_of f ++ l) (append-nil row)

full_left : (f g : List Row) → FullRows (f ++ g) → FullRows f
unfolding FullRows
full_left [] g h = tt
full_left (row ∷ f) g h = (h.0, full_left f g h.1)

-- ---- rows that stand in a plan from row n on
abbrev Holds : List ℕ → ℕ → List Row → Type 0
Holds p n f = take (row_length * length f) (drop (row_start n) p) ≡ words_of f

row_held : (p : List ℕ) (n : ℕ) (f : List Row) → FullRows f → Holds p n f → (i : ℕ) → i < length f → Plan.row p (n + i) ≡ get_or f i []
row_held p n f full h i within =
    row_at p (n + i)
    ∙ ap (take row_length) (drop-drop (row_length * (n + i)) 1 p ∙ ap (λ k. drop k p) place ∙ sym (drop-drop (row_length * i) (row_start n) p))
    ∙ sym (row_at (0 ∷ drop (row_start n) p) i)
    ∙ sym (earlier_row (0 ∷ drop (row_start n) p) (length f) i within)
    ∙ ap (λ l. get_or (Plan.rows_from (length f) l) i []) (sym (take-append-drop (row_length * length f) (drop (row_start n) p)) ∙ ap (λ l. l ++ rest) h)
    ∙ ap (λ g. get_or g i []) (cut_rows f rest full)
  where
    place : row_start (n + i) ≡ row_start n + row_length * i
    place = omega arith

    rest : List ℕ
    rest = drop (row_length * length f) (drop (row_start n) p)

holds_tree : (p : List ℕ) (n : ℕ) (whole : Span) (a : Folded) → Stands p n whole a → Holds p n (rows_from n whole a)
holds_tree p n whole a h = ap (λ k. take (row_length * k) (drop (row_start n) p)) (rows_of n whole a).count ∙ h

-- Row i of a tree that stands from row n on.
pub row-stands : (p : List ℕ) (n : ℕ) (whole : Span) (a : Folded) → Stands p n whole a → (i : ℕ) → i < row_count a
    → Plan.row p (n + i) ≡ get_or (rows_from n whole a) i []
row-stands p n whole a h i within =
    row_held p n (rows_from n whole a) (rows_of n whole a).full (holds_tree p n whole a h) i (rw (rows_of n whole a).count within)

-- The root's row stands behind those of its operands.
operand-count : (n : ℕ) (whole : Span) (a : Folded) → length (operand_rows n a) + 1 ≡ row_count a
operand-count n whole a =
    sym (length-append (operand_rows n a) (root_words n a whole ∷ [])) ∙ ap length (sym (root_last n whole a)) ∙ (rows_of n whole a).count

pub root_stands : (p : List ℕ) (n : ℕ) (whole : Span) (a : Folded) → Stands p n whole a → Plan.row p (root_row n a) ≡ root_words n a whole
root_stands p n whole a h =
    ap (Plan.row p) place
    ∙ row-stands p n whole a h (row_count a - 1) (omega (arith, some_rows a))
    ∙ ap (λ f. get_or f (row_count a - 1) []) (root_last n whole a)
    ∙ get_or_at (operand_rows n a) (root_words n a whole) [] [] (row_count a - 1) (omega (arith, operand-count n whole a))
  where
    place : n + row_count a - 1 ≡ n + (row_count a - 1)
    place = omega (arith, some_rows a)

pub root_kind : (p : List ℕ) (n : ℕ) (whole : Span) (a : Folded) → Stands p n whole a → kind (Plan.row p (root_row n a)) ≡ kind_of a
root_kind p n whole a h = ap (λ (row : Row). kind row) (root_stands p n whole a h)

-- Constants and chains have one row, with their elements.
pub one_row : (a : Folded) → kind_of a ≤ 2 → row_count a ≡ 1
unfolding row_count kind_of
one_row (constant c) h = refl
one_row (sum_chain f) h = refl
one_row (product_chain f) h = refl
one_row (sum_row s a b) h = absurd (omega arith)
one_row (difference_row s a b) h = absurd (omega arith)
one_row (product_row s a b) h = absurd (omega arith)
one_row (minus_row s a) h = absurd (omega arith)
one_row (power_row s a n) h = absurd (omega arith)
one_row (raise_row s a b) h = absurd (omega arith)

chain-words : (n : ℕ) (whole : Span) (a : Folded) → kind_of a ≤ 2
    → root_words n a whole ≡ row_words (kind_of a) (length (Folded.elements a) - 1) 0 (Folded.elements a) whole
unfolding kind_of word_a_of word_b_of
chain-words n whole (constant c) h = refl
chain-words n whole (sum_chain f) h = refl
chain-words n whole (product_chain f) h = refl
chain-words n whole (sum_row s a b) h = absurd (omega arith)
chain-words n whole (difference_row s a b) h = absurd (omega arith)
chain-words n whole (product_row s a b) h = absurd (omega arith)
chain-words n whole (minus_row s a) h = absurd (omega arith)
chain-words n whole (power_row s a m) h = absurd (omega arith)
chain-words n whole (raise_row s a b) h = absurd (omega arith)

pub chain-stands : (p : List ℕ) (n : ℕ) (whole : Span) (a : Folded) → Stands p n whole a → kind_of a ≤ 2
    → Plan.row p (root_row n a) ≡ row_words (kind_of a) (length (Folded.elements a) - 1) 0 (Folded.elements a) whole
chain-stands p n whole a h few = root_stands p n whole a h ∙ chain-words n whole a few

-- ---- the tests of the rules, by kinds
module _ (a : Folded) where
  pub is-constant : kind_of a ≡ 0 → is_constant a ≡ true
  is-constant e = constant_test a ∙ eq-eqb (kind_of a) 0 e

  pub no_constant : (kind_of a ≡ 0 → ⊥) → is_constant a ≡ false
  no_constant other = constant_test a ∙ ne_eqb (kind_of a) 0 other

  pub is-sum-chain : kind_of a ≡ 1 → is_sum_chain a ≡ true
  is-sum-chain e = sum-chain_test a ∙ eq-eqb (kind_of a) 1 e

  pub no_sum-chain : (kind_of a ≡ 1 → ⊥) → is_sum_chain a ≡ false
  no_sum-chain other = sum-chain_test a ∙ ne_eqb (kind_of a) 1 other

  pub is-product-chain : kind_of a ≡ 2 → is_product_chain a ≡ true
  is-product-chain e = product-chain_test a ∙ eq-eqb (kind_of a) 2 e

  pub no_product-chain : (kind_of a ≡ 2 → ⊥) → is_product_chain a ≡ false
  no_product-chain other = product-chain_test a ∙ ne_eqb (kind_of a) 2 other

  pub no_chain : 2 < kind_of a → (is_constant a ≡ false) × (is_sum_chain a ≡ false) × (is_product_chain a ≡ false)
  no_chain h = (no_constant (λ e. omega (arith, e)), no_sum-chain (λ e. omega (arith, e)), no_product-chain (λ e. omega (arith, e)))

  pub is_test : (n : ℕ) → kind_of a ≡ 0 → is n a ≡ eqb (word_of a) n
  is_test n e = ap (λ t. t && eqb (word_of a) n) (is-constant e)

  pub is_none : (n : ℕ) → (kind_of a ≡ 0 → ⊥) → is n a ≡ false
  is_none n other = ap (λ t. t && eqb (word_of a) n) (no_constant other)

pub is_sum_lem : (a : Folded) → kind_of a < 2 → is_sum a ≡ true
is_sum_lem a h = sum_test a ∙ lt-ltb (kind_of a) 2 h

pub no_sum : (a : Folded) → 2 ≤ kind_of a → is_sum a ≡ false
no_sum a h = sum_test a ∙ le-ltb (kind_of a) 2 h

-- ---- one row
pub sum-placed : (p : List ℕ) (n : ℕ) (t : List ℕ) → 0 < length t → with_row p n (chain_words 1 t) ≡ placed p n no_span (of_sum t)
sum-placed p n t some = ap (with_row p n) (sym (sum_row_lem n t some))

pub product-placed : (p : List ℕ) (n : ℕ) (t : List ℕ) → 0 < length t → with_row p n (chain_words 2 t) ≡ placed p n no_span (of_product t)
product-placed p n t some = ap (with_row p n) (sym (product-row n t some))

-- ---- words put into a plan: what they leave, what stands there, and other words right behind them
pub words_again : (p : List ℕ) (at : ℕ) (new : List ℕ) → take (length new) (drop at p) ≡ new → with_words p at new ≡ p
words_again p at new h =
    ap₂ (λ f g. take at p ++ (f ++ g)) (sym h) (sym (drop-drop (length new) at p))
    ∙ ap (λ f. take at p ++ f) (take-append-drop (length new) (drop at p))
    ∙ take-append-drop at p

module _ (p : List ℕ) (at : ℕ) (new : List ℕ) (room : at ≤ length p) where
  pub words-before : take at (with_words p at new) ≡ take at p
  words-before = take_at (take at p) (new ++ drop (at + length new) p) at (length-take-le at p room)

  words-from : drop at (with_words p at new) ≡ new ++ drop (at + length new) p
  words-from = drop_at (take at p) (new ++ drop (at + length new) p) at (length-take-le at p room)

  pub words_there : take (length new) (drop at (with_words p at new)) ≡ new
  words_there = ap (take (length new)) words-from ∙ take-append_seam new (drop (at + length new) p)

  pub words-after : drop (at + length new) (with_words p at new) ≡ drop (at + length new) p
  words-after =
      sym (drop-drop (length new) at (with_words p at new))
      ∙ ap (drop (length new)) words-from
      ∙ drop-append_seam new (drop (at + length new) p)

  pub words_earlier : (i n : ℕ) → i + n ≤ at → take n (drop i (with_words p at new)) ≡ take n (drop i p)
  words_earlier i n h = sym (cut (with_words p at new)) ∙ ap (drop i) same ∙ cut p
    where
      count : i + n - i ≡ n
      count = omega arith

      cut : (l : List ℕ) → drop i (take (i + n) l) ≡ take n (drop i l)
      cut l = slice-part i (i + n) l ∙ ap (λ k. take k (drop i l)) count

      same : take (i + n) (with_words p at new) ≡ take (i + n) p
      same = sym (take-take (i + n) at (with_words p at new) h) ∙ ap (take (i + n)) words-before ∙ take-take (i + n) at p h

  pub words_later : (i : ℕ) → at + length new ≤ i → drop i (with_words p at new) ≡ drop i p
  words_later i h =
      ap (λ k. drop k (with_words p at new)) place
      ∙ sym (drop-drop (i - (at + length new)) (at + length new) (with_words p at new))
      ∙ ap (drop (i - (at + length new))) words-after
      ∙ drop-drop (i - (at + length new)) (at + length new) p
      ∙ ap (λ k. drop k p) (sym place)
    where
      place : i ≡ at + length new + (i - (at + length new))
      place = omega arith

  words_room : at ≤ length (with_words p at new)
  words_room = omega (arith, length-append (take at p) (new ++ drop (at + length new) p), length-take-le at p room)

  pub words-behind-words : (more : List ℕ) → with_words (with_words p at new) (at + length new) more ≡ with_words p at (new ++ more)
  words-behind-words more =
      ap₂ (λ f g. f ++ (more ++ g)) first last
      ∙ append_assoc (take at p) new (more ++ drop (at + length (new ++ more)) p)
      ∙ ap (λ f. take at p ++ f) (sym (append_assoc new more (drop (at + length (new ++ more)) p)))
    where
      first : take (at + length new) (with_words p at new) ≡ take at p ++ new
      first = take-add at (length new) (with_words p at new) ∙ ap₂ ◌++◌ words-before words_there

      count : at + length new + length more ≡ at + length (new ++ more)
      count = omega (arith, length-append new more)

      last : drop (at + length new + length more) (with_words p at new) ≡ drop (at + length (new ++ more)) p
      last = words_later (at + length new + length more) (omega arith) ∙ ap (λ k. drop k p) count

  -- Other words in their place, no fewer.
  pub words-over : (more : List ℕ) → length new ≤ length more → with_words (with_words p at new) at more ≡ with_words p at more
  words-over more fewer = ap₂ (λ f g. f ++ (more ++ g)) words-before (words_later (at + length more) (omega arith))

-- Words put in further on leave those before them.
pub words-past : (p : List ℕ) (at n : ℕ) (more : List ℕ) → at + n ≤ length p → with_words p (at + n) more ≡ with_words p at (take n (drop at p) ++ more)
words-past p at n more room =
    ap₂ (λ q k. with_words q k more) (sym (words_again p at kept (ap (λ k. take k (drop at p)) count))) (ap (λ k. at + k) (sym count))
    ∙ words-behind-words p at kept (omega arith) more
  where
    kept : List ℕ
    kept = take n (drop at p)

    count : length kept ≡ n
    count = length-take-le n (drop at p) (omega (arith, length-drop at p))

pub length_with : (p : List ℕ) (at : ℕ) (new : List ℕ) → at + length new ≤ length p → length (with_words p at new) ≡ length p
length_with p at new room =
    length-append (take at p) (new ++ drop (at + length new) p)
    ∙ ap₂ ◌+◌ (length-take-le at p (omega arith))
    (length-append new (drop (at + length new) p) ∙ ap (λ k. length new + k) (length-drop (at + length new) p))
    ∙ omega arith

-- ---- an operator's row behind its operands
-- A row behind rows that stand.
row-behind : (p : List ℕ) (n e : ℕ) (f : List Row) (row : Row) → row_start n ≤ length p → FullRows f → Holds p n f → e ≡ n + length f
    → with_row p e row ≡ with_words p (row_start n) (words_of (f ++ row ∷ []))
row-behind p n e f row room full h place =
    ap₂ (λ q at. with_words q at row) (sym (words_again p (row_start n) (words_of f) held)) start
    ∙ words-behind-words p (row_start n) (words_of f) room row
    ∙ ap (with_words p (row_start n)) (sym (words-behind f row))
  where
    held : take (length (words_of f)) (drop (row_start n) p) ≡ words_of f
    held = ap (λ k. take k (drop (row_start n) p)) (length-words_of f full) ∙ h

    start : row_start e ≡ row_start n + length (words_of f)
    start = omega (arith, length-words_of f full)

-- Rows that stand one behind the other.
holds_both : (p : List ℕ) (n : ℕ) (f g : List Row) → Holds p n f → Holds p (n + length f) g → Holds p n (f ++ g)
holds_both p n f g h k =
    ap (λ m. take m (drop (row_start n) p)) count
    ∙ take-add (row_length * length f) (row_length * length g) (drop (row_start n) p)
    ∙ ap₂ ◌++◌ h (ap (take (row_length * length g)) (drop-drop (row_length * length f) (row_start n) p ∙ ap (λ m. drop m p) place) ∙ k)
    ∙ sym (words-both f g)
  where
    count : row_length * length (f ++ g) ≡ row_length * length f + row_length * length g
    count = omega (arith, length-append f g)

    place : row_start n + row_length * length f ≡ row_start (n + length f)
    place = omega arith

-- The first of such rows.
holds_left : (p : List ℕ) (n : ℕ) (f g : List Row) → FullRows f → Holds p n (f ++ g) → Holds p n f
holds_left p n f g full h =
    sym (take-take (row_length * length f) (row_length * length (f ++ g)) (drop (row_start n) p) (omega (arith, length-append f g)))
    ∙ ap (take (row_length * length f)) (h ∙ words-both f g)
    ∙ take_at (words_of f) (words_of g) (row_length * length f) (length-words_of f full)

-- A tree whose operands stand, and its root's row behind them.
root_behind : (p : List ℕ) (n e : ℕ) (whole : Span) (f : Folded) → row_start n ≤ length p → FullRows (operand_rows n f) → Holds p n (operand_rows n f)
    → e ≡ n + length (operand_rows n f) → with_row p e (root_words n f whole) ≡ placed p n whole f
root_behind p n e whole f room full h place =
    row-behind p n e (operand_rows n f) (root_words n f whole) room full h place
    ∙ ap (λ rows. with_words p (row_start n) (words_of rows)) (sym (root_last n whole f))

module _ (p : List ℕ) (n e : ℕ) (s : Span) (a : Folded) (room : row_start n ≤ length p) (left : Stands p n s a) (place : e ≡ n + row_count a)
    (whole : Span) where
  behind_one : (f : Folded) → operand_rows n f ≡ rows_from n s a → with_row p e (root_words n f whole) ≡ placed p n whole f
  behind_one f operand =
      root_behind p n e whole f room (subst FullRows (sym operand) (rows_of n s a).full) (subst (Holds p n) (sym operand) (holds_tree p n s a left))
      (omega (arith, place, ap length operand, (rows_of n s a).count))

  pub minus-placed : with_row p e (row_words 6 (e - 1) 0 [] whole) ≡ placed p n whole (minus_row s a)
  unfolding operand_rows kind_of word_a_of word_b_of
  minus-placed = ap (λ m. with_row p e (row_words 6 (m - 1) 0 [] whole)) place ∙ behind_one (minus_row s a) refl

  pub power-placed : (m : ℕ) → with_row p e (row_words 7 (e - 1) m [] whole) ≡ placed p n whole (power_row s a m)
  unfolding operand_rows kind_of word_a_of word_b_of
  power-placed m = ap (λ k. with_row p e (row_words 7 (k - 1) m [] whole)) place ∙ behind_one (power_row s a m) refl

module _ (p : List ℕ) (n e : ℕ) (s : Spans) (a b : Folded) (room : row_start n ≤ length p) (left : Stands p n s.left a)
    (right : Stands p (n + row_count a) s.right b) (place : e ≡ n + row_count a + row_count b) (whole : Span) where
  rows : List Row
  rows = rows_from n s.left a ++ rows_from (n + row_count a) s.right b

  behind-both : (f : Folded) → operand_rows n f ≡ rows → with_row p e (root_words n f whole) ≡ placed p n whole f
  unfolding rows
  behind-both f operands =
      root_behind p n e whole f room
      (subst FullRows (sym operands)
      (full_append (rows_from n s.left a) (rows_from (n + row_count a) s.right b) first.full (rows_of (n + row_count a) s.right b).full))
      (subst (Holds p n) (sym operands)
      (holds_both p n (rows_from n s.left a) (rows_from (n + row_count a) s.right b) (holds_tree p n s.left a left) second))
      (omega (
        arith,
        place,
        ap length operands,
        length-append (rows_from n s.left a) (rows_from (n + row_count a) s.right b),
        first.count,
        (rows_of (n + row_count a) s.right b).count,
      ))
    where
      first : Rows (row_count a) (rows_from n s.left a)
      first = rows_of n s.left a

      second : Holds p (n + length (rows_from n s.left a)) (rows_from (n + row_count a) s.right b)
      second = rw (rows_of n s.left a).count (holds_tree p (n + row_count a) s.right b right)

  -- The row of an operator of kind k.
  operator-placed : (k : ℕ) (f : Folded) → operand_rows n f ≡ rows
      → root_words n f whole ≡ row_words k (root_row n a) (root_row (n + row_count a) b) [] whole
      → with_row p e (row_words k (n + row_count a - 1) (e - 1) [] whole) ≡ placed p n whole f
  operator-placed k f operands same =
      ap (λ m. with_row p e (row_words k (n + row_count a - 1) (m - 1) [] whole)) place ∙ ap (with_row p e) (sym same) ∙ behind-both f operands

  pub sum-row-placed : with_row p e (row_words 3 (n + row_count a - 1) (e - 1) [] whole) ≡ placed p n whole (sum_row s a b)
  unfolding operand_rows kind_of word_a_of word_b_of rows
  sum-row-placed = operator-placed 3 (sum_row s a b) refl refl

  pub difference-row-placed : with_row p e (row_words 4 (n + row_count a - 1) (e - 1) [] whole) ≡ placed p n whole (difference_row s a b)
  unfolding operand_rows kind_of word_a_of word_b_of rows
  difference-row-placed = operator-placed 4 (difference_row s a b) refl refl

  pub product-row-placed : with_row p e (row_words 5 (n + row_count a - 1) (e - 1) [] whole) ≡ placed p n whole (product_row s a b)
  unfolding operand_rows kind_of word_a_of word_b_of rows
  product-row-placed = operator-placed 5 (product_row s a b) refl refl

  pub raise-row-placed : with_row p e (row_words 8 (n + row_count a - 1) (e - 1) [] whole) ≡ placed p n whole (raise_row s a b)
  unfolding operand_rows kind_of word_a_of word_b_of rows
  raise-row-placed = operator-placed 8 (raise_row s a b) refl refl

-- ---- a tree put into a plan
module _ (p : List ℕ) (n : ℕ) (whole : Span) (a : Folded) where
  -- Put where it stands already, it alters nothing.
  pub placed_again : Stands p n whole a → placed p n whole a ≡ p
  placed_again h =
      words_again p (row_start n) (words_of (rows_from n whole a)) (ap (λ k. take k (drop (row_start n) p)) (length-tree n whole a) ∙ h)

  behind : row_start n + length (words_of (rows_from n whole a)) ≡ row_start (n + row_count a)
  behind = omega (arith, length-tree n whole a)

  pub length-placed : row_start (n + row_count a) ≤ length p → length (placed p n whole a) ≡ length p
  length-placed room = length_with p (row_start n) (words_of (rows_from n whole a)) (omega (arith, behind))

  module _ (room : row_start n ≤ length p) where
    pub placed-stands : Stands (placed p n whole a) n whole a
    placed-stands =
        ap (λ k. take k (drop (row_start n) (placed p n whole a))) (sym (length-tree n whole a))
        ∙ words_there p (row_start n) (words_of (rows_from n whole a)) room

    pub room_left : row_start n ≤ length (placed p n whole a)
    room_left = words_room p (row_start n) (words_of (rows_from n whole a)) room

    -- What stands before it stays, and so do all words before and behind it.
    pub placed-before : take (row_start n) (placed p n whole a) ≡ take (row_start n) p
    placed-before = words-before p (row_start n) (words_of (rows_from n whole a)) room

    pub placed-after : drop (row_start (n + row_count a)) (placed p n whole a) ≡ drop (row_start (n + row_count a)) p
    placed-after = words_later p (row_start n) (words_of (rows_from n whole a)) room (row_start (n + row_count a)) (omega (arith, behind))

    pub earlier_stands : (m : ℕ) (s : Span) (b : Folded) → m + row_count b ≤ n → Stands p m s b → Stands (placed p n whole a) m s b
    earlier_stands m s b h stands =
        words_earlier p (row_start n) (words_of (rows_from n whole a)) room (row_start m) (row_length * row_count b) (omega arith) ∙ stands

    -- Another tree of no fewer rows put over it.
    pub placed-over : (s : Span) (b : Folded) → row_count a ≤ row_count b → placed (placed p n whole a) n s b ≡ placed p n s b
    placed-over s b fewer =
        words-over p (row_start n) (words_of (rows_from n whole a)) room (words_of (rows_from n s b)) (omega (arith, length-tree n whole a, length-tree n s b))

-- ---- a span put into a row
-- The words of a row before its span, and a span put behind them.
before-span : (p : List ℕ) (r : ℕ) → take span_start (Plan.row p r) ≡ take span_start (drop (row_start r) p)
before-span p r = ap (take span_start) (row-part p r) ∙ take-take span_start (row_start r + row_length - row_start r) (drop (row_start r) p) (omega arith)

pub span_stored : (p : List ℕ) (r x y : ℕ) {at : ℕ} → row_start r + row_length ≤ length p → at ≡ row_start r + span_start
    → set (set p at x) (at + 1) y ≡ with_row p r (with_span (Plan.row p r) (span x y))
span_stored p r x y room place =
    ap (λ k. set (set p k x) (k + 1) y) place
    ∙ ap (λ k. set (set p (row_start r + span_start) x) k y) (add-one (row_start r + span_start))
    ∙ sets-eq (x ∷ y ∷ []) p (row_start r + span_start) (omega arith)
    ∙ append_assoc (take (row_start r + span_start) p) (x ∷ y ∷ []) (drop (row_start r + span_start + 2) p)
    ∙ words-past p (row_start r) span_start (x ∷ y ∷ []) (omega arith)
    ∙ ap (λ f. with_row p r (f ++ x ∷ y ∷ [])) (sym (before-span p r))

-- A span put into a row that was written right before, whatever stands behind its elements.
pub span-behind : (p : List ℕ) (r k a b : ℕ) (e l : List ℕ) (whole : Span) {q new : List ℕ} → row_start r ≤ length p → length e ≡ element_count
    → length l ≤ 2 → q ≡ with_row p r (k ∷ a ∷ b ∷ e ++ l) → new ≡ with_row q r (with_span (Plan.row q r) whole)
    → new ≡ with_row p r (k ∷ a ∷ b ∷ e ++ Tree.first whole ∷ Tree.end whole ∷ [])
span-behind p r k a b e l whole room long few written put =
    put
    ∙ ap (λ q. with_row q r (with_span (Plan.row q r) whole)) written
    ∙ ap (λ f. with_row (with_row p r row) r (f ++ Tree.first whole ∷ Tree.end whole ∷ [])) there
    ∙ words-over p (row_start r) row room (k ∷ a ∷ b ∷ e ++ Tree.first whole ∷ Tree.end whole ∷ [])
    (omega (arith, few, length-append e l, length-append e (Tree.first whole ∷ Tree.end whole ∷ [])))
  where
    row : Row
    row = k ∷ a ∷ b ∷ e ++ l

    behind : List ℕ
    behind = drop (row_start r + length row) p

    there : take span_start (Plan.row (with_row p r row) r) ≡ k ∷ a ∷ b ∷ e
    there =
        before-span (with_row p r row) r
        ∙ ap (take span_start) (words-from p (row_start r) row room)
        ∙ ap {B = List ℕ} (λ f. k ∷ a ∷ b ∷ f) (ap (take element_count) (append_assoc e l behind) ∙ take_at e (l ++ behind) element_count long)

-- The rows of the operands of a tree that stands.
operands_full : (n : ℕ) (s : Span) (a : Folded) → FullRows (operand_rows n a)
operands_full n s a = full_left (operand_rows n a) (root_words n a s ∷ []) (subst FullRows (root_last n s a) (rows_of n s a).full)

operands_hold : (p : List ℕ) (n : ℕ) (s : Span) (a : Folded) → Stands p n s a → Holds p n (operand_rows n a)
operands_hold p n s a h =
    holds_left p n (operand_rows n a) (root_words n a s ∷ []) (operands_full n s a) (subst (Holds p n) (root_last n s a) (holds_tree p n s a h))

-- A span put into the row of a root: the tree stands there under that span, and every other word is as it was.
pub span-placed : (p : List ℕ) (n e : ℕ) (s whole : Span) (a : Folded) → row_start n ≤ length p → e ≡ n + row_count a → Stands p n s a
    → with_row p (e - 1) (with_span (Plan.row p (e - 1)) whole) ≡ placed p n whole a
span-placed p n e s whole a room place h =
    ap (λ (row : Row). with_row p (e - 1) (with_span row whole)) (ap (λ m. Plan.row p (m - 1)) place ∙ root_stands p n s a h)
    ∙ ap (with_row p (e - 1)) (respanned n a s whole)
    ∙ root_behind p n (e - 1) whole a room (operands_full n s a) (operands_hold p n s a h) (omega (arith, place, operand-count n s a))

-- ---- rows moved down by one
full_first : (i : ℕ) (f : List Row) → FullRows f → FullRows (take i f)
full_first i f h = full_left (take i f) (drop i f) (subst FullRows (sym (take-append-drop i f)) h)

-- Rows, each lowered.
abbrev pub all_lowered : List Row → List Row
all_lowered f = map (λ (row : Row). lowered row) f

full_lowered : (f : List Row) → FullRows f → FullRows (all_lowered f)
unfolding FullRows
full_lowered [] h = tt
full_lowered (row ∷ f) h = (ap (λ k. suc (suc (suc k))) long, full_lowered f h.1)
  where
    long : length (elements row ++ first_byte row ∷ end_byte row ∷ []) ≡ element_count + 2
    long = length-append (elements row) (first_byte row ∷ end_byte row ∷ []) ∙ ap (λ k. k + 2) (length-elements row h.0)

-- Rows that stand from row n + 1 on: after i moves the first i of them stand lowered from row n on, and the others where they stood.
module _ (p : List ℕ) (n : ℕ) (f : List Row) (room : row_start n ≤ length p) (full : FullRows f) (h : Holds p (suc n) f) where
  abbrev moved : ℕ → List ℕ
  moved i = words_of (all_lowered (take i f))

  moved-count : (i : ℕ) → i ≤ length f → length (moved i) ≡ row_length * i
  moved-count i within =
      length-words_of (all_lowered (take i f)) (full_lowered (take i f) (full_first i f full))
      ∙ ap (λ k. row_length * k) (length-map (take i f) (λ (row : Row). lowered row) ∙ length-take-le i f within)

  moved_more : (i : ℕ) → i < length f → moved (suc i) ≡ moved i ++ lowered (get_or f i [])
  moved_more i within =
      ap (λ g. words_of (all_lowered g)) (take-suc f i [] within)
      ∙ ap words_of (map-append (λ (row : Row). lowered row) (take i f) (get_or f i [] ∷ []))
      ∙ words-behind (all_lowered (take i f)) (lowered (get_or f i []))

  next_untouched : (i : ℕ) → i < length f → Plan.row (with_words p (row_start n) (moved i)) (suc n + i) ≡ get_or f i []
  next_untouched i within =
      row-part (with_words p (row_start n) (moved i)) (suc n + i)
      ∙ ap (take (row_start (suc n + i) + row_length - row_start (suc n + i)))
      (words_later p (row_start n) (moved i) room (row_start (suc n + i)) (omega (arith, moved-count i (omega arith))))
      ∙ sym (row-part p (suc n + i))
      ∙ row_held p (suc n) f full h i within

  moved_to : (i : ℕ) → i ≤ length f → moved_down (suc n) i p ≡ with_words p (row_start n) (moved i)
  unfolding moved_down words_of
  moved_to zero within = sym (words_again p (row_start n) [] refl)
  moved_to (suc i) within =
      ap (λ q. with_row q (suc n + i - 1) (lowered (Plan.row q (suc n + i)))) (moved_to i (omega arith))
      ∙ ap₂ (λ at row. with_words (with_words p (row_start n) (moved i)) at (lowered row)) place (next_untouched i within)
      ∙ words-behind-words p (row_start n) (moved i) room (lowered (get_or f i []))
      ∙ ap (with_words p (row_start n)) (sym (moved_more i within))
    where
      place : row_start (suc n + i - 1) ≡ row_start n + length (moved i)
      place = omega (arith, moved-count i (omega arith))

  moved_all : moved_down (suc n) (length f) p ≡ with_words p (row_start n) (words_of (all_lowered f))
  moved_all = moved_to (length f) (omega arith) ∙ ap (λ g. with_words p (row_start n) (words_of (all_lowered g))) (take-length f)

-- The rows of a tree one row further down.
same_words : (k a b : ℕ) (f : List ℕ) (s : Span)
    → k ∷ a ∷ b ∷ elements (row_words k a b f s) ++ first_byte (row_words k a b f s) ∷ end_byte (row_words k a b f s) ∷ [] ≡ row_words k a b f s
same_words k a b f s =
    λ i. k ∷ a ∷ b ∷ (row-elements f (Tree.first s ∷ Tree.end s ∷ []) i ++ first_back k a b f s i ∷ end_back k a b f s i ∷ [])

module _ (n : ℕ) (s : Span) (a : Folded) where
  root_below : root_row (suc n) a - 1 ≡ root_row n a
  root_below = omega arith

  lowered_one : (k b : ℕ) → row_words k (root_row (suc n) a - 1) b [] s ≡ row_words k (root_row n a) b [] s
  lowered_one k b = ap (λ x. row_words k x b [] s) root_below

  lowered-both : (k : ℕ) (b : Folded)
      → row_words k (root_row (suc n) a - 1) (root_row (suc n + row_count a) b - 1) [] s ≡ row_words k (root_row n a) (root_row (n + row_count a) b) [] s
  lowered-both k b = ap₂ (λ x y. row_words k x y [] s) root_below second
    where
      second : suc n + row_count a + row_count b - 1 - 1 ≡ n + row_count a + row_count b - 1
      second = omega arith

root_lowered : (n : ℕ) (s : Span) (a : Folded) → lowered (root_words (suc n) a s) ≡ root_words n a s
unfolding kind_facts kind_of word_a_of word_b_of
root_lowered n s (constant c) = same_words 0 0 0 (c ∷ []) s
root_lowered n s (sum_chain f) = same_words 1 (length f - 1) 0 f s
root_lowered n s (product_chain f) = same_words 2 (length f - 1) 0 f s
root_lowered n s (sum_row t a b) = same_words 3 _ _ [] s ∙ lowered-both n s a 3 b
root_lowered n s (difference_row t a b) = same_words 4 _ _ [] s ∙ lowered-both n s a 4 b
root_lowered n s (product_row t a b) = same_words 5 _ _ [] s ∙ lowered-both n s a 5 b
root_lowered n s (minus_row t a) = same_words 6 _ _ [] s ∙ lowered_one n s a 6 0
root_lowered n s (power_row t a m) = same_words 7 _ _ [] s ∙ lowered_one n s a 7 m
root_lowered n s (raise_row t a b) = same_words 8 _ _ [] s ∙ lowered-both n s a 8 b

behind-lowered : (n : ℕ) (s : Span) (a : Folded) → all_lowered (operand_rows (suc n) a) ≡ operand_rows n a
    → all_lowered (rows_from (suc n) s a) ≡ rows_from n s a
behind-lowered n s a operands =
    ap (λ f. all_lowered f) (root_last (suc n) s a)
    ∙ map-append (λ (row : Row). lowered row) (operand_rows (suc n) a) (root_words (suc n) a s ∷ [])
    ∙ ap₂ (λ f (row : Row). f ++ row ∷ []) operands (root_lowered n s a)
    ∙ sym (root_last n s a)

both-lowered : (n : ℕ) (t : Spans) (a b : Folded) → all_lowered (rows_from (suc n) t.left a) ≡ rows_from n t.left a
    → all_lowered (rows_from (suc (n + row_count a)) t.right b) ≡ rows_from (n + row_count a) t.right b
    → all_lowered (rows_from (suc n) t.left a ++ rows_from (suc n + row_count a) t.right b)
    ≡ rows_from n t.left a ++ rows_from (n + row_count a) t.right b
both-lowered n t a b left right =
    map-append (λ (row : Row). lowered row) (rows_from (suc n) t.left a) (rows_from (suc n + row_count a) t.right b)
    ∙ ap₂ ◌++◌ left (ap (λ m. all_lowered (rows_from m t.right b)) (suc-add n (row_count a)) ∙ right)

pub rows-lowered : (n : ℕ) (s : Span) (a : Folded) → all_lowered (rows_from (suc n) s a) ≡ rows_from n s a
unfolding operand_rows
rows-lowered n s (constant c) = behind-lowered n s (constant c) refl
rows-lowered n s (sum_chain f) = behind-lowered n s (sum_chain f) refl
rows-lowered n s (product_chain f) = behind-lowered n s (product_chain f) refl
rows-lowered n s (sum_row t a b) =
    behind-lowered n s (sum_row t a b) (both-lowered n t a b (rows-lowered n t.left a) (rows-lowered (n + row_count a) t.right b))
rows-lowered n s (difference_row t a b) =
    behind-lowered n s (difference_row t a b) (both-lowered n t a b (rows-lowered n t.left a) (rows-lowered (n + row_count a) t.right b))
rows-lowered n s (product_row t a b) =
    behind-lowered n s (product_row t a b) (both-lowered n t a b (rows-lowered n t.left a) (rows-lowered (n + row_count a) t.right b))
rows-lowered n s (minus_row t a) = behind-lowered n s (minus_row t a) (rows-lowered n t a)
rows-lowered n s (power_row t a m) = behind-lowered n s (power_row t a m) (rows-lowered n t a)
rows-lowered n s (raise_row t a b) =
    behind-lowered n s (raise_row t a b) (both-lowered n t a b (rows-lowered n t.left a) (rows-lowered (n + row_count a) t.right b))

pub moved-placed : (p : List ℕ) (n : ℕ) (s : Span) (a : Folded) → row_start n ≤ length p → Stands p (suc n) s a
    → moved_down (suc n) (row_count a) p ≡ placed p n s a
moved-placed p n s a room h =
    ap (λ k. moved_down (suc n) k p) (sym (rows_of (suc n) s a).count)
    ∙ moved_all p n (rows_from (suc n) s a) room (rows_of (suc n) s a).full (holds_tree p (suc n) s a h)
    ∙ ap (λ f. with_words p (row_start n) (words_of f)) (rows-lowered n s a)
