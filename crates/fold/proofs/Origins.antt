-- Where the rows of a folded tree come from: each is the root row of what some part of the formula folds to, under that part's span. And a root row
-- under another span.
use mathlib.Core.Path.{◌≡◌, refl, sym, ap, ap₂, subst, ◌∙◌}
use mathlib.Core.List.{List, [], ◌∷◌, ◌++◌}
use Prim.Native.Nat.{ℕ, zero, suc, ◌+◌, ◌-◌, ◌<◌}
use native.Mathlib.Nat.{not-suc-le-zero, le_of_suc-le-suc}
use lib.ListN.{length, get_or, take}
use Rattle.word.specs.Word as Word
use Rattle.chain.specs.Chain.{rest, words, trimmed}
use Rattle.chain.specs.ProductChain as ProductChain
use Rattle.formula.specs.Tree.{Span, first, end, Tree, span_of}
use Rattle.formula.specs.Refusals.{Part, itself, sum_left, sum-right, difference-left, difference-right, product-left, product-right}
use Rattle.formula.specs.Refusals.{under-minus, under-power, in_base, in_exponent}
use Rattle.plan.specs.Measures.{span_start}
use Rattle.plan.specs.Row.{Row, first_byte, end_byte}
use Rattle.fold.specs.Folded.{Spans, Folded, constant, sum_chain, product_chain, sum_row, difference_row, product_row, minus_row, power_row, raise_row}
use Rattle.fold.specs.Folded.{elements, of_sum, of_product, trimmed_sum, trimmed_product}
use Rattle.fold.specs.Folding.{word_of, fold_sum, fold_minus, fold_difference, fold_product, fold_power, fold_raise, operands, fold}
use Rattle.fold.specs.Layout.{row_count, row_words, root_row, rows_from}
use Rattle.fold.proofs.Rules.{sum-rules, minus-rules, difference-rules, product-rules, power-rules, raise-rules}
use Rattle.fold.proofs.ReadBack.{row-elements, first_back, end_back, rows_of}

-- ---- the root row of a tree whose first row is row n, behind the rows of its operands: its kind, the words a and b, and its elements
unfoldable pub kind_of : Folded → ℕ
kind_of (constant c) = 0
kind_of (sum_chain f) = 1
kind_of (product_chain f) = 2
kind_of (sum_row s a b) = 3
kind_of (difference_row s a b) = 4
kind_of (product_row s a b) = 5
kind_of (minus_row s a) = 6
kind_of (power_row s a n) = 7
kind_of (raise_row s a b) = 8

unfoldable pub word_a_of : ℕ → Folded → ℕ
word_a_of n (constant c) = 0
word_a_of n (sum_chain f) = length f - 1
word_a_of n (product_chain f) = length f - 1
word_a_of n (sum_row s a b) = root_row n a
word_a_of n (difference_row s a b) = root_row n a
word_a_of n (product_row s a b) = root_row n a
word_a_of n (minus_row s a) = root_row n a
word_a_of n (power_row s a e) = root_row n a
word_a_of n (raise_row s a b) = root_row n a

unfoldable pub word_b_of : ℕ → Folded → ℕ
word_b_of n (constant c) = 0
word_b_of n (sum_chain f) = 0
word_b_of n (product_chain f) = 0
word_b_of n (sum_row s a b) = root_row (n + row_count a) b
word_b_of n (difference_row s a b) = root_row (n + row_count a) b
word_b_of n (product_row s a b) = root_row (n + row_count a) b
word_b_of n (minus_row s a) = 0
word_b_of n (power_row s a e) = e
word_b_of n (raise_row s a b) = root_row (n + row_count a) b

abbrev pub root_words : ℕ → Folded → Span → Row
root_words n a whole = row_words (kind_of a) (word_a_of n a) (word_b_of n a) (elements a) whole

unfoldable pub operand_rows : ℕ → Folded → List Row
operand_rows n (constant c) = []
operand_rows n (sum_chain f) = []
operand_rows n (product_chain f) = []
operand_rows n (sum_row s a b) = rows_from n s.left a ++ rows_from (n + row_count a) s.right b
operand_rows n (difference_row s a b) = rows_from n s.left a ++ rows_from (n + row_count a) s.right b
operand_rows n (product_row s a b) = rows_from n s.left a ++ rows_from (n + row_count a) s.right b
operand_rows n (minus_row s a) = rows_from n s a
operand_rows n (power_row s a e) = rows_from n s a
operand_rows n (raise_row s a b) = rows_from n s.left a ++ rows_from (n + row_count a) s.right b

pub root_last : (n : ℕ) (whole : Span) (a : Folded) → rows_from n whole a ≡ operand_rows n a ++ root_words n a whole ∷ []
unfolding kind_of word_a_of word_b_of operand_rows rows_from
root_last n whole (constant c) = refl
root_last n whole (sum_chain f) = refl
root_last n whole (product_chain f) = refl
root_last n whole (sum_row s a b) = refl
root_last n whole (difference_row s a b) = refl
root_last n whole (product_row s a b) = refl
root_last n whole (minus_row s a) = refl
root_last n whole (power_row s a e) = refl
root_last n whole (raise_row s a b) = refl

-- The last two words of a root row written over: the tree stands there under the other span.
pub respanned : (n : ℕ) (a : Folded) (s whole : Span) → take span_start (root_words n a s) ++ first whole ∷ end whole ∷ [] ≡ root_words n a whole
respanned n a s whole =
    ap {B = Row} (λ l. kind_of a ∷ word_a_of n a ∷ word_b_of n a ∷ (l ++ first whole ∷ end whole ∷ [])) (row-elements (elements a) (first s ∷ end s ∷ []))

-- The span of a root row is the tree's.
pub root_first : (n : ℕ) (a : Folded) (whole : Span) → first_byte (root_words n a whole) ≡ first whole
root_first n a whole = first_back (kind_of a) (word_a_of n a) (word_b_of n a) (elements a) whole

pub root_end : (n : ℕ) (a : Folded) (whole : Span) → end_byte (root_words n a whole) ≡ end whole
root_end n a whole = end_back (kind_of a) (word_a_of n a) (word_b_of n a) (elements a) whole

-- ---- what holds of each operand and its span, at every depth
unfoldable pub Below : (Span → Folded → Type 0) → Folded → Type 0
Below P (constant c) = Unit {0}
Below P (sum_chain f) = Unit {0}
Below P (product_chain f) = Unit {0}
Below P (sum_row s a b) = (P s.left a × Below P a) × (P s.right b × Below P b)
Below P (difference_row s a b) = (P s.left a × Below P a) × (P s.right b × Below P b)
Below P (product_row s a b) = (P s.left a × Below P a) × (P s.right b × Below P b)
Below P (minus_row s a) = P s a × Below P a
Below P (power_row s a n) = P s a × Below P a
Below P (raise_row s a b) = (P s.left a × Below P a) × (P s.right b × Below P b)

module _ (P : Span → Folded → Type 0) (w : ℕ) where
  -- A chain has no operands.
  of_sum_below : (f : List ℕ) → Below P (of_sum f)
  unfolding Below
  of_sum_below [] = tt
  of_sum_below (a ∷ []) = tt
  of_sum_below (a ∷ b ∷ f) = tt

  of_product_below : (f : List ℕ) → Below P (of_product f)
  unfolding Below
  of_product_below [] = tt
  of_product_below (a ∷ []) = tt
  of_product_below (a ∷ b ∷ f) = tt

  sums_below : (f : List ℕ) → Below P (trimmed_sum f)
  sums_below f = of_sum_below (trimmed 0 f)

  products_below : (f : List ℕ) → Below P (trimmed_product f)
  products_below f = of_product_below (ProductChain.trimmed_product f)

  module _ (s : Span) (a : Folded) (h : P s a × Below P a) where
    minus_below : Below P (fold_minus w s a)
    unfolding Below
    minus_below =
        minus-rules (Below P) w s a (λ e. tt) (λ e. sums_below _) (λ e. products_below (Word.negation w (word_of a) ∷ rest (elements a))) h

    power_below : (n : ℕ) → Below P (fold_power w s a n)
    unfolding Below
    power_below n =
        power-rules (Below P) w s a n (λ e. tt) (λ e. tt) (λ e. h.1) (λ e. sums_below _)
        (λ e. products_below (words w (ProductChain.power_of_each (elements a) n))) (λ some more. h)

  module _ (s : Spans) (a b : Folded) (h : P s.left a × Below P a) (k : P s.right b × Below P b) where
    sum_below : Below P (fold_sum w s a b)
    unfolding Below
    sum_below = sum-rules (Below P) w s a b (λ e. tt) (λ e. sums_below _) (λ e. h.1) (λ e. k.1) (h, k)

    difference_below : Below P (fold_difference w s a b)
    unfolding Below
    difference_below =
        difference-rules (Below P) w s a b (λ e. tt) (λ e. sums_below _) (λ e. h.1) (λ e. minus_below s.right b k) (h, k)

    product_below : Below P (fold_product w s a b)
    unfolding Below
    product_below =
        product-rules (Below P) w s a b (λ e. tt) (λ e. k.1) (λ e. h.1) (λ e. tt) (λ e. sums_below _) (λ e. sums_below _)
        (λ e. products_below (words w (ProductChain.scaled_first (word_of a) (elements b))))
        (λ e. products_below (words w (ProductChain.scaled_first (word_of b) (elements a))))
        (λ e. products_below (words w (ProductChain.joint_product (elements a) (elements b))))
        (λ e. sums_below _) (h, k)

    raise_below : Below P (fold_raise w s a b)
    unfolding Below
    raise_below =
        raise-rules (Below P) w s a b (λ e. tt) (λ e. products_below (words w (ProductChain.raised (word_of a) (elements b)))) (h, k)

  -- What holds of what each part of a formula folds to, under its span, holds of each operand that stays.
  pub fold_below : (start step : ℕ) (t : Tree) → ((u : Tree) → Part u t → P (span_of u) (fold w start step u)) → Below P (fold w start step t)
  unfolding fold Below
  fold_below start step (Tree.number s p v) each = tt
  fold_below start step (Tree.variable s) each = sums_below _
  fold_below start step (Tree.sum s a b) each =
      sum_below (operands a b) _ _ (each a (sum_left itself), fold_below start step a (λ u k. each u (sum_left k)))
      (each b (sum-right itself), fold_below start step b (λ u k. each u (sum-right k)))
  fold_below start step (Tree.difference s a b) each =
      difference_below (operands a b) _ _ (each a (difference-left itself), fold_below start step a (λ u k. each u (difference-left k)))
      (each b (difference-right itself), fold_below start step b (λ u k. each u (difference-right k)))
  fold_below start step (Tree.product s a b) each =
      product_below (operands a b) _ _ (each a (product-left itself), fold_below start step a (λ u k. each u (product-left k)))
      (each b (product-right itself), fold_below start step b (λ u k. each u (product-right k)))
  fold_below start step (Tree.minus s a) each =
      minus_below (span_of a) _ (each a (under-minus itself), fold_below start step a (λ u k. each u (under-minus k)))
  fold_below start step (Tree.literal_power s a p n) each =
      power_below (span_of a) _ (each a (under-power itself), fold_below start step a (λ u k. each u (under-power k))) n
  fold_below start step (Tree.raise s a p b) each =
      raise_below (operands a b) _ _ (each a (in_base itself), fold_below start step a (λ u k. each u (in_base k)))
      (each b (in_exponent itself), fold_below start step b (λ u k. each u (in_exponent k)))

-- ---- each row is the root row of such a tree
unfoldable pub AllRows : (Row → Type 0) → List Row → Type 0
AllRows Q [] = Unit {0}
AllRows Q (x ∷ f) = Q x × AllRows Q f

pub all_both : (Q : Row → Type 0) (f g : List Row) → AllRows Q f → AllRows Q g → AllRows Q (f ++ g)
unfolding AllRows
all_both Q [] g h k = k
all_both Q (x ∷ f) g h k = (h.0, all_both Q f g h.1 k)

pub all_at : (Q : Row → Type 0) (f : List Row) → AllRows Q f → (r : ℕ) → r < length f → Q (get_or f r [])
unfolding AllRows
all_at Q [] h r within = absurd (not-suc-le-zero within)
all_at Q (x ∷ f) h zero within = h.0
all_at Q (x ∷ f) h (suc r) within = all_at Q f h.1 r (le_of_suc-le-suc within)

pub record RootOf (P : Span → Folded → Type 0) (x : Row) : Type 0 where
  pub whole : Span
  pub tree : Folded
  pub from : ℕ
  pub holds : P whole tree
  pub words : x ≡ root_words from tree whole

module _ (P : Span → Folded → Type 0) where
  behind : (n : ℕ) (whole : Span) (a : Folded) → AllRows (RootOf P) (operand_rows n a) → P whole a → AllRows (RootOf P) (rows_from n whole a)
  unfolding AllRows
  behind n whole a h k =
      subst (AllRows (RootOf P)) (sym (root_last n whole a))
      (all_both (RootOf P) (operand_rows n a) (root_words n a whole ∷ []) h (record { whole = whole; tree = a; from = n; holds = k; words = refl }, tt))

  both-rows : (n : ℕ) (s : Spans) (a b : Folded) → AllRows (RootOf P) (rows_from n s.left a) → AllRows (RootOf P) (rows_from (n + row_count a) s.right b)
      → AllRows (RootOf P) (rows_from n s.left a ++ rows_from (n + row_count a) s.right b)
  both-rows n s a b h k = all_both (RootOf P) (rows_from n s.left a) (rows_from (n + row_count a) s.right b) h k

  all-rows : (a : Folded) → Below P a → (n : ℕ) (whole : Span) → P whole a → AllRows (RootOf P) (rows_from n whole a)
  unfolding Below AllRows operand_rows
  all-rows (constant c) h n whole k = behind n whole (constant c) tt k
  all-rows (sum_chain f) h n whole k = behind n whole (sum_chain f) tt k
  all-rows (product_chain f) h n whole k = behind n whole (product_chain f) tt k
  all-rows (sum_row s a b) h n whole k =
      behind n whole (sum_row s a b)
      (both-rows n s a b (all-rows a h.0.1 n s.left h.0.0) (all-rows b h.1.1 (n + row_count a) s.right h.1.0)) k
  all-rows (difference_row s a b) h n whole k =
      behind n whole (difference_row s a b)
      (both-rows n s a b (all-rows a h.0.1 n s.left h.0.0) (all-rows b h.1.1 (n + row_count a) s.right h.1.0)) k
  all-rows (product_row s a b) h n whole k =
      behind n whole (product_row s a b)
      (both-rows n s a b (all-rows a h.0.1 n s.left h.0.0) (all-rows b h.1.1 (n + row_count a) s.right h.1.0)) k
  all-rows (minus_row s a) h n whole k = behind n whole (minus_row s a) (all-rows a h.1 n s h.0) k
  all-rows (power_row s a e) h n whole k = behind n whole (power_row s a e) (all-rows a h.1 n s h.0) k
  all-rows (raise_row s a b) h n whole k =
      behind n whole (raise_row s a b)
      (both-rows n s a b (all-rows a h.0.1 n s.left h.0.0) (all-rows b h.1.1 (n + row_count a) s.right h.1.0)) k

-- ---- the rows of a formula's folded tree
-- Row r is the root row of what some part u folds to, and its span is u's.
pub record From (w start step : ℕ) (t : Tree) (x : Row) : Type 0 where
  pub part : Tree
  pub stands : Part part t
  pub from : ℕ
  pub words : x ≡ root_words from (fold w start step part) (span_of part)

pub rows_come : (w start step : ℕ) (t : Tree) (r : ℕ) → r < row_count (fold w start step t)
    → From w start step t (get_or (rows_from 0 (span_of t) (fold w start step t)) r [])
rows_come w start step t r within =
    let found = all_at (RootOf P) (rows_from 0 (span_of t) (fold w start step t))
    (all-rows P (fold w start step t) (fold_below P w start step t (λ u k. (u, k, refl, refl))) 0 (span_of t) (t, itself, refl, refl)) r
    (rw (rows_of 0 (span_of t) (fold w start step t)).count within) in
    record {
      part = found.holds.0;
      stands = found.holds.1;
      from = found.from;
      words = found.words ∙ ap₂ (λ a s. root_words found.from a s) (sym found.holds.3) (sym found.holds.2);
    }
  where
    P : Span → Folded → Type 0
    P s a = (u : Tree) × Part u t × (span_of u ≡ s) × (fold w start step u ≡ a)
