-- The first row of an operand, found from its root: an operator's row names the root of its left or only operand, and that begins at the same row.
use mathlib.Core.Path.{◌≡◌, refl, ap, subst, ◌∙◌}
use mathlib.Core.List.{List, [], ◌∷◌, ◌++◌}
use Prim.Native.Nat.{ℕ, ◌+◌, ◌-◌, ◌≤◌, ◌<◌}
use native.Mathlib.Omega.{arith}
use lib.ListN.{length, get_or, length-append, get_or-append}
use lib.Seq.{get_or_at}
use Rattle.plan.specs.Row.{Row, kind, word_a}
use Rattle.plan.specs.Plan as Plan
use Rattle.formula.specs.Tree.{Span}
use Rattle.fold.specs.Folded.{Folded, constant, sum_chain, product_chain, sum_row, difference_row, product_row, minus_row, power_row, raise_row}
use Rattle.fold.specs.Layout.{row_count, rows_from}
use Rattle.fold.proofs.ReadBack.{rows_of, some_rows}
use Rattle.fold.proofs.Origins.{kind_of, word_a_of, root_words, operand_rows, root_last}
use Rattle.fold_rows.proofs.Stood.{row-stands}
use Rattle.fold_operands.specs.Operands.{One}

module _ (p : List ℕ) (n : ℕ) where
  -- Rows that stand from row n on, one by one.
  abbrev Held : List Row → Type 0
  Held f = (i : ℕ) → i < length f → Plan.row p (n + i) ≡ get_or f i []

  held_first : (f g : List Row) → Held (f ++ g) → Held f
  held_first f g h i within = h i (omega (arith, length-append f g)) ∙ get_or-append f g [] i within

  held_last : (f : List Row) (row : Row) → Held (f ++ row ∷ []) → Plan.row p (n + length f) ≡ row
  held_last f row h = h (length f) (omega (arith, length-append f (row ∷ []))) ∙ get_or_at f row [] [] (length f) refl

  -- ---- a tree by its root: it has one row, or its left or only operand begins where it does
  data Root (a : Folded) : Type 0 where
    leaf : kind_of a ≤ 2 → row_count a ≡ 1 → Root a
    operator : (s : Span) (left : Folded) → 2 < kind_of a → Held (rows_from n s left) → word_a_of n a + 1 ≡ n + row_count left
        → row_count left < row_count a → Root a

  root : (a : Folded) → Held (operand_rows n a) → Root a
  unfolding kind_of word_a_of operand_rows row_count
  root (constant c) h = leaf (omega arith) refl
  root (sum_chain f) h = leaf (omega arith) refl
  root (product_chain f) h = leaf (omega arith) refl
  root (sum_row s a b) h = operator s.left a (omega arith) (held_first (rows_from n s.left a) (rows_from (n + row_count a) s.right b) h) (omega (arith, some_rows a)) (omega arith)
  root (difference_row s a b) h = operator s.left a (omega arith) (held_first (rows_from n s.left a) (rows_from (n + row_count a) s.right b) h) (omega (arith, some_rows a)) (omega arith)
  root (product_row s a b) h = operator s.left a (omega arith) (held_first (rows_from n s.left a) (rows_from (n + row_count a) s.right b) h) (omega (arith, some_rows a)) (omega arith)
  root (minus_row s a) h = operator s a (omega arith) h (omega (arith, some_rows a)) (omega arith)
  root (power_row s a m) h = operator s a (omega arith) h (omega (arith, some_rows a)) (omega arith)
  root (raise_row s a b) h = operator s.left a (omega arith) (held_first (rows_from n s.left a) (rows_from (n + row_count a) s.right b) h) (omega (arith, some_rows a)) (omega arith)

-- ---- the way down from an operand's root
-- Row r is the root of a tree that begins where the operand does.
pub record Reached (p : List ℕ) (first r : ℕ) : Type 0 where
  pub whole : Span
  pub tree : Folded
  pub rows : Held p first (rows_from first whole tree)
  pub last : r + 1 ≡ first + row_count tree

pub reached_root : (p : List ℕ) (first end : ℕ) → One p first end → Reached p first (end - 1)
reached_root p first end (s, a, operand) = record {
  whole = s;
  tree = a;
  rows = λ i within. row-stands p first s a operand.stands i (subst (λ k. i < k) (rows_of first s a).count within);
  last = omega (arith, operand.behind, some_rows a);
}

module _ (p : List ℕ) (first r : ℕ) (reached : Reached p first r) where
  tree : Folded
  tree = reached.tree

  held : Held p first (operand_rows first tree ++ root_words first tree reached.whole ∷ [])
  unfolding tree
  held = subst (Held p first) (root_last first reached.whole tree) reached.rows

  place : r ≡ first + length (operand_rows first tree)
  unfolding tree
  place =
      omega (
        arith,
        reached.last,
        (rows_of first reached.whole tree).count,
        ap length (root_last first reached.whole tree),
        length-append (operand_rows first tree) (root_words first tree reached.whole ∷ []),
      )

  own : Plan.row p r ≡ root_words first tree reached.whole
  own = ap (Plan.row p) place ∙ held_last p first (operand_rows first tree) (root_words first tree reached.whole) held

  by_root : Root p first tree
  by_root = root p first tree (held_first p first (operand_rows first tree) (root_words first tree reached.whole ∷ []) held)

  -- An operator's row leads on to an earlier one.
  pub reached_next : {k a : ℕ} → k ≡ kind (Plan.row p r) → a ≡ word_a (Plan.row p r) → 2 < k → (a < r) × Reached p first a
  unfolding tree
  reached_next {k} {a} ek ea high = go by_root
    where
      named : a ≡ word_a_of first tree
      named = ea ∙ ap (λ (row : Row). word_a row) own

      go : Root p first tree → (a < r) × Reached p first a
      go (leaf low one) = absurd (omega (arith, high, low, ek ∙ ap (λ (row : Row). kind row) own))
      go (operator s left more rows ends fewer) = (
        omega (arith, named, ends, fewer, reached.last),
        record { whole = s; tree = left; rows = rows; last = omega (arith, named, ends) },
      )

  -- Any other row is the tree's only one.
  pub reached_leaf : {k : ℕ} → k ≡ kind (Plan.row p r) → k ≤ 2 → r ≡ first
  unfolding tree
  reached_leaf ek low = go by_root
    where
      go : Root p first tree → r ≡ first
      go (leaf kind one) = omega (arith, one, reached.last)
      go (operator s left high rows ends fewer) = absurd (omega (arith, low, high, ek ∙ ap (λ (row : Row). kind row) own))
