-- The rows of a compiled plan: each stands for a part of the folded tree, and so 01 would fold none of them.
use mathlib.Core.Path.{◌≡◌, refl, sym, ap, ap₂, subst, ◌∙◌}
use mathlib.Core.Bool.{Bool, true, false}
use mathlib.Core.List.{List, ◌++◌}
use Prim.Native.Nat.{ℕ, ◌+◌, ◌-◌, ◌≤◌, ◌<◌}
use native.Mathlib.Nat.{zero-add}
use native.Mathlib.Omega.{arith}
use lib.Dec.{ltb}
use lib.ListN.{get_or}
use borrow.Author.Tests.{ltb-true, ltb-false}
use Rattle.chain.specs.Chain as Chain
use Rattle.formula.specs.Tree.{Span, span, first, end, Tree, span_of}
use Rattle.formula.specs.Refusals.{Accepted}
use Rattle.plan.specs.Plan as Plan
use Rattle.plan.specs.Plan.{row}
use Rattle.fold.specs.Folded.{Spans, Folded, constant, sum_chain, product_chain, sum_row, difference_row, product_row, minus_row, power_row, raise_row}
use Rattle.fold.specs.Folded.{trimmed_sum, trimmed_product}
use Rattle.fold.specs.Folding.{fold}
use Rattle.fold.specs.Layout.{row_count, root_row, rows_from, plan_words}
use Rattle.fold.proofs.Shape.{WellFormed}
use Rattle.fold.proofs.FoldShape.{accepted-formed}
use Rattle.fold.proofs.ReadBack.{some_rows, rows_of, row_back, chain_back}
use Rattle.fold.proofs.Origins.{kind_of, word_a_of, word_b_of, root_words, operand_rows, root_first, root_end, Below, fold_below}
use Rattle.fold.proofs.RowOrder.{Standing, front, later, root_stands, operands_stand}
use Rattle.reason.specs.RowTrees.{span_in, operator_over, tree_over, tree_after, trees, row_tree}
use Rattle.reason.specs.Reasons.{folded_again, Stays}
use Rattle.reason.specs.Answer.{ReasonAnswer}
use Rattle.reason.specs.Explaining.{Explaining, refused, not-counted, no_operator, operator}
use Rattle.reason.proofs.TreeLaws.{earlier_tree}
use Rattle.reason.proofs.OneReason.{only_folding}
use Rattle.reason.proofs.Settled.{fold_settled}

-- ---- a row among those of one or two operands, or behind them
among_one : {R : Type 0} (j n m : ℕ) → j < n + (m + 1) → (j < n + m → R) → (j ≡ n + (m + 1) - 1 → R) → R
among_one {R} j n m most operand own = go (ltb j (n + m)) refl
  where
    go : (t : Bool) → ltb j (n + m) ≡ t → R
    go true e = operand (ltb-true j (n + m) e)
    go false e = own (omega (arith, ltb-false j (n + m) e))

among_both : {R : Type 0} (j n m k : ℕ) → j < n + (m + k + 1) → (j < n + m → R) → (n + m ≤ j → j < n + m + k → R) → (j ≡ n + (m + k + 1) - 1 → R) → R
among_both {R} j n m k most left right own = go (ltb j (n + m)) (ltb j (n + m + k)) refl refl
  where
    go : (t u : Bool) → ltb j (n + m) ≡ t → ltb j (n + m + k) ≡ u → R
    go true u e f = left (ltb-true j (n + m) e)
    go false true e f = right (ltb-false j (n + m) e) (ltb-true j (n + m + k) f)
    go false false e f = own (omega (arith, ltb-false j (n + m + k) f))

span_again : (s : Span) → span (first s) (end s) ≡ s
span_again (span f e) = refl

-- ---- a tree in which nothing is left to fold, and whose rows stand in a plan from row n on
module _ (p : List ℕ) (w : ℕ) where
  -- The last of its rows stands for it, and 01 folds none of them.
  pub record Read (n count : ℕ) (a : Folded) : Type 0 where
    pub root : row_tree p (n + count - 1) ≡ a
    pub rows : (j : ℕ) → n ≤ j → j < n + count → Stays w (row_tree p j)

  abbrev Rows : ℕ → Span → Folded → Type 0
  Rows n s a = Standing (row p) n (rows_from n s a)

  own-tree : (n : ℕ) (whole : Span) (a : Folded) → Rows n whole a → row_tree p (root_row n a) ≡ tree_after p (trees p (root_row n a)) (root_words n a whole)
  own-tree n whole a stands = ap (λ x. tree_after p (trees p (root_row n a)) x) (root_stands (row p) n whole a stands)

  own-span : (n : ℕ) (s : Span) (a : Folded) → Rows n s a → span_in (row p (root_row n a)) ≡ s
  own-span n s a stands = ap (λ x. span_in x) (root_stands (row p) n s a stands) ∙ ap₂ span (root_first n a s) (root_end n a s) ∙ span_again s

  stays_at : (own : ℕ) (a : Folded) → row_tree p own ≡ a → Stays w a → (j : ℕ) → j ≡ own → Stays w (row_tree p j)
  stays_at own a same here j e = subst (Stays w) (sym (ap (λ i. row_tree p i) e ∙ same)) here

  read_leaf : (n : ℕ) (a : Folded) → row_tree p (n + 1 - 1) ≡ a → Stays w a → Read n 1 a
  read_leaf n a same here = record { root = same; rows = λ j least most. stays_at (n + 1 - 1) a same here j (omega arith) }

  -- An operator over one operand: the tree found for that makes its own.
  module _ (s : Span) (a : Folded) (n : ℕ) where
    abbrev behind_one : ℕ
    behind_one = n + (row_count a + 1) - 1

    read_one : (make : Span → Folded → Folded)
        → row_tree p behind_one ≡ make (span_in (row p (root_row n a))) (get_or (trees p behind_one) (root_row n a) (constant 0))
        → Stays w (make s a) → Rows n s a → (Rows n s a → Read n (row_count a) a) → Read n (row_count a + 1) (make s a)
    read_one make own here stands operand = record {
      root = same;
      rows = λ j least most. among_one j n (row_count a) most ((operand stands).rows j least) (stays_at behind_one (make s a) same here j);
    }
      where
        same : row_tree p behind_one ≡ make s a
        same =
            own
            ∙ ap₂ make (own-span n s a stands)
            (earlier_tree p behind_one (root_row n a) (omega (arith, some_rows a)) ∙ (operand stands).root)

  -- Over two: "left operand first".
  module _ (s : Spans) (a b : Folded) (n : ℕ) where
    abbrev middle : ℕ
    middle = n + row_count a

    abbrev behind_two : ℕ
    behind_two = n + (row_count a + row_count b + 1) - 1

    abbrev found : ℕ → Folded
    found i = get_or (trees p behind_two) i (constant 0)

    read-both : (make : Spans → Folded → Folded → Folded)
        → row_tree p behind_two
        ≡ make (record { left = span_in (row p (root_row n a)); right = span_in (row p (root_row middle b)) })
        (found (root_row n a)) (found (root_row middle b))
        → Stays w (make s a b) → Standing (row p) n (rows_from n s.left a ++ rows_from middle s.right b)
        → (Rows n s.left a → Read n (row_count a) a) → (Rows middle s.right b → Read middle (row_count b) b)
        → Read n (row_count a + row_count b + 1) (make s a b)
    read-both make own here stands left right = record {
      root = same;
      rows = λ j least most.
          among_both j n (row_count a) (row_count b) most ((left front_rows).rows j least) ((right later_rows).rows j)
          (stays_at behind_two (make s a b) same here j);
    }
      where
        front_rows : Rows n s.left a
        front_rows = front (row p) n (rows_from n s.left a) (rows_from middle s.right b) stands

        later_rows : Rows middle s.right b
        later_rows = later (row p) n (row_count a) (rows_from n s.left a) (rows_from middle s.right b) (rows_of n s.left a).count stands

        same : row_tree p behind_two ≡ make s a b
        same =
            own
            ∙ ap₂ (λ f e. make (record { left = f; right = e }) (found (root_row n a)) (found (root_row middle b)))
            (own-span n s.left a front_rows) (own-span middle s.right b later_rows)
            ∙ ap₂ (make s)
            (earlier_tree p behind_two (root_row n a) (omega (arith, some_rows a, some_rows b)) ∙ (left front_rows).root)
            (earlier_tree p behind_two (root_row middle b) (omega (arith, some_rows a, some_rows b)) ∙ (right later_rows).root)

  tree-read : (a : Folded) → WellFormed w a → Stays w a → Below (λ s. Stays w) a → (n : ℕ) (whole : Span) → Rows n whole a → Read n (row_count a) a
  unfolding WellFormed Below folded_again tree_over operator_over kind_of word_a_of word_b_of operand_rows row_count Chain.row
  tree-read (constant c) formed here below n whole stands = read_leaf n (constant c) (own-tree n whole (constant c) stands) here
  tree-read (sum_chain f) formed here below n whole stands =
      read_leaf n (sum_chain f) (own-tree n whole (sum_chain f) stands ∙ ap (λ g. trimmed_sum g) (chain_back w 1 f whole formed) ∙ here) here
  tree-read (product_chain f) formed here below n whole stands =
      read_leaf n (product_chain f) (own-tree n whole (product_chain f) stands ∙ ap (λ g. trimmed_product g) (chain_back w 2 f whole formed) ∙ here) here
  tree-read (sum_row s a b) formed here below n whole stands =
      read-both s a b n sum_row (own-tree n whole (sum_row s a b) stands) here (operands_stand (row p) n whole (sum_row s a b) stands)
      (tree-read a formed.0 below.0.0 below.0.1 n s.left) (tree-read b formed.1 below.1.0 below.1.1 (n + row_count a) s.right)
  tree-read (difference_row s a b) formed here below n whole stands =
      read-both s a b n difference_row (own-tree n whole (difference_row s a b) stands) here (operands_stand (row p) n whole (difference_row s a b) stands)
      (tree-read a formed.0 below.0.0 below.0.1 n s.left) (tree-read b formed.1 below.1.0 below.1.1 (n + row_count a) s.right)
  tree-read (product_row s a b) formed here below n whole stands =
      read-both s a b n product_row (own-tree n whole (product_row s a b) stands) here (operands_stand (row p) n whole (product_row s a b) stands)
      (tree-read a formed.0 below.0.0 below.0.1 n s.left) (tree-read b formed.1 below.1.0 below.1.1 (n + row_count a) s.right)
  tree-read (minus_row s a) formed here below n whole stands =
      read_one s a n minus_row (own-tree n whole (minus_row s a) stands) here (operands_stand (row p) n whole (minus_row s a) stands)
      (tree-read a formed below.0 below.1 n s)
  tree-read (power_row s a e) formed here below n whole stands =
      read_one s a n (λ s a. power_row s a e) (own-tree n whole (power_row s a e) stands) here (operands_stand (row p) n whole (power_row s a e) stands)
      (tree-read a formed.2 below.0 below.1 n s)
  tree-read (raise_row s a b) formed here below n whole stands =
      read-both s a b n raise_row (own-tree n whole (raise_row s a b) stands) here (operands_stand (row p) n whole (raise_row s a b) stands)
      (tree-read a formed.1 below.0.0 below.0.1 n s.left) (tree-read b formed.2 below.1.0 below.1.1 (n + row_count a) s.right)

-- ---- the plan of an accepted formula on any grid, whatever words follow its own
module _ (w start step : ℕ) (pos : 0 < w) {s : List ℕ} {t : Tree} (A : Accepted w s t) (rest : List ℕ) where
  abbrev plan : List ℕ
  plan = plan_words (span_of t) (fold w start step t) ++ rest

  abbrev folded : Folded
  folded = fold w start step t

  stands : Standing (row plan) 0 (rows_from 0 (span_of t) folded)
  stands i h = ap (row plan) (zero-add i) ∙ row_back (span_of t) folded rest i (rw (sym (rows_of 0 (span_of t) folded).count) h)

  settled : Below (λ s. Stays w) folded
  settled = fold_below (λ s. Stays w) w start step t (λ u _. fold_settled w start step u)

  read : Read plan w 0 (row_count folded) folded
  read = tree-read plan w folded (accepted-formed w start step A pos) (fold_settled w start step t) settled 0 (span_of t) stands

  -- Its root row stands for the whole folded tree, and 01 folds no row of it.
  pub compiled_tree :
      let plan = plan_words (span_of t) (fold w start step t) ++ rest in
      row_tree plan (Plan.row_count plan - 1) ≡ fold w start step t
  compiled_tree = ap (λ k. row_tree plan (k - 1)) (sym (zero-add (row_count folded))) ∙ read.root

  pub compiled_stays :
      let plan = plan_words (span_of t) (fold w start step t) ++ rest in
      (r : ℕ) → r < Plan.row_count plan → Stays w (row_tree plan r)
  compiled_stays r within = read.rows r (omega arith) (omega arith)

  -- So the call never says that it would.
  pub compiled_explained : (r : ℕ) {a : ReasonAnswer} → Explaining w (plan_words (span_of t) (fold w start step t) ++ rest) r a → a.reason ≡ 7 → ⊥
  compiled_explained r (refused other) e = omega (arith, e)
  compiled_explained r (not-counted good past) e = omega (arith, e)
  compiled_explained r (no_operator good within few) e = omega (arith, e)
  compiled_explained r (operator good within least reason) e = only_folding reason e (compiled_stays r within)
