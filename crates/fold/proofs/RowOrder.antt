-- The rows of a folded tree whose spans are nested: each row's span holds those of the rows that it names, left before right, without overlap.
use mathlib.Core.Path.{◌≡◌, sym, ap, subst, ◌∙◌}
use mathlib.Core.List.{List, [], ◌∷◌, ◌++◌}
use Prim.Native.Nat.{ℕ, ◌+◌, ◌-◌, ◌<◌}
use native.Mathlib.Nat.{zero-add}
use native.Mathlib.Omega.{arith}
use lib.ListN.{length, get_or, length-append, get_or-append}
use lib.Seq.{drop_at, get_or-drop, get_or_at}
use Rattle.formula.specs.Tree.{Span, first, end}
use Rattle.plan.specs.Row.{Row, kind_facts, first_byte, end_byte}
use Rattle.plan.specs.Plan as Plan
use Rattle.fold.specs.Folded.{Spans, Folded, constant, sum_chain, product_chain, sum_row, difference_row, product_row, minus_row, power_row, raise_row}
use Rattle.fold.specs.Layout.{row_count, root_row, rows_from, plan_words}
use Rattle.fold.specs.RowSpans.{Inside, Apart, Ordered}
use Rattle.fold.proofs.ReadBack.{rows_of, some_rows, row_back}
use Rattle.fold.proofs.Nesting.{Within, Beside, Nested}
use Rattle.fold.proofs.Origins.{kind_of, word_a_of, word_b_of, root_words, operand_rows, root_last, root_first, root_end, AllRows, all_both, all_at}

-- ---- rows by their number: those of a tree stand from row n on
module _ (rows : ℕ → Row) where
  abbrev pub Standing : ℕ → List Row → Type 0
  Standing n f = (i : ℕ) → i < length f → rows (n + i) ≡ get_or f i []

  pub front : (n : ℕ) (f g : List Row) → Standing n (f ++ g) → Standing n f
  front n f g h i within = h i (simp length-append (omega arith)) ∙ get_or-append f g [] i within

  pub later : (n m : ℕ) (f g : List Row) → length f ≡ m → Standing n (f ++ g) → Standing (n + m) g
  later n m f g e h i within =
      ap rows place
      ∙ h (m + i) (simp length-append (omega arith))
      ∙ sym (get_or-drop m (f ++ g) i [])
      ∙ ap (λ l. get_or l i []) (drop_at f g m e)
    where
      place : n + m + i ≡ n + (m + i)
      place = omega arith

  -- The root row stands behind the rows of the operands.
  pub root_stands : (n : ℕ) (whole : Span) (a : Folded) → Standing n (rows_from n whole a) → rows (root_row n a) ≡ root_words n a whole
  root_stands n whole a h =
      ap rows place
      ∙ h (row_count a - 1) (omega (arith, (rows_of n whole a).count, some_rows a))
      ∙ ap (λ f. get_or f (row_count a - 1) []) (root_last n whole a)
      ∙ get_or_at (operand_rows n a) (root_words n a whole) [] [] (row_count a - 1) count
    where
      place : n + row_count a - 1 ≡ n + (row_count a - 1)
      place = omega (arith, some_rows a)

      count : length (operand_rows n a) ≡ row_count a - 1
      count =
          omega (
            arith,
            (rows_of n whole a).count,
            ap length (root_last n whole a),
            length-append (operand_rows n a) (root_words n a whole ∷ []),
          )

  -- ---- one operator, over the rows of its operands
  module _ (n : ℕ) (whole : Span) (x : Row) (own_first : first_byte x ≡ first whole) (own-end : end_byte x ≡ end whole) where
    one_inside : (s : Span) (a : Folded) → Within s whole → Standing n (rows_from n s a) → Inside x (rows (root_row n a))
    one_inside s a h stands = record {
      from = omega (arith, own_first, h.from, ap (λ y. first_byte y) (root_stands n s a stands), root_first n a s);
      upto = omega (arith, own-end, h.upto, ap (λ y. end_byte y) (root_stands n s a stands), root_end n a s);
    }

    both_apart : (s : Spans) (a b : Folded) → Beside whole s → Standing n (rows_from n s.left a)
        → Standing (n + row_count a) (rows_from (n + row_count a) s.right b) → Apart x (rows (root_row n a)) (rows (root_row (n + row_count a) b))
    both_apart s a b h left right =
        let there = root_stands n s.left a left in
        let also = root_stands (n + row_count a) s.right b right in
        record {
          from = omega (arith, own_first, h.from, ap (λ y. first_byte y) there, root_first n a s.left);
          between =
              omega (
                arith,
                h.apart,
                ap (λ y. end_byte y) there,
                root_end n a s.left,
                ap (λ y. first_byte y) also,
                root_first (n + row_count a) b s.right,
              );
          upto = omega (arith, own-end, h.upto, ap (λ y. end_byte y) also, root_end (n + row_count a) b s.right);
        }

  over-both : (n : ℕ) (whole : Span) (f : Folded) (s : Spans) (a b : Folded) → Beside whole s
      → Standing n (rows_from n s.left a ++ rows_from (n + row_count a) s.right b)
      → Apart (root_words n f whole) (rows (root_row n a)) (rows (root_row (n + row_count a) b))
  over-both n whole f s a b h stands =
      both_apart n whole (root_words n f whole) (root_first n f whole) (root_end n f whole) s a b h
      (front n (rows_from n s.left a) (rows_from (n + row_count a) s.right b) stands)
      (later n (row_count a) (rows_from n s.left a) (rows_from (n + row_count a) s.right b) (rows_of n s.left a).count stands)

  operator_ordered : (n : ℕ) (whole : Span) (a : Folded) → Nested whole a → Standing n (operand_rows n a) → Ordered rows (root_words n a whole)
  unfolding Nested kind_of word_a_of word_b_of operand_rows kind_facts
  operator_ordered n whole (constant c) h stands = record { alone = λ e. absurd (omega (arith, e)); both = λ e. absurd (omega (arith, e)) }
  operator_ordered n whole (sum_chain f) h stands = record { alone = λ e. absurd (omega (arith, e)); both = λ e. absurd (omega (arith, e)) }
  operator_ordered n whole (product_chain f) h stands = record { alone = λ e. absurd (omega (arith, e)); both = λ e. absurd (omega (arith, e)) }
  operator_ordered n whole (sum_row s a b) h stands = record {
    alone = λ e. absurd (omega (arith, e));
    both = λ e. over-both n whole (sum_row s a b) s a b h.0 stands;
  }
  operator_ordered n whole (difference_row s a b) h stands = record {
    alone = λ e. absurd (omega (arith, e));
    both = λ e. over-both n whole (difference_row s a b) s a b h.0 stands;
  }
  operator_ordered n whole (product_row s a b) h stands = record {
    alone = λ e. absurd (omega (arith, e));
    both = λ e. over-both n whole (product_row s a b) s a b h.0 stands;
  }
  operator_ordered n whole (minus_row s a) h stands = record {
    alone = λ e. one_inside n whole _ (root_first n (minus_row s a) whole) (root_end n (minus_row s a) whole) s a h.0 stands;
    both = λ e. absurd (omega (arith, e));
  }
  operator_ordered n whole (power_row s a m) h stands = record {
    alone = λ e. one_inside n whole _ (root_first n (power_row s a m) whole) (root_end n (power_row s a m) whole) s a h.0 stands;
    both = λ e. absurd (omega (arith, e));
  }
  operator_ordered n whole (raise_row s a b) h stands = record {
    alone = λ e. absurd (omega (arith, e));
    both = λ e. over-both n whole (raise_row s a b) s a b h.0 stands;
  }

  -- ---- every row of a tree
  pub operands_stand : (n : ℕ) (whole : Span) (a : Folded) → Standing n (rows_from n whole a) → Standing n (operand_rows n a)
  operands_stand n whole a stands = front n (operand_rows n a) (root_words n a whole ∷ []) (subst (Standing n) (root_last n whole a) stands)

  behind : (n : ℕ) (whole : Span) (a : Folded) → Nested whole a → Standing n (rows_from n whole a) → AllRows (Ordered rows) (operand_rows n a)
      → AllRows (Ordered rows) (rows_from n whole a)
  unfolding AllRows
  behind n whole a h stands below =
      subst (AllRows (Ordered rows)) (sym (root_last n whole a))
      (all_both (Ordered rows) (operand_rows n a) (root_words n a whole ∷ []) below (operator_ordered n whole a h (operands_stand n whole a stands), tt))

  both_ordered : (n : ℕ) (s : Spans) (a b : Folded) → Standing n (rows_from n s.left a ++ rows_from (n + row_count a) s.right b)
      → (Standing n (rows_from n s.left a) → AllRows (Ordered rows) (rows_from n s.left a))
      → (Standing (n + row_count a) (rows_from (n + row_count a) s.right b) → AllRows (Ordered rows) (rows_from (n + row_count a) s.right b))
      → AllRows (Ordered rows) (rows_from n s.left a ++ rows_from (n + row_count a) s.right b)
  both_ordered n s a b stands left right =
      let f = rows_from n s.left a in
      let g = rows_from (n + row_count a) s.right b in
      all_both (Ordered rows) f g (left (front n f g stands)) (right (later n (row_count a) f g (rows_of n s.left a).count stands))

  ordered_rows : (a : Folded) (n : ℕ) (whole : Span) → Nested whole a → Standing n (rows_from n whole a) → AllRows (Ordered rows) (rows_from n whole a)
  unfolding Nested AllRows operand_rows
  ordered_rows (constant c) n whole h stands = behind n whole (constant c) h stands tt
  ordered_rows (sum_chain f) n whole h stands = behind n whole (sum_chain f) h stands tt
  ordered_rows (product_chain f) n whole h stands = behind n whole (product_chain f) h stands tt
  ordered_rows (sum_row s a b) n whole h stands =
      behind n whole (sum_row s a b) h stands
      (both_ordered n s a b (operands_stand n whole (sum_row s a b) stands) (ordered_rows a n s.left h.1) (ordered_rows b (n + row_count a) s.right h.2))
  ordered_rows (difference_row s a b) n whole h stands =
      behind n whole (difference_row s a b) h stands
      (both_ordered n s a b (operands_stand n whole (difference_row s a b) stands) (ordered_rows a n s.left h.1) (ordered_rows b (n + row_count a) s.right h.2))
  ordered_rows (product_row s a b) n whole h stands =
      behind n whole (product_row s a b) h stands
      (both_ordered n s a b (operands_stand n whole (product_row s a b) stands) (ordered_rows a n s.left h.1) (ordered_rows b (n + row_count a) s.right h.2))
  ordered_rows (minus_row s a) n whole h stands =
      behind n whole (minus_row s a) h stands (ordered_rows a n s h.1 (operands_stand n whole (minus_row s a) stands))
  ordered_rows (power_row s a m) n whole h stands =
      behind n whole (power_row s a m) h stands (ordered_rows a n s h.1 (operands_stand n whole (power_row s a m) stands))
  ordered_rows (raise_row s a b) n whole h stands =
      behind n whole (raise_row s a b) h stands
      (both_ordered n s a b (operands_stand n whole (raise_row s a b) stands) (ordered_rows a n s.left h.1) (ordered_rows b (n + row_count a) s.right h.2))

-- ---- the plan of a nested tree, whatever follows its words
pub plan_ordered : (whole : Span) (a : Folded) (rest : List ℕ) → Nested whole a → (r : ℕ) → r < row_count a
    → Ordered (Plan.row (plan_words whole a ++ rest)) (Plan.row (plan_words whole a ++ rest) r)
plan_ordered whole a rest h r within =
    let p = plan_words whole a ++ rest in
    let count = (rows_of 0 whole a).count in
    subst (Ordered (Plan.row p)) (sym (row_back whole a rest r within))
    (all_at (Ordered (Plan.row p)) (rows_from 0 whole a) (ordered_rows (Plan.row p) a 0 whole h stands) r (rw count within))
  where
    stands : (i : ℕ) → i < length (rows_from 0 whole a) → Plan.row (plan_words whole a ++ rest) (0 + i) ≡ get_or (rows_from 0 whole a) i []
    stands i k = ap (Plan.row (plan_words whole a ++ rest)) (zero-add i) ∙ row_back whole a rest i (rw (sym (rows_of 0 whole a).count) k)
