-- Operands come and go on the stack: what stands below stays, and what an operator leaves takes the place of its operands.
use mathlib.Core.Path.{◌≡◌, sym, ap, subst, ◌∙◌}
use mathlib.Core.List.{List, [], ◌∷◌}
use Prim.Native.Nat.{ℕ, ◌+◌, ◌-◌, ◌*◌, ◌≤◌}
use native.Mathlib.Omega.{arith}
use lib.ListN.{length, take, drop}
use lib.Seq.{take-take}
use Rattle.plan.specs.Measures.{row_length, row_start}
use Rattle.plan.proofs.RowLaws.{slice-part}
use Rattle.formula.specs.Tree.{Span, Tree, span_of}
use Rattle.fold.specs.Folded.{Spans, Folded}
use Rattle.fold.specs.Folding.{operands, fold}
use Rattle.fold.specs.Layout.{row_count, rows_from, words_of}
use Rattle.fold.proofs.Shape.{WellFormed}
use Rattle.fold.proofs.FoldShape.{fold-rows}
use Rattle.fold.proofs.ReadBack.{length-tree}
use Rattle.fold_rows.specs.Standing.{Stands}
use Rattle.fold_rows.proofs.Stood.{words_later, placed-stands, placed-before}
use Rattle.fold_operands.specs.Operands.{Operand, Operands, Left}
use Rattle.compile.specs.Machine.{Stack, Ends, FirstRow}
use Rattle.compile.proofs.Finishing.{sum_nodes}

-- ---- what an operator leaves: words before and behind it stay, and it ends at most a row later than its operands
module _ {p q : List ℕ} {n r : ℕ} {f : Folded} (left : Left p n f r q) where
  pub left-before : row_start n ≤ length p → take (row_start n) q ≡ take (row_start n) p
  left-before room = ap (take (row_start n)) left.words ∙ placed-before p n left.under f room

  pub left_behind : row_start n ≤ length p → (i : ℕ) → row_start r ≤ i → drop i q ≡ drop i p
  left_behind room i h =
      ap (drop i) left.words
      ∙ words_later p (row_start n) (words_of (rows_from n left.under f)) room i (omega (arith, left.behind, length-tree n left.under f))

  pub left-end_one : {end : ℕ} {s : Span} {a : Folded} → Operand p n end s a → row_count f ≤ row_count a + 1 → r ≤ end + 1
  left-end_one operand h = omega (arith, left.behind, operand.behind)

  pub left-end-both : {middle end : ℕ} {s : Spans} {a b : Folded} → Operands p n middle end s a b → row_count f ≤ row_count a + row_count b + 1 → r ≤ end + 1
  left-end-both operands h = omega (arith, left.behind, operands.first.behind, operands.second.behind)

  pub left-stands : row_start n ≤ length p → WellFormed 64 f → Operand q n r left.under f
  left-stands room formed = record {
    stands = subst (λ l. Stands l n left.under f) (sym left.words) (placed-stands p n left.under f room);
    behind = left.behind;
    formed = formed;
  }

-- ---- rows depend on their words alone
same_before : (p q : List ℕ) (n m : ℕ) → n ≤ m → take m q ≡ take m p → take n q ≡ take n p
same_before p q n m h same = sym (take-take n m q h) ∙ ap (take n) same ∙ take-take n m p h

operand-kept : (p q : List ℕ) (first end : ℕ) (s : Span) (a : Folded) → take (row_start end) q ≡ take (row_start end) p
    → Operand p first end s a → Operand q first end s a
operand-kept p q first end s a same operand = record { stands = stands; behind = operand.behind; formed = operand.formed }
  where
    count : row_start first + row_length * row_count a - row_start first ≡ row_length * row_count a
    count = omega arith

    cut : (l : List ℕ) → drop (row_start first) (take (row_start first + row_length * row_count a) l) ≡ take (row_length * row_count a) (drop (row_start first) l)
    cut l = slice-part (row_start first) (row_start first + row_length * row_count a) l ∙ ap (λ k. take k (drop (row_start first) l)) count

    stands : Stands q first s a
    stands =
        sym (cut q)
        ∙ ap (drop (row_start first)) (same_before p q (row_start first + row_length * row_count a) (row_start end) (omega (arith, operand.behind)) same)
        ∙ cut p
        ∙ operand.stands

module _ (start step : ℕ) where
  -- ---- how many rows stand
  pub stack_rows : (p : List ℕ) (done : List Tree) (end : ℕ) → Stack start step p done end → end ≤ sum_nodes done
  unfolding Stack sum_nodes
  stack_rows p [] end h = omega (arith, h)
  stack_rows p (a ∷ done) end (first, top, rest) = omega (arith, top.behind, fold-rows 64 start step a, stack_rows p done first rest)

  -- ---- the trees on top, and what is below them
  pub stack_ends : (p : List ℕ) (a : Tree) (done : List Tree) (end : ℕ) → Stack start step p (a ∷ done) end → Ends p end
  unfolding Stack
  stack_ends p a done end (first, top, rest) = (first, (span_of a, fold 64 start step a, top))

  pub stack_one : (p : List ℕ) (a : Tree) (done : List Tree) (top end : ℕ) → FirstRow p end top → Stack start step p (a ∷ done) end
      → Operand p top end (span_of a) (fold 64 start step a) × Stack start step p done top
  unfolding Stack
  stack_one p a done top end found (first, operand, rest) = (
    subst (λ n. Operand p n end (span_of a) (fold 64 start step a)) (sym same) operand,
    subst (λ n. Stack start step p done n) (sym same) rest,
  )
    where
      same : top ≡ first
      same = found first (span_of a, fold 64 start step a, operand)

  pub stack_both : (p : List ℕ) (a b : Tree) (done : List Tree) (below top end : ℕ) → FirstRow p end top → FirstRow p top below
      → Stack start step p (b ∷ a ∷ done) end
      → Operands p below top end (operands a b) (fold 64 start step a) (fold 64 start step b) × Stack start step p done below
  stack_both p a b done below top end found found_below h =
      let second = stack_one p b (a ∷ done) top end found h in
      let first = stack_one p a done below top found_below second.1 in
      (record { first = first.0; second = second.0 }, first.1)

  -- ---- the words of its rows are all that a stack looks at
  pub stack_kept : (p q : List ℕ) (done : List Tree) (end : ℕ) → take (row_start end) q ≡ take (row_start end) p
      → Stack start step p done end → Stack start step q done end
  unfolding Stack
  stack_kept p q [] end same h = h
  stack_kept p q (a ∷ done) end same (first, top, rest) = (
    first,
    operand-kept p q first end (span_of a) (fold 64 start step a) same top,
    stack_kept p q done first (same_before p q (row_start first) (row_start end) (omega (arith, top.behind)) same) rest,
  )

  -- A tree that is left right behind what stands.
  pub stack_put : (p q : List ℕ) (u : Tree) (done : List Tree) (n r : ℕ) (left : Left p n (fold 64 start step u) r q) → left.under ≡ span_of u
      → Stack start step p done n → row_start n ≤ length p → WellFormed 64 (fold 64 start step u) → Stack start step q (u ∷ done) r
  unfolding Stack
  stack_put p q u done n r left own h room formed = (
    n,
    subst (λ s. Operand q n r s (fold 64 start step u)) own (left-stands left room formed),
    stack_kept p q done n (left-before left room) h,
  )

  -- ---- one tree alone stands from row 0 on
  pub stack_done : (p : List ℕ) (t : Tree) (end : ℕ) → Stack start step p (t ∷ []) end
      → (take (row_length * end) (drop 1 p) ≡ words_of (rows_from 0 (span_of t) (fold 64 start step t))) × (end ≡ row_count (fold 64 start step t))
  unfolding Stack
  stack_done p t end (first, top, none) =
      (ap (λ k. take (row_length * k) (drop 1 p)) count ∙ subst (λ n. Stands p n (span_of t) (fold 64 start step t)) none top.stands, count)
    where
      count : end ≡ row_count (fold 64 start step t)
      count = omega (arith, top.behind, none)
