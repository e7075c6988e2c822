-- What a compiled plan says, for every accepted formula and every grid, whatever words follow the plan's own: it is sound, its points are
-- the formula's direct values, and two that are one constant or sum chain each are equal exactly when their first 17 points are.
use mathlib.Core.Path.{◌≡◌, refl, sym, ap, ap₂, subst, ◌∙◌}
use mathlib.Core.Bool.{true}
use mathlib.Core.Logic.{◌↔◌}
use mathlib.Core.List.{List, [], ◌∷◌, ◌++◌}
use Prim.Native.Nat.{ℕ, ◌+◌, ◌-◌, ◌≤◌, ◌<◌}
use native.Mathlib.Omega.{arith}
use lib.ListN.{length, get_or, take}
use Rattle.plan.specs.Measures.{plan_length, most_rows}
use Rattle.formula.specs.Tree.{Span, first, end, Tree, span_of}
use Rattle.formula.specs.Value.{direct_value}
use Rattle.formula.specs.Refusals.{Accepted}
use Rattle.formula_scan.proofs.Answers.{accepted_base}
use Rattle.plan.specs.Row.{kind, end_byte}
use Rattle.plan.specs.Plan as Plan
use Rattle.plan.specs.Points.{root_value, chain_of}
use Rattle.plan.specs.Filling.{plan_after}
use Rattle.plan.proofs.Sharing.{shared, length-points}
use Rattle.plan.specs.Calls.{Call, written, plan_left, points_of}
use Rattle.fold.specs.Folded.{Folded, constant, sum_chain, product_chain, sum_row, difference_row, product_row, minus_row, power_row, raise_row, is_constant, is_sum_chain, elements, of_sum}
use Rattle.fold.specs.Folding.{word_of, is_sum, fold}
use Rattle.fold.specs.OneChain.{OneSum, SameChain}
use Rattle.fold.specs.RowSpans.{Ordered, Says}
use Rattle.fold.specs.Layout.{row_count, row_words, rows_from, plan_words}
use Rattle.fold.proofs.Shape.{WellFormed}
use Rattle.fold.proofs.Tests.{either, shaped}
use Rattle.fold.proofs.FoldShape.{accepted-formed, accepted-rows}
use Rattle.fold.proofs.Nesting.{Nested, fold_nested, part-within}
use Rattle.fold.proofs.TextSpans.{accepted_spans, root_within, root_short}
use Rattle.fold.proofs.Origins.{root_end, rows_come}
use Rattle.fold.proofs.RowOrder.{plan_ordered}
use Rattle.fold.proofs.RowMeaning.{rows_say}
use Rattle.fold.proofs.FoldValues.{fold-value}
use Rattle.fold.proofs.Equality.{equal_folds}
use Rattle.fold.proofs.ReadBack.{row-elements, sum_back, some_rows, length-plan, row_back}
use Rattle.fold.proofs.PlanSound.{plan-sound, plan-accepted}
use Rattle.fold.proofs.PlanValues.{plan-value, points-written}

-- ---- plans of one chain
one_row-sum : (whole : Span) (a : Folded) → row_count a ≡ 1 → kind (get_or (rows_from 0 whole a) 0 []) ≤ 1 → is_sum a ≡ true
unfolding row_count rows_from
one_row-sum whole (constant c) e h = refl
one_row-sum whole (sum_chain f) e h = refl
one_row-sum whole (product_chain f) e h = absurd (omega arith)
one_row-sum whole (sum_row s a b) e h = absurd (omega (arith, some_rows a))
one_row-sum whole (difference_row s a b) e h = absurd (omega (arith, some_rows a))
one_row-sum whole (product_row s a b) e h = absurd (omega (arith, some_rows a))
one_row-sum whole (minus_row s a) e h = absurd (omega (arith, some_rows a))
one_row-sum whole (power_row s a n) e h = absurd (omega (arith, some_rows a))
one_row-sum whole (raise_row s a b) e h = absurd (omega (arith, some_rows a))

-- Its folded tree is a constant or a sum chain, and is read from the row.
module _ (w : ℕ) (whole : Span) (a : Folded) (h : WellFormed w a) (rest : List ℕ) (p : OneSum (plan_words whole a ++ rest)) where
  sum-alone : is_sum a ≡ true
  sum-alone = one_row-sum whole a p.single (subst (λ row. kind row ≤ 1) (row_back whole a rest 0 (some_rows a)) p.summing)

  sum-read : of_sum (chain_of (Plan.row (plan_words whole a ++ rest) 0)) ≡ a
  sum-read = ap (λ row. of_sum (chain_of row)) (row_back whole a rest 0 (some_rows a)) ∙ sum_back w 0 whole a sum-alone h

-- A constant or sum chain is the same under two spans.
alike : (k n : ℕ) (f : List ℕ) (s u : Span) → SameChain (row_words k n 0 f s) (row_words k n 0 f u)
alike k n f s u = record {
  kinds = refl;
  lengths = refl;
  elements = row-elements f (first s ∷ end s ∷ []) ∙ sym (row-elements f (first u ∷ end u ∷ []));
}

one_row_alike : (s u : Span) (a : Folded) → is_sum a ≡ true → SameChain (get_or (rows_from 0 s a) 0 []) (get_or (rows_from 0 u a) 0 [])
unfolding rows_from
one_row_alike s u a e =
    either (is_constant a) (is_sum_chain a) e
    (λ c. subst Alike (sym ((shaped a).constantly c)) (alike 0 0 (word_of a ∷ []) s u))
    (λ c. subst Alike (sym ((shaped a).summed c)) (alike 1 (length (elements a) - 1) (elements a) s u))
  where
    Alike : Folded → Type 0
    Alike b = SameChain (get_or (rows_from 0 s b) 0 []) (get_or (rows_from 0 u b) 0 [])

same_chain : (s u : Span) (a : Folded) (rest rest' : List ℕ) → is_sum a ≡ true
    → SameChain (Plan.row (plan_words s a ++ rest) 0) (Plan.row (plan_words u a ++ rest') 0)
same_chain s u a rest rest' e =
    subst (λ x. SameChain x (Plan.row (plan_words u a ++ rest') 0)) (sym (row_back s a rest 0 (some_rows a)))
    (subst (λ y. SameChain (get_or (rows_from 0 s a) 0 []) y) (sym (row_back u a rest' 0 (some_rows a))) (one_row_alike s u a e))

-- ---- the plan of an accepted formula
module _ (w start step : ℕ) (pos : 0 < w) {s : List ℕ} {t : Tree} (accepted : Accepted w s t) where
  formed : WellFormed w (fold w start step t)
  formed = accepted-formed w start step accepted pos

  nested : Nested (span_of t) (fold w start step t)
  nested = fold_nested w start step t (accepted_spans accepted)

  few : row_count (fold w start step t) ≤ most_rows
  few = accepted-rows w start step accepted

  -- "Compiling writes all" 2,817 words.
  pub compiled_length : length (plan_words (span_of t) (fold w start step t)) ≡ plan_length
  compiled_length = length-plan (span_of t) (fold w start step t) few

  -- The plan as it is lent: its own words, and whatever follows them.
  module _ (rest : List ℕ) where
    -- It is sound, and so no call refuses it.
    pub compiled_sound : Plan.sound (plan_words (span_of t) (fold w start step t) ++ rest) ≡ true
    compiled_sound = plan-sound w (span_of t) (fold w start step t) formed nested (root_short accepted) few rest

    pub compiled_accepted : Plan.refusal (plan_words (span_of t) (fold w start step t) ++ rest) ≡ 0
    compiled_accepted = plan-accepted w (span_of t) (fold w start step t) formed nested (root_short accepted) few rest

    -- It has 128 rows at most.
    pub compiled_rows : Plan.row_count (plan_words (span_of t) (fold w start step t) ++ rest) ≤ most_rows
    compiled_rows = few

    -- The spans of operand rows lie within their operator's, left before right, without overlap; and no span goes past the text.
    pub compiled_ordered : let p = plan_words (span_of t) (fold w start step t) ++ rest in (r : ℕ) → r < Plan.row_count p → Ordered (Plan.row p) (Plan.row p r)
    compiled_ordered r within = plan_ordered (span_of t) (fold w start step t) rest nested r within

    pub compiled_within : let p = plan_words (span_of t) (fold w start step t) ++ rest in (r : ℕ) → r < Plan.row_count p → end_byte (Plan.row p r) ≤ length s
    compiled_within r within =
        let row = rows_come w start step t r within in
        omega (
          arith,
          ap (λ x. end_byte x) (row_back (span_of t) (fold w start step t) rest r within ∙ row.words),
          root_end row.from (fold w start step row.part) (span_of row.part),
          (part-within row.stands (accepted_spans accepted)).upto,
          root_within accepted,
        )

    -- A row's span says what the row is: the text that it spans, compiled alone on the same grid, gives a plan whose root row is that row.
    pub compiled_says : let p = plan_words (span_of t) (fold w start step t) ++ rest in (r : ℕ) → r < Plan.row_count p → Says w s start step (Plan.row p r)
    compiled_says r within = rows_say w start step accepted rest r within

    -- Its value after i points is the formula's direct value at index i.
    pub compiled_value : (i : ℕ) → root_value w (plan_after w i (plan_words (span_of t) (fold w start step t) ++ rest)) ≡ direct_value w start step t i
    compiled_value i = plan-value w i (span_of t) (fold w start step t) rest formed ∙ fold-value w start step t (accepted_base accepted) i

    -- Whatever fill calls are made on it, point i of what they write is the direct value at index i; they leave the plan shifted as often
    -- as they answer points, and write as many words.
    pub compiled_points : (calls : List Call)
        → let p = plan_words (span_of t) (fold w start step t) ++ rest in
        ((i : ℕ) → i < points_of w p calls → get_or (written w p calls) i 0 ≡ direct_value w start step t i)
        × (plan_left w p calls ≡ plan_after w (points_of w p calls) p)
        × (length (written w p calls) ≡ points_of w p calls)
    compiled_points calls = (
      λ i h. points-written w (span_of t) (fold w start step t) rest calls i formed compiled_accepted h ∙ fold-value w start step t (accepted_base accepted) i,
      (shared w _ calls compiled_accepted).1,
      ap length (shared w _ calls compiled_accepted).0 ∙ length-points w (points_of w _ calls) _,
    )

-- Two formulas, each on its own grid, whose plans are one constant or sum chain each: the rows are equal in kind, length and elements exactly when
-- the direct values agree at indices 0 to 16.
module _ (w start step : ℕ) (pos : 0 < w) {s : List ℕ} {t : Tree} (accepted : Accepted w s t) (rest : List ℕ)
    (start' step' : ℕ) {s' : List ℕ} {u : Tree} (accepted' : Accepted w s' u) (rest' : List ℕ) where
  pub compiled_equal : OneSum (plan_words (span_of t) (fold w start step t) ++ rest) → OneSum (plan_words (span_of u) (fold w start' step' u) ++ rest')
      → SameChain (Plan.row (plan_words (span_of t) (fold w start step t) ++ rest) 0) (Plan.row (plan_words (span_of u) (fold w start' step' u) ++ rest') 0)
      ↔ ((i : ℕ) → i ≤ 16 → direct_value w start step t i ≡ direct_value w start' step' u i)
  compiled_equal p q = (
    λ same.
        folds.0
        (sym (sum-read w (span_of t) a h rest p)
        ∙ ap₂ (λ n f. of_sum (take (1 + n) f)) same.lengths same.elements
        ∙ sum-read w (span_of u) b k rest' q),
    λ same.
        subst (λ c. SameChain (Plan.row (plan_words (span_of t) a ++ rest) 0) (Plan.row (plan_words (span_of u) c ++ rest') 0)) (folds.1 same)
        (same_chain (span_of t) (span_of u) a rest rest' (sum-alone w (span_of t) a h rest p)),
  )
    where
      a : Folded
      a = fold w start step t

      b : Folded
      b = fold w start' step' u

      h : WellFormed w a
      h = formed w start step pos accepted

      k : WellFormed w b
      k = formed w start' step' pos accepted'

      folds : (a ≡ b) ↔ ((i : ℕ) → i ≤ 16 → direct_value w start step t i ≡ direct_value w start' step' u i)
      folds =
          equal_folds w start step start' step' t u (accepted_base accepted) (accepted_base accepted') h k
          (sum-alone w (span_of t) a h rest p) (sum-alone w (span_of u) b k rest' q)
