-- A row's span says what the row is: the text that it spans, compiled alone on the same grid, gives a plan whose root row is that row.
use mathlib.Core.Path.{◌≡◌, refl, sym, ap, ap₂, subst, ◌∙◌}
use mathlib.Core.Bool.{true, false≢true}
use mathlib.Core.List.{List, [], ◌∷◌, ◌++◌}
use Prim.Native.Nat.{ℕ, ◌+◌, ◌-◌, ◌<◌}
use native.Mathlib.Nat.{zero-add}
use native.Mathlib.Omega.{arith}
use lib.ListN.{length, get_or, drop}
use lib.Seq.{slice}
use Rattle.chain.specs.Chain as Chain
use Rattle.formula.specs.Tree.{Span, first, end, Tree, span_of}
use Rattle.formula.specs.Refusals.{Accepted}
use Rattle.plan.specs.Measures.{element_count, plan_length}
use Rattle.plan.specs.Row.{Row, first_byte, end_byte, is_chain}
use Rattle.plan.specs.Plan as Plan
use Rattle.fold.specs.Folded.{Folded, constant, sum_chain, product_chain, sum_row, difference_row, product_row, minus_row, power_row, raise_row, elements}
use Rattle.fold.specs.Folding.{fold}
use Rattle.fold.specs.Layout.{row_count, rows_from, plan_words}
use Rattle.fold.specs.Compiling.{accepted}
use Rattle.fold.specs.RowSpans.{SameRow, Says}
use Rattle.fold.proofs.ReadBack.{row-elements, rows_of, row_back}
use Rattle.fold.proofs.Origins.{kind_of, word_a_of, word_b_of, root_words, root_first, root_end, From, rows_come}
use Rattle.fold.proofs.RowOrder.{root_stands}
use Rattle.fold.proofs.Bare.{bare, bare-seen, fold_alike}
use Rattle.fold.proofs.CutText.{alone}

-- ---- what the root row says without the spans below it, and wherever it stands
kind-bare : (a : Folded) → kind_of (bare a) ≡ kind_of a
unfolding kind_of bare
kind-bare (constant c) = refl
kind-bare (sum_chain f) = refl
kind-bare (product_chain f) = refl
kind-bare (sum_row s a b) = refl
kind-bare (difference_row s a b) = refl
kind-bare (product_row s a b) = refl
kind-bare (minus_row s a) = refl
kind-bare (power_row s a n) = refl
kind-bare (raise_row s a b) = refl

length-bare : (n m : ℕ) (a : Folded) → is_chain (kind_of a) ≡ true → word_a_of n a ≡ word_a_of m (bare a)
unfolding kind_of word_a_of bare
length-bare n m (constant c) e = refl
length-bare n m (sum_chain f) e = refl
length-bare n m (product_chain f) e = refl
length-bare n m (sum_row s a b) e = absurd (false≢true e)
length-bare n m (difference_row s a b) e = absurd (false≢true e)
length-bare n m (product_row s a b) e = absurd (false≢true e)
length-bare n m (minus_row s a) e = absurd (false≢true e)
length-bare n m (power_row s a k) e = absurd (false≢true e)
length-bare n m (raise_row s a b) e = absurd (false≢true e)

exponent-bare : (n m : ℕ) (a : Folded) → kind_of a ≡ 7 → word_b_of n a ≡ word_b_of m (bare a)
unfolding kind_of word_b_of bare
exponent-bare n m (constant c) e = refl
exponent-bare n m (sum_chain f) e = refl
exponent-bare n m (product_chain f) e = refl
exponent-bare n m (sum_row s a b) e = absurd (omega (arith, e))
exponent-bare n m (difference_row s a b) e = absurd (omega (arith, e))
exponent-bare n m (product_row s a b) e = absurd (omega (arith, e))
exponent-bare n m (minus_row s a) e = refl
exponent-bare n m (power_row s a k) e = refl
exponent-bare n m (raise_row s a b) e = absurd (omega (arith, e))

same_root : (n m : ℕ) (s k : Span) (a b : Folded) → bare a ≡ bare b → SameRow (root_words n a s) (root_words m b k)
same_root n m s k a b e = record {
  kinds = kinds;
  lengths = λ c. length-bare n 0 a c ∙ ap (word_a_of 0) e ∙ sym (length-bare m 0 b (ap (λ x. is_chain x) (sym kinds) ∙ c));
  exponents = λ c. exponent-bare n 0 a c ∙ ap (word_b_of 0) e ∙ sym (exponent-bare m 0 b (sym kinds ∙ c));
  elements =
      row-elements (elements a) (first s ∷ end s ∷ [])
      ∙ ap (Chain.row element_count) ((bare-seen a).same ∙ ap (λ c. elements c) e ∙ sym (bare-seen b).same)
      ∙ sym (row-elements (elements b) (first k ∷ end k ∷ []));
}
  where
    kinds : kind_of a ≡ kind_of b
    kinds = sym (kind-bare a) ∙ ap kind_of e ∙ kind-bare b

-- The root row of a plan.
pub plan_root : (whole : Span) (a : Folded) (rest : List ℕ) → Plan.row (plan_words whole a ++ rest) (row_count a - 1) ≡ root_words 0 a whole
plan_root whole a rest =
    ap (λ n. Plan.row (plan_words whole a ++ rest) (n - 1)) (sym (zero-add (row_count a)))
    ∙ root_stands (Plan.row (plan_words whole a ++ rest)) 0 whole a stands
  where
    stands : (i : ℕ) → i < length (rows_from 0 whole a) → Plan.row (plan_words whole a ++ rest) (0 + i) ≡ get_or (rows_from 0 whole a) i []
    stands i k = ap (Plan.row (plan_words whole a ++ rest)) (zero-add i) ∙ row_back whole a rest i (rw (sym (rows_of 0 whole a).count) k)

-- ---- every row of an accepted formula's plan
module _ (w start step : ℕ) {s : List ℕ} {t : Tree} (A : Accepted w s t) where
  part_says : (x : Row) → From w start step t x → Says w s start step x
  part_says x row lent long =
      let own = alone A row.stands in
      let folded = fold w start step own.tree in (
        plan_words (span_of own.tree) folded ++ drop plan_length lent,
        accepted long (subst (λ y. Accepted w y own.tree) (sym text) own.accepts),
        subst (λ y. SameRow y (Plan.row (plan_words (span_of own.tree) folded ++ drop plan_length lent) (row_count folded - 1))) (sym row.words)
            (subst (SameRow (root_words row.from (fold w start step row.part) (span_of row.part)))
            (sym (plan_root (span_of own.tree) folded (drop plan_length lent)))
            (same_root row.from 0 (span_of row.part) (span_of own.tree) (fold w start step row.part) folded (sym (fold_alike w start step own.alike)))),
      )
    where
      text : slice (first_byte x) (end_byte x) s ≡ slice (first (span_of row.part)) (end (span_of row.part)) s
      text =
          ap (λ y. slice (first_byte y) (end_byte y) s) row.words
          ∙ ap₂ (λ f e. slice f e s) (root_first row.from (fold w start step row.part) (span_of row.part))
          (root_end row.from (fold w start step row.part) (span_of row.part))

  pub rows_say : (rest : List ℕ) (r : ℕ) → r < row_count (fold w start step t) → Says w s start step (Plan.row (plan_words (span_of t) (fold w start step t) ++ rest) r)
  rows_say rest r within =
      subst (Says w s start step) (sym (row_back (span_of t) (fold w start step t) rest r within)) (part_says _ (rows_come w start step t r within))
