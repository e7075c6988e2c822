-- Minus of an operand that stands in a plan: what the code leaves is what the rules say.
use Rattle.std.proofs.Common.{◌≡◌, ℕ, ◌+◌, ◌-◌, ◌<◌, ◌≤◌, cond, eqb, List, [], ◌∷◌, ◌++◌, length, get_or, take, set, sym, ap, ◌∙◌, ap₂, arith}
use Rattle.plan.specs.Measures.{row_start}
use Rattle.word.specs.Word as Word
use Rattle.chain.specs.Chain.{trimmed, row}
use Rattle.chain.specs.SumChain.{difference}
use Rattle.chain.specs.ProductChain as ProductChain
use Rattle.chain.specs.Answer.{ChainAnswer}
use Rattle.chain.specs.Answer.{answered, chain, difference_outcome}
use Rattle.plan.specs.Row as Row
use Rattle.plan.specs.Row.{word_a, elements}
use Rattle.plan.specs.Plan as Plan
use Rattle.formula.specs.Tree.{Span}
use Rattle.fold.specs.Folded as Folded
use Rattle.fold.specs.Folded.{Folded, trimmed_product}
use Rattle.fold.specs.Folding.{word_of, fold_minus}
use Rattle.fold.specs.Layout.{row_words}
use Rattle.fold.proofs.Origins.{kind_of}
use Rattle.fold_rows.specs.Standing.{with_row, placed, no_span, filled_with_ones}
use Rattle.fold_operands.specs.Operands.{Operand, Left}
use Rattle.fold_operands.proofs.OperandLaws.{operand-kind, operand-last, operand-elements, operand-chain, operand-taken, sum-operand}
use Rattle.fold_operands.proofs.Leaving.{left_as, sum_left, product-left, answer-put, minus-row-left}
use Rattle.fold_minus.proofs.MinusRules.{minus_rule, minus_otherwise}
use Rattle.fold_minus.proofs.MinusRules.{minus-product, filled-first, first_replaced}
use Rattle.chain.proofs.Calls.{difference_as}
use Rattle.fold_operands.proofs.CallsOnRows.{call_answer}

module _ {p : List ℕ} {first end : ℕ} (s : Span) (a : Folded) (o : Operand p first end s a) where
  abbrev negated : List ℕ
  negated = difference 64 (0 ∷ []) (Folded.elements a)

  -- The difference for a constant or a sum chain is not refused.
  pub negated-accepted : {z f : List ℕ} {k : ℕ} {answer : ChainAnswer} → Row.kind (Plan.row p (end - 1)) < 2
      → z ≡ row 17 [] → f ≡ elements (Plan.row p (end - 1)) → k ≡ word_a (Plan.row p (end - 1))
      → answer ≡ answered (difference_outcome 64 z 0 f k) → answer ≡ answered (chain (trimmed 0 negated))
  unfolding row
  negated-accepted small ez ef ek ea =
      ea
      ∙ (λ i. answered (difference_outcome 64 (ez i) 0 ((ef ∙ operand-elements o few) i) ((ek ∙ operand-last o few) i)))
      ∙ ap answered (call_answer (difference 64) (difference_as 64) (0 ∷ []) (Folded.elements a) (record { some = omega arith; most = omega arith }) (operand-chain o few))
    where
      few : kind_of a ≤ 2
      few = omega (arith, operand-kind o)

  pub leaves-negated : {answer : ChainAnswer} {q : List ℕ} → Row.kind (Plan.row p (end - 1)) < 2
      → answer ≡ answered (chain (trimmed 0 negated))
      → q ≡ with_row p first (cond (eqb answer.length 0) 0 1 ∷ answer.length ∷ 0 ∷ answer.elements ++ 0 ∷ 0 ∷ [])
      → Left p first (fold_minus 64 s a) (first + 1) q
  leaves-negated small ea put =
      left_as (minus_rule 64 s (sum-operand a low) (operand-chain o few).some) (sum_left (trimmed 0 negated) (answer-put p first negated ea put))
    where
      low : kind_of a < 2
      low = omega (arith, operand-kind o)

      few : kind_of a ≤ 2
      few = omega (arith, low)

  pub leaves-first-negated : {f e : List ℕ} {k v : ℕ} {q : List ℕ} → Row.kind (Plan.row p (end - 1)) ≡ 2
      → e ≡ elements (Plan.row p (end - 1)) → k ≡ word_a (Plan.row p (end - 1)) → f ≡ filled_with_ones 17 (take (k + 1) e)
      → v ≡ Word.negation 64 (get_or f 0 0) → q ≡ placed p first no_span (trimmed_product (set f 0 v))
      → Left p first (fold_minus 64 s a) (first + 1) q
  leaves-first-negated {f} {e} {k} {v} two ee ek ef ev put =
      left_as (sym same) (product-left (ProductChain.trimmed_product (set f 0 v)) put)
    where
      chained : kind_of a ≡ 2
      chained = sym (operand-kind o) ∙ two

      few : kind_of a ≤ 2
      few = omega (arith, chained)

      filled : f ≡ filled_with_ones 17 (Folded.elements a)
      filled = ef ∙ ap (filled_with_ones 17) (operand-taken o few ee ek)

      same : trimmed_product (set f 0 v) ≡ fold_minus 64 s a
      same =
          ap₂ (λ l x. trimmed_product (set l 0 x)) filled
          (ev ∙ ap (Word.negation 64) (ap (λ l. get_or l 0 0) filled ∙ filled-first (Folded.elements a) (operand-chain o few)))
          ∙ first_replaced (Word.negation 64 (word_of a)) (Folded.elements a) (operand-chain o few)
          ∙ sym (minus-product 64 s a chained)

  pub leaves-minus : {q : List ℕ} → row_start first ≤ length p → 2 < Row.kind (Plan.row p (end - 1))
      → q ≡ with_row p end (row_words 6 (end - 1) 0 [] no_span) → Left p first (fold_minus 64 s a) (end + 1) q
  leaves-minus room other put = left_as (minus_otherwise 64 s a (omega (arith, operand-kind o))) (minus-row-left o room put)
