-- Sums and differences of operands that stand in a plan: what the code leaves is what the rules say.
use mathlib.Core.Path.{◌≡◌, sym, ap, ap₂, ◌∙◌}
use mathlib.Core.Bool.{Bool, true, false, cond, ◌&&◌, and-eq-true_iff}
use mathlib.Core.List.{List, [], ◌∷◌, ◌++◌}
use Prim.Native.Nat.{ℕ, ◌+◌, ◌-◌, ◌≤◌, ◌<◌}
use native.Mathlib.Omega.{arith}
use lib.Dec.{eqb, ltb}
use lib.ListN.{length}
use borrow.Author.Tests.{ltb-true}
use Rattle.plan.specs.Measures.{row_start}
use Rattle.chain.specs.Chain.{trimmed}
use Rattle.chain.specs.Answer.{ChainAnswer}
use Rattle.chain.specs.Answer.{answered, chain}
use Rattle.plan.specs.Row as Row
use Rattle.plan.specs.Row.{word_a, elements}
use Rattle.plan.specs.Plan as Plan
use Rattle.fold.specs.Folded as Folded
use Rattle.fold.specs.Folded.{Spans, Folded}
use Rattle.fold.specs.Folding.{is}
use Rattle.fold.specs.Layout.{row_words}
use Rattle.fold.proofs.Origins.{kind_of}
use Rattle.fold_rows.specs.Standing.{with_row, placed, no_span, moved_down}
use Rattle.fold.proofs.KindTests.{sum_test}
use Rattle.fold_rows.proofs.Stood.{placed-over}
use Rattle.fold_operands.specs.Operands.{Operand, Operands, Left, Folds}
use Rattle.fold_operands.proofs.OperandLaws.{constant_at, operand-kind, operand-last, operand-elements, operand-chain, operand-is, sum-operand}
use Rattle.fold_operands.proofs.Leaving.{left_as, sum_left, answer-put, stays, moves, moved-operand, sum-row-left, difference-row-left}
use Rattle.fold_sums.specs.ByKind.{SumOrDifference, plus, less, fold_sum_or_difference, chain_of_both, both_outcome, fold_alone, row_of_both}
use Rattle.fold_sums.proofs.SumRules.{both-answer, both_rule, both_otherwise, alone-rows}

-- ---- fold_sum, of either kind
module _ {kind : ℕ} (which : SumOrDifference kind) {p : List ℕ} {left middle end : ℕ} (s : Spans) (a b : Folded) (o : Operands p left middle end s a b)
    {t : Bool} (test : t ≡ (ltb (Row.kind (Plan.row p (middle - 1))) 2 && ltb (Row.kind (Plan.row p (end - 1))) 2)) where
  kinds_test : t ≡ (ltb (kind_of a) 2 && ltb (kind_of b) 2)
  kinds_test = test ∙ ap₂ (λ x y. ltb x 2 && ltb y 2) (operand-kind o.first) (operand-kind o.second)

  -- Both are constants or sum chains.
  module _ (holds : t ≡ true) where
    abbrev result : List ℕ
    result = chain_of_both 64 kind (Folded.elements a) (Folded.elements b)

    tests : (ltb (kind_of a) 2 ≡ true) × (ltb (kind_of b) 2 ≡ true)
    tests = (and-eq-true_iff (ltb (kind_of a) 2) (ltb (kind_of b) 2)).0 (sym kinds_test ∙ holds)

    less_a : kind_of a < 2
    less_a = ltb-true (kind_of a) 2 tests.0

    less_b : kind_of b < 2
    less_b = ltb-true (kind_of b) 2 tests.1

    few_a : kind_of a ≤ 2
    few_a = omega (arith, less_a)

    few_b : kind_of b ≤ 2
    few_b = omega (arith, less_b)

    -- The call on them is not refused.
    pub both-accepted : {answer : ChainAnswer}
        → answer
        ≡ answered (both_outcome 64 kind (elements (Plan.row p (middle - 1))) (word_a (Plan.row p (middle - 1)))
        (elements (Plan.row p (end - 1))) (word_a (Plan.row p (end - 1))))
        → answer ≡ answered (chain (trimmed 0 result))
    both-accepted ea =
        ea
        ∙ (λ i. answered (both_outcome 64 kind (operand-elements o.first few_a i) (operand-last o.first few_a i)
        (operand-elements o.second few_b i) (operand-last o.second few_b i)))
        ∙ ap answered
        (both-answer 64 which (Folded.elements a) (Folded.elements b) (operand-chain o.first few_a) (operand-chain o.second few_b))

    pub leaves-chain : {answer : ChainAnswer} {q : List ℕ} → answer ≡ answered (chain (trimmed 0 result))
        → q ≡ with_row p left (cond (eqb answer.length 0) 0 1 ∷ answer.length ∷ 0 ∷ answer.elements ++ 0 ∷ 0 ∷ [])
        → Left p left (fold_sum_or_difference 64 kind s a b) (left + 1) q
    leaves-chain ea put =
        left_as (both_rule 64 which s (sum-operand a less_a) (sum-operand b less_b))
        (sum_left (trimmed 0 result) (answer-put p left result ea put))

  -- Not both.
  module _ (fails : t ≡ false) {z : Bool} (zero_right : z ≡ constant_at p (end - 1) 0) where
    right_is : is 0 b ≡ z
    right_is = sym (operand-is o.second 0) ∙ sym zero_right

    otherwise : fold_sum_or_difference 64 kind s a b ≡ cond z a (cond (is 0 a) (fold_alone 64 kind s.right b) (row_of_both kind s a b))
    otherwise =
        both_otherwise 64 which s a b (ap₂ ◌&&◌ (sum_test a) (sum_test b) ∙ sym kinds_test ∙ fails)
        ∙ ap (λ t. cond t a (cond (is 0 a) (fold_alone 64 kind s.right b) (row_of_both kind s a b))) right_is

    -- A + 0 and A - 0.
    pub leaves-left : z ≡ true → Left p left (fold_sum_or_difference 64 kind s a b) (end - 1) p
    leaves-left holds =
        left_as (otherwise ∙ ap (λ t. cond t a (cond (is 0 a) (fold_alone 64 kind s.right b) (row_of_both kind s a b))) holds) (stays o 0 (right_is ∙ holds))

    module _ (some : z ≡ false) (room : row_start left ≤ length p) {y : Bool} (zero_left : y ≡ constant_at p (middle - 1) 0) where
      left_is : is 0 a ≡ y
      left_is = sym (operand-is o.first 0) ∙ sym zero_left

      next : {t : Bool} → y ≡ t → fold_sum_or_difference 64 kind s a b ≡ cond t (fold_alone 64 kind s.right b) (row_of_both kind s a b)
      next e = otherwise ∙ ap₂ (λ t u. cond t a (cond u (fold_alone 64 kind s.right b) (row_of_both kind s a b))) some (left_is ∙ e)

      -- 0 + A and 0 - A: A moves down.
      module _ (holds : y ≡ true) {q : List ℕ} (move : q ≡ moved_down middle (end - middle) p) where
        pub moved_down_lem : Operand q left (end - 1) s.right b
        moved_down_lem = moved-operand o room 0 (left_is ∙ holds) move

        pub leaves-alone : {r : ℕ} {q' : List ℕ} → Folds (fold_alone 64 kind) q left (end - 1) r q'
            → Left p left (fold_sum_or_difference 64 kind s a b) r q'
        leaves-alone {r} {q'} h =
            left_as (next holds)
            record {
              under = folded.under;
              words =
                  folded.words
                  ∙ ap (λ l. placed l left folded.under (fold_alone 64 kind s.right b)) moved.words
                  ∙ placed-over p left moved.under b room folded.under (fold_alone 64 kind s.right b) (alone-rows 64 which s.right b);
              behind = folded.behind;
            }
          where
            moved : Left p left b (end - 1) q
            moved = moves o room 0 (left_is ∙ holds) move

            folded : Left q left (fold_alone 64 kind s.right b) r q'
            folded = h s.right b moved_down_lem

      -- "Anything else stays a row of the plan."
      pub leaves-row : y ≡ false → {q : List ℕ} → q ≡ with_row p end (row_words kind (middle - 1) (end - 1) [] no_span)
          → Left p left (fold_sum_or_difference 64 kind s a b) (end + 1) q
      leaves-row other-left put = left_as (next other-left) (row-left which put)
        where
          row-left : {kind : ℕ} → SumOrDifference kind → {q : List ℕ} → q ≡ with_row p end (row_words kind (middle - 1) (end - 1) [] no_span)
              → Left p left (row_of_both kind s a b) (end + 1) q
          row-left plus = sum-row-left o room
          row-left less = difference-row-left o room
