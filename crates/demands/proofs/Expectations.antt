-- What the verdict and the rows of a text's folded tree come to: everything that a line of the starred table says.
use mathlib.Core.Path.{◌≡◌, refl, sym, ap, ap₂, subst, ◌∙◌}
use mathlib.Core.List.{List, [], ◌∷◌, ◌++◌}
use Prim.Native.Nat.{ℕ, zero, suc, ◌+◌, ◌*◌, ◌/◌, ◌≤◌, min}
use native.Mathlib.Nat.{zero-add, mod-eq_of_lt}
use native.Mathlib.Omega.{arith}
use lib.ListN.{length, get_or, drop, replicate, length-replicate}
use Rattle.plan.specs.Measures.{plan_length}
use Rattle.chain.specs.Coefficients.{tabulated}
use Rattle.formula.specs.Tree.{Span, Tree, span_of}
use Rattle.formula.specs.Refusals.{Refused, Accepted}
use Rattle.formula.specs.Value.{direct_value}
use Rattle.formula_scan.proofs.Answers.{accepted_base}
use Rattle.plan.specs.Row.{Row, kind_facts}
use Rattle.plan.specs.Plan as Plan
use Rattle.plan.specs.Filling.{points_for, plan_after, point_values, Filled, filled, fill, cost_answer}
use Rattle.plan.proofs.Accepting.{cost-accepted, fill-accepted}
use Rattle.plan.proofs.Sharing.{point_at}
use Rattle.fold.specs.Folded.{Folded, constant, value_at}
use Rattle.fold.specs.Folding.{fold}
use Rattle.fold.specs.Layout.{rows_from, plan_words}
use Rattle.fold.proofs.Shape.{WellFormed}
use Rattle.fold.proofs.FoldShape.{accepted-formed}
use Rattle.fold.proofs.FoldValues.{fold-value}
use Rattle.fold.proofs.ReadBack.{rows_back}
use Rattle.fold.proofs.Compiled.{compiled_accepted, compiled_value}
use Rattle.fold.specs.Answer.{CompileAnswer}
use Rattle.fold.specs.Compiling.{Compiling, refused, accepted}
use Rattle.fold.proofs.Promise.{compiling_unique}
use Rattle.demands.specs.Starred as Starred
use Rattle.demands.specs.Starred.{plan_of, Compiles, RefusedSo, FoldsSo, FillsSo}
use Rattle.demands.proofs.PlanRows.{shifted_rows, points_by_rows, points_known, plan_by_rows, left_by_rows}

module _ (s : List ℕ) (start step : ℕ) where
  compiles_only : {answer : CompileAnswer} {left : List ℕ → List ℕ}
      → ((lent : List ℕ) → plan_length ≤ length lent → Compiling 64 s start step lent answer (left lent)) → Compiles s start step answer left
  compiles_only conforms = record { conforms = conforms; unique = λ lent long A. compiling_unique A (conforms lent long) }

  pub refused_so : {number place : ℕ} → Refused 64 s number place → RefusedSo s start step number place
  refused_so R = record { refused = R; compiles = compiles_only (λ lent long. refused long R) }

  -- ---- an accepted text
  module _ {t : Tree} (A : Accepted 64 s t) where
    abbrev folded : Folded
    folded = fold 64 start step t

    abbrev rows_of : List Row
    rows_of = rows_from 0 (span_of t) folded

    abbrev lent : List ℕ → List ℕ
    lent rest = plan_words (span_of t) folded ++ rest

    cost_by_rows : (rest : List ℕ) → Plan.cost (lent rest) ≡ Plan.cost_of rows_of
    cost_by_rows rest = ap Plan.cost_of (rows_back (span_of t) folded rest)

    direct-points : (n : ℕ) (rest : List ℕ) → point_values 64 n (lent rest) ≡ tabulated (direct_value 64 start step t) 0 n
    direct-points n rest =
        points_known 64 n 0 (lent rest) (direct_value 64 start step t)
        (λ i. compiled_value 64 start step (omega arith) A rest i ∙ ap (λ k. direct_value 64 start step t k) (sym (zero-add i)))

    pub folds_so : {rows : List Row} {cost : ℕ} {values : List ℕ} → rows_of ≡ rows → Plan.cost_of rows_of ≡ cost
        → tabulated (direct_value 64 start step t) 0 (length values) ≡ values → FoldsSo s start step rows cost values
    folds_so {rows} {cost} {values} same_rows same-cost same-values = record {
      tree = t;
      accepted = A;
      laid = laid;
      compiles =
          compiles_only
          (λ given long. subst (λ p. Compiling 64 s start step given (record { number = 0; place = 0 }) (p ++ drop plan_length given)) laid (accepted long A));
      has_rows = λ rest. ap (λ p. Plan.rows (p ++ rest)) (sym laid) ∙ rows_back (span_of t) folded rest ∙ same_rows;
      costs =
          λ rest. subst (λ p. cost_answer (p ++ rest) ≡ record { number = 0; place = 0; cost = cost }) laid
          (sym
          (cost-accepted (lent rest) (compiled_accepted 64 start step (omega arith) A rest) (sym (cost_by_rows rest ∙ same-cost))));
      points = λ rest. subst (λ p. point_values 64 (length values) (p ++ rest) ≡ values) laid (written rest);
      direct =
          λ i h. sym (compiled_value 64 start step (omega arith) A [] i)
          ∙ sym (point_at 64 (length values) (lent []) i h)
          ∙ ap (λ l. get_or l i 0) (written []);
    }
      where
        laid : plan_words (span_of t) folded ≡ plan_of rows
        laid = plan_by_rows (span_of t) folded ∙ ap plan_of same_rows

        written : (rest : List ℕ) → point_values 64 (length values) (lent rest) ≡ values
        written rest = direct-points (length values) rest ∙ same-values

    -- The folded tree is a constant.
    module _ {value : ℕ} {whole : Span} (same : folded ≡ constant value) (spans : span_of t ≡ whole) where
      constant-value : (i : ℕ) → direct_value 64 start step t i ≡ value
      unfolding WellFormed value_at
      constant-value i =
          sym (fold-value 64 start step t (accepted_base A) i)
          ∙ ap (λ a. value_at 64 a i) same
          ∙ mod-eq_of_lt (subst (WellFormed 64) same (accepted-formed 64 start step A (omega arith)))

      constant-values : (m n : ℕ) → tabulated (direct_value 64 start step t) m n ≡ replicate n value
      unfolding tabulated
      constant-values m zero = refl
      constant-values m (suc n) = ap₂ {C = List ℕ} ◌∷◌ (constant-value m) (constant-values (suc m) n)

      pub constantly_so : (n : ℕ) → FoldsSo s start step (Starred.alone (Starred.constant value whole)) 0 (replicate n value)
      unfolding rows_from Plan.cost_of kind_facts
      constantly_so n =
          folds_so (ap₂ (rows_from 0) spans same) (ap₂ (λ k a. Plan.cost_of (rows_from 0 k a)) spans same)
          (constant-values 0 (length (replicate n value)) ∙ ap (λ k. replicate k value) (length-replicate n value))

    pub fills_so : {budget room points spent : ℕ} {left : List Row} → points_by_rows budget room rows_of ≡ points
        → points_by_rows budget room rows_of * (Plan.cost_of rows_of + 1) ≡ spent → shifted_rows 64 (points_by_rows budget room rows_of) rows_of ≡ left
        → FillsSo s start step budget room points spent left
    fills_so {budget} {room} {points} {spent} {left} same_points same-spent same_left = record {
      tree = t;
      accepted = A;
      filled =
          λ given long C table size. ap (λ q. fill 64 q table budget) (compiling_unique C (accepted long A)).1
          ∙ fill-accepted 64 (lent (drop plan_length given)) table budget (compiled_accepted 64 start step (omega arith) A (drop plan_length given))
          ∙ ap (λ n. filled 64 n (lent (drop plan_length given)) table) (counted (drop plan_length given) table size)
          ∙ ap
          (λ n. filling n (point_values 64 points (lent (drop plan_length given)) ++ drop points table) (plan_after 64 points (lent (drop plan_length given))))
          (paid (drop plan_length given))
          ∙ ap₂ (λ l q. filling spent (l ++ drop points table) q) (direct-points points (drop plan_length given)) (after (drop plan_length given));
    }
      where
        filling : ℕ → List ℕ → List ℕ → Filled
        filling n table plan =
            record { answer = record { number = 0; place = 0; points = points; spent = n }; table = table; plan = plan }

        counted : (rest table : List ℕ) → length table ≡ room → points_for (lent rest) (length table) budget ≡ points
        counted rest table size = ap₂ (λ n c. min n (budget / (c + 1))) size (cost_by_rows rest) ∙ same_points

        paid : (rest : List ℕ) → points * (Plan.cost (lent rest) + 1) ≡ spent
        paid rest = ap₂ (λ n c. n * (c + 1)) (sym same_points) (cost_by_rows rest) ∙ same-spent

        after : (rest : List ℕ) → plan_after 64 points (lent rest) ≡ plan_of left ++ rest
        after rest =
            left_by_rows (span_of t) folded 64 points rest
            ∙ ap (λ l. plan_of l ++ rest) (ap (λ n. shifted_rows 64 n rows_of) (sym same_points) ∙ same_left)
