-- The plan of an accepted formula: no call refuses it, and its points are the formula's direct values, which are words.
use mathlib.Core.Path.{◌≡◌, refl, sym, ap, ap₂, subst, ◌∙◌}
use mathlib.Core.List.{List, [], ◌∷◌, ◌++◌, append-nil}
use Prim.Native.Nat.{ℕ, zero, suc, ◌+◌, ◌*◌, ◌^◌, ◌<◌}
use native.Mathlib.Numerals.{add-one}
use native.Mathlib.Omega.{arith}
use lib.ListN.{length, get_or}
use lib.Pow.{pow_pos}
use Rattle.word.proofs.Ring.{word_fits}
use Rattle.formula.specs.Tree.{Tree, span_of, number, variable, sum, difference, product, minus, literal_power, raise}
use Rattle.formula.specs.Value.{value_for, direct_value}
use Rattle.formula.specs.Refusals.{Accepted}
use Rattle.plan.specs.Plan.{refusal}
use Rattle.plan.specs.Points.{root_value}
use Rattle.plan.specs.Filling.{plan_after, point_values}
use Rattle.plan.proofs.Sharing.{after_next}
use Rattle.fold.specs.Folding.{fold}
use Rattle.fold.specs.Layout.{plan_words}
use Rattle.fold.proofs.Compiled.{compiled_accepted, compiled_value}
use Rattle.table.specs.Lines.{direct_values}

-- ---- the points of a plan with these values
module _ (w start step : ℕ) (t : Tree) where
  values-from : (p : List ℕ) → ((i : ℕ) → root_value w (plan_after w i p) ≡ direct_value w start step t i)
      → (n i : ℕ) → point_values w n (plan_after w i p) ≡ direct_values w start step t i n
  unfolding point_values direct_values
  values-from p same zero i = refl
  values-from p same (suc n) i =
      ap₂ {C = List ℕ} ◌∷◌ (same i)
      (ap (point_values w n) (sym (after_next w i p) ∙ ap (λ k. plan_after w k p) (add-one i)) ∙ values-from p same n (suc i))

  pub length-direct : (i n : ℕ) → length (direct_values w start step t i n) ≡ n
  unfolding direct_values
  length-direct i zero = refl
  length-direct i (suc n) = ap suc (length-direct (suc i) n)

  -- Every direct value is a word.
  value_fits : (x : ℕ) (u : Tree) → value_for w x u < 2 ^ w
  unfolding value_for
  value_fits x (number s p v) = word_fits w _
  value_fits x (variable s) = word_fits w _
  value_fits x (sum s a b) = word_fits w _
  value_fits x (difference s a b) = word_fits w _
  value_fits x (product s a b) = word_fits w _
  value_fits x (minus s a) = word_fits w _
  value_fits x (literal_power s a p n) = word_fits w _
  value_fits x (raise s a p b) = word_fits w _

  pub direct_fits : (i n j : ℕ) → get_or (direct_values w start step t i n) j 0 < 2 ^ w
  unfolding direct_values
  direct_fits i zero j = pow_pos w
  direct_fits i (suc n) zero = value_fits (start + i * step) t
  direct_fits i (suc n) (suc j) = direct_fits (suc i) n j

-- ---- the plan's own words, with none behind them
module _ (start step : ℕ) {s : List ℕ} {t : Tree} (accepted : Accepted 64 s t) where
  alone : plan_words (span_of t) (fold 64 start step t) ++ [] ≡ plan_words (span_of t) (fold 64 start step t)
  alone = append-nil (plan_words (span_of t) (fold 64 start step t))

  pub accepted-sound : refusal (plan_words (span_of t) (fold 64 start step t)) ≡ 0
  accepted-sound = subst (λ p. refusal p ≡ 0) alone (compiled_accepted 64 start step (omega arith) accepted [])

  pub accepted-values : (n : ℕ) → point_values 64 n (plan_words (span_of t) (fold 64 start step t)) ≡ direct_values 64 start step t 0 n
  unfolding plan_after
  accepted-values n = values-from 64 start step t (plan_words (span_of t) (fold 64 start step t)) same n 0
    where
      same : (i : ℕ) → root_value 64 (plan_after 64 i (plan_words (span_of t) (fold 64 start step t))) ≡ direct_value 64 start step t i
      same i = ap (λ p. root_value 64 (plan_after 64 i p)) (sym alone) ∙ compiled_value 64 start step (omega arith) accepted [] i
