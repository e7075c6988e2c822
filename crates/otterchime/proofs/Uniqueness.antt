-- Any two answers that meet the contract of a call of the door are equal, and so is what two calls leave in plan and table.
use mathlib.Core.Path.{◌≡◌, ap, ◌∙◌, sym}
use mathlib.Core.List.{List}
use Prim.Native.Nat.{ℕ}
use Rattle.word.proofs.Unique.{both_are}
use Rattle.chain.specs.Answer.{answered, trim_outcome, sum_outcome, difference_outcome, product_outcome, shift_answer, coefficients_outcome, value_answer}
use Rattle.chain.specs.BackwardAnswer.{inverse_shift_outcome, backward_shift_outcome, backward_inverse_shift_outcome, backward_product_outcome, to_backward_outcome, to_forward_outcome}
use Rattle.plan.specs.Filling.{fill, cost_answer, sound_answer}
use Rattle.plan.specs.Eras.{fill_eras}
use Rattle.fold.proofs.Promise.{compiling_unique}
use Rattle.reason.proofs.Answers.{explaining-unique}
use Rattle.probe.specs.Probe.{probe_answer}
use Rattle.otterchime.specs.Answers.{CompiledInto, compile_words, ExplainedInto, reason_words, fill_words, fill_eras_words, cost_words, sound_words, chain_words, shift_words, value_words, probe_words}

pub compile_unique : {text lent plan plan' answer answer' : List ℕ} {start step : ℕ}
    → CompiledInto text start step lent plan answer → CompiledInto text start step lent plan' answer' → (answer ≡ answer') × (plan ≡ plan')
compile_unique A B =
    let same = compiling_unique A.compiles B.compiles in
    (A.laid ∙ ap compile_words same.0 ∙ sym B.laid, same.1)

-- Answer, table and plan of a fill.
pub fill-unique : (plan table : List ℕ) (budget : ℕ) {answer answer' filled filled' left left' : List ℕ}
    → let done = fill 64 plan table budget in
    (answer ≡ fill_words done.answer) × ((filled ≡ done.table) × (left ≡ done.plan))
    → (answer' ≡ fill_words done.answer) × ((filled' ≡ done.table) × (left' ≡ done.plan))
    → (answer ≡ answer') × ((filled ≡ filled') × (left ≡ left'))
fill-unique plan table budget A B = (both_are A.0 B.0, (both_are A.1.0 B.1.0, both_are A.1.1 B.1.1))

-- The same of filling with era count.
pub fill_eras_unique : (plan table : List ℕ) (budget : ℕ) {answer answer' filled filled' left left' : List ℕ}
    → let done = fill_eras 64 plan table budget in
    (answer ≡ fill_eras_words done.answer) × ((filled ≡ done.table) × (left ≡ done.plan))
    → (answer' ≡ fill_eras_words done.answer) × ((filled' ≡ done.table) × (left' ≡ done.plan))
    → (answer ≡ answer') × ((filled ≡ filled') × (left ≡ left'))
fill_eras_unique plan table budget A B = (both_are A.0 B.0, (both_are A.1.0 B.1.0, both_are A.1.1 B.1.1))

pub reason_unique : {plan answer answer' : List ℕ} {row : ℕ} → ExplainedInto plan row answer → ExplainedInto plan row answer' → answer ≡ answer'
reason_unique {plan} {row = row} A B =
    A.laid ∙ ap reason_words (explaining-unique 64 plan row A.explains B.explains) ∙ sym B.laid

-- ---- the calls that alter nothing but their answer
module _ (answer answer' : List ℕ) where
  pub cost-unique : (plan : List ℕ)
      → let words = cost_words (cost_answer plan) in answer ≡ words → answer' ≡ words → answer ≡ answer'
  cost-unique plan = both_are

  pub sound-unique : (plan : List ℕ)
      → let words = sound_words (sound_answer plan) in answer ≡ words → answer' ≡ words → answer ≡ answer'
  sound-unique plan = both_are

  pub trim_unique : (f : List ℕ) (k : ℕ)
      → let words = chain_words (answered (trim_outcome f k)) in answer ≡ words → answer' ≡ words → answer ≡ answer'
  trim_unique f k = both_are

  pub shift-unique : (f : List ℕ) (k : ℕ)
      → let words = shift_words (shift_answer 64 f k) in answer ≡ words → answer' ≡ words → answer ≡ answer'
  shift-unique f k = both_are

  pub value-unique : (f : List ℕ) (k : ℕ)
      → let words = value_words (value_answer f k) in answer ≡ words → answer' ≡ words → answer ≡ answer'
  value-unique f k = both_are

  pub sum-unique : (f : List ℕ) (k : ℕ) (g : List ℕ) (l : ℕ)
      → let words = chain_words (answered (sum_outcome 64 f k g l)) in answer ≡ words → answer' ≡ words → answer ≡ answer'
  sum-unique f k g l = both_are

  pub difference-unique : (f : List ℕ) (k : ℕ) (g : List ℕ) (l : ℕ)
      → let words = chain_words (answered (difference_outcome 64 f k g l)) in answer ≡ words → answer' ≡ words → answer ≡ answer'
  difference-unique f k g l = both_are

  pub product-unique : (f : List ℕ) (k : ℕ) (g : List ℕ) (l : ℕ)
      → let words = chain_words (answered (product_outcome 64 f k g l)) in answer ≡ words → answer' ≡ words → answer ≡ answer'
  product-unique f k g l = both_are

  pub from_coefficients_unique : (a : List ℕ)
      → let words = chain_words (answered (coefficients_outcome 64 a)) in answer ≡ words → answer' ≡ words → answer ≡ answer'
  from_coefficients_unique a = both_are

  -- A backward chain's value and sum are answered as a forward chain's: `value-unique` and `sum-unique` are theirs too.
  pub inverse_shift-unique : (f : List ℕ) (k : ℕ)
      → let words = chain_words (answered (inverse_shift_outcome 64 f k)) in answer ≡ words → answer' ≡ words → answer ≡ answer'
  inverse_shift-unique f k = both_are

  pub backward_shift-unique : (f : List ℕ) (k : ℕ)
      → let words = chain_words (answered (backward_shift_outcome 64 f k)) in answer ≡ words → answer' ≡ words → answer ≡ answer'
  backward_shift-unique f k = both_are

  pub backward_inverse_shift-unique : (f : List ℕ) (k : ℕ)
      → let words = chain_words (answered (backward_inverse_shift_outcome 64 f k)) in answer ≡ words → answer' ≡ words → answer ≡ answer'
  backward_inverse_shift-unique f k = both_are

  pub to_backward_unique : (f : List ℕ) (k : ℕ)
      → let words = chain_words (answered (to_backward_outcome 64 f k)) in answer ≡ words → answer' ≡ words → answer ≡ answer'
  to_backward_unique f k = both_are

  pub to_forward_unique : (f : List ℕ) (k : ℕ)
      → let words = chain_words (answered (to_forward_outcome 64 f k)) in answer ≡ words → answer' ≡ words → answer ≡ answer'
  to_forward_unique f k = both_are

  pub backward_product-unique : (f : List ℕ) (k : ℕ) (g : List ℕ) (l : ℕ)
      → let words = chain_words (answered (backward_product_outcome 64 f k g l)) in answer ≡ words → answer' ≡ words → answer ≡ answer'
  backward_product-unique f k g l = both_are

  pub probe_unique : (reading expected tolerance : ℕ)
      → let words = probe_words (probe_answer reading expected tolerance) in answer ≡ words → answer' ≡ words → answer ≡ answer'
  probe_unique reading expected tolerance = both_are
