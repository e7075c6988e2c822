-- What the calls answer is settled by their contracts: two results that meet one contract are equal, since a result is all that its record says.
-- That two records which meet it are equal stands in Demands.antt.
use Rattle.std.proofs.Common.{◌≡◌, ◌∙◌, sym, ℕ, List, Result}
use Rattle.chain.specs.declared.Chain.{Chain}
use Rattle.chain.specs.declared.Shifted.{Shifted}
use Rattle.chain.specs.declared.Refusal.{Refusal as ChainRefusal}
use Rattle.chain.specs.Answer.{Outcome, ShiftAnswer, ValueAnswer, answered, as_chain_answer, as_shift_answer, as_value_answer}
use Rattle.chain.proofs.Decoding.{same-chain_answer, same-shift_answer, same-value_answer}
use Rattle.formula.specs.declared.Refusal.{Refusal as FormulaRefusal}
use Rattle.formula.specs.Answer.{as_read_answer}
use Rattle.formula.specs.Refusals.{Reading}
use Rattle.formula.proofs.Refused.{same-answer}
use Rattle.formula_scan.proofs.Answers.{reading_unique}
use Rattle.plan.specs.declared.Refusal.{Refusal as PlanRefusal}
use Rattle.plan.specs.declared.FilledPoints.{FilledPoints}
use Rattle.plan.specs.declared.CountedPoints.{CountedPoints}
use Rattle.plan.specs.Answers.{SoundAnswer, CostAnswer, FillAnswer, FillErasAnswer, as_sound_answer, as_cost_answer, as_fill_answer, as_fill_eras_answer}
use Rattle.plan.proofs.Decoding.{same-sound, same-cost, same-fill, same-fill_eras}
use Rattle.fold.specs.Answer.{as_compile_answer}
use Rattle.fold.specs.Compiling.{Compiling}
use Rattle.fold.proofs.Promise.{compiling_unique, same-compile_answer}
use Rattle.reason.specs.declared.Explained.{Explained}
use Rattle.reason.specs.Answer.{as_reason_answer}
use Rattle.reason.specs.Explaining.{Explaining}
use Rattle.reason.proofs.Answers.{explaining-unique}
use Rattle.reason.proofs.Decoding as Reasons
use Rattle.probe.specs.declared.Reading.{Reading as Probed}
use Rattle.probe.specs.declared.ToleranceTooLarge.{ToleranceTooLarge}
use Rattle.probe.specs.Answer.{ProbeAnswer, as_probe_answer}
use Rattle.probe.proofs.Laws as Probe
use Rattle.table.specs.declared.Tool.{Tool}
use Rattle.table_progress.specs.declared.NotDone.{NotDone}
use Rattle.table_progress.specs.declared.Progress.{Progress}
use Rattle.table_progress.specs.declared.Stepped.{Stepped as Step}
use Rattle.table_progress.specs.Steps.{Buffers, as_stepped, stepped, finished}
use Rattle.table_progress.proofs.Uniqueness.{step-unique, finish_unique, same-stepped}

-- ---- chains: of every call that answers a chain, a shift or a word
pub chain_result_unique : (r s : Result Chain ChainRefusal) (outcome : Outcome)
    → as_chain_answer r ≡ answered outcome → as_chain_answer s ≡ answered outcome → r ≡ s
chain_result_unique r s outcome p q = same-chain_answer r s (p ∙ sym q)

pub shift_result_unique : (r s : Result Shifted ChainRefusal) (answer : ShiftAnswer) → as_shift_answer r ≡ answer → as_shift_answer s ≡ answer → r ≡ s
shift_result_unique r s answer p q = same-shift_answer r s (p ∙ sym q)

pub value_result_unique : (r s : Result ℕ ChainRefusal) (answer : ValueAnswer) → as_value_answer r ≡ answer → as_value_answer s ≡ answer → r ≡ s
value_result_unique r s answer p q = same-value_answer r s (p ∙ sym q)

-- ---- formulas: reading and compiling
pub read_result_unique : {w : ℕ} {text lent left left' : List ℕ} (r s : Result (Unit {0}) FormulaRefusal)
    → Reading w text lent (as_read_answer r) left → Reading w text lent (as_read_answer s) left' → r ≡ s
read_result_unique r s A B = same-answer r s (reading_unique A B).0

pub compile_result_unique : {w start step : ℕ} {text lent left left' : List ℕ} (r s : Result (Unit {0}) FormulaRefusal)
    → Compiling w text start step lent (as_compile_answer r) left → Compiling w text start step lent (as_compile_answer s) left' → r ≡ s
compile_result_unique r s A B = same-compile_answer r s (compiling_unique A B).0

-- ---- plans: soundness, cost, and filling either way
pub sound_result_unique : (r s : Result (Unit {0}) PlanRefusal) (answer : SoundAnswer) → as_sound_answer r ≡ answer → as_sound_answer s ≡ answer → r ≡ s
sound_result_unique r s answer p q = same-sound r s (p ∙ sym q)

pub cost_result_unique : (r s : Result ℕ PlanRefusal) (answer : CostAnswer) → as_cost_answer r ≡ answer → as_cost_answer s ≡ answer → r ≡ s
cost_result_unique r s answer p q = same-cost r s (p ∙ sym q)

pub fill_result_unique : (r s : Result FilledPoints PlanRefusal) (answer : FillAnswer) → as_fill_answer r ≡ answer → as_fill_answer s ≡ answer → r ≡ s
fill_result_unique r s answer p q = same-fill r s (p ∙ sym q)

pub fill_eras_result_unique : (r s : Result CountedPoints PlanRefusal) (answer : FillErasAnswer)
    → as_fill_eras_answer r ≡ answer → as_fill_eras_answer s ≡ answer → r ≡ s
fill_eras_result_unique r s answer p q = same-fill_eras r s (p ∙ sym q)

-- ---- rows explained, and the probe
pub reason_result_unique : (w : ℕ) (plan : List ℕ) (row : ℕ) (r s : Result Explained PlanRefusal)
    → Explaining w plan row (as_reason_answer r) → Explaining w plan row (as_reason_answer s) → r ≡ s
reason_result_unique w plan row r s A B = Reasons.same-result r s (explaining-unique w plan row A B)

pub probe_result_unique : (r s : Result Probed ToleranceTooLarge) (answer : ProbeAnswer) → as_probe_answer r ≡ answer → as_probe_answer s ≡ answer → r ≡ s
probe_result_unique r s answer p q = Probe.same-result r s (p ∙ sym q)

-- ---- a run's steps and its end, and the buffers that they leave
pub step_result_unique : (tool : Tool) (p : Progress) (input : List ℕ) (b : Buffers) (r s : Result Step NotDone) {after after' : Buffers}
    → record { answer = as_stepped p r; buffers = after } ≡ stepped tool p input b
    → record { answer = as_stepped p s; buffers = after' } ≡ stepped tool p input b → (r ≡ s) × (after ≡ after')
step_result_unique tool p input b r s A B = let told = step-unique tool p input b A B in (same-stepped p r s told.0, told.1)

pub finish_result_unique : (tool : Tool) (p : Progress) (b : Buffers) (r s : Result Step NotDone) {after after' : Buffers}
    → record { answer = as_stepped p r; buffers = after } ≡ finished tool p b
    → record { answer = as_stepped p s; buffers = after' } ≡ finished tool p b → (r ≡ s) × (after ≡ after')
finish_result_unique tool p b r s A B = let told = finish_unique tool p b A B in (same-stepped p r s told.0, told.1)
