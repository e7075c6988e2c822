-- No two results of a call on plans say the same: what a contract says of an answer's numbers settles the result itself.
use Rattle.std.proofs.Common.{◌≡◌, refl, sym, ap, ℕ, Result, Ok, Err}
use Rattle.plan.specs.declared.Refusal.{Refusal}
use Rattle.plan.specs.declared.Refusal.TheVariants.{TooShort, Unsound, RootNotSum}
use Rattle.plan.specs.declared.FilledPoints.{FilledPoints}
use Rattle.plan.specs.declared.CountedPoints.{CountedPoints}
use Rattle.plan.specs.Answers.{SoundAnswer, CostAnswer, FillAnswer, FillErasAnswer, refusal_number, as_sound_answer, as_cost_answer, as_fill_answer, as_fill_eras_answer}

-- ---- refusals
-- No refusal has the number of a plan that is not refused.
pub refused-some : (refusal : Refusal) → refusal_number refusal ≡ 0 → ⊥
refused-some TooShort e = cc
refused-some Unsound e = cc
refused-some RootNotSum e = cc

pub same-refusal : (a b : Refusal) → refusal_number a ≡ refusal_number b → a ≡ b
same-refusal TooShort TooShort e = refl
same-refusal TooShort Unsound e = cc
same-refusal TooShort RootNotSum e = cc
same-refusal Unsound TooShort e = cc
same-refusal Unsound Unsound e = refl
same-refusal Unsound RootNotSum e = cc
same-refusal RootNotSum TooShort e = cc
same-refusal RootNotSum Unsound e = cc
same-refusal RootNotSum RootNotSum e = refl

-- ---- results
pub same-sound : (a b : Result (Unit {0}) Refusal) → as_sound_answer a ≡ as_sound_answer b → a ≡ b
same-sound (Ok _) (Ok _) e = refl
same-sound (Ok _) (Err b) e = absurd (refused-some b (sym (ap (λ (x : SoundAnswer). x.number) e)))
same-sound (Err a) (Ok _) e = absurd (refused-some a (ap (λ (x : SoundAnswer). x.number) e))
same-sound (Err a) (Err b) e = ap Err (same-refusal a b (ap (λ (x : SoundAnswer). x.number) e))

pub same-cost : (a b : Result ℕ Refusal) → as_cost_answer a ≡ as_cost_answer b → a ≡ b
same-cost (Ok a) (Ok b) e = ap Ok (ap (λ (x : CostAnswer). x.cost) e)
same-cost (Ok a) (Err b) e = absurd (refused-some b (sym (ap (λ (x : CostAnswer). x.number) e)))
same-cost (Err a) (Ok b) e = absurd (refused-some a (ap (λ (x : CostAnswer). x.number) e))
same-cost (Err a) (Err b) e = ap Err (same-refusal a b (ap (λ (x : CostAnswer). x.number) e))

pub same-fill : (a b : Result FilledPoints Refusal) → as_fill_answer a ≡ as_fill_answer b → a ≡ b
same-fill (Ok a) (Ok b) e = ap {B = Result FilledPoints Refusal} (λ (x : FillAnswer). Ok record { points = x.points; spent = x.spent }) e
same-fill (Ok a) (Err b) e = absurd (refused-some b (sym (ap (λ (x : FillAnswer). x.number) e)))
same-fill (Err a) (Ok b) e = absurd (refused-some a (ap (λ (x : FillAnswer). x.number) e))
same-fill (Err a) (Err b) e = ap Err (same-refusal a b (ap (λ (x : FillAnswer). x.number) e))

pub same-fill_eras : (a b : Result CountedPoints Refusal) → as_fill_eras_answer a ≡ as_fill_eras_answer b → a ≡ b
same-fill_eras (Ok a) (Ok b) e =
    ap {B = Result CountedPoints Refusal} (λ (x : FillErasAnswer). Ok record { points = x.points; spent = x.spent; sum = x.sum }) e
same-fill_eras (Ok a) (Err b) e = absurd (refused-some b (sym (ap (λ (x : FillErasAnswer). x.number) e)))
same-fill_eras (Err a) (Ok b) e = absurd (refused-some a (ap (λ (x : FillErasAnswer). x.number) e))
same-fill_eras (Err a) (Err b) e = ap Err (same-refusal a b (ap (λ (x : FillErasAnswer). x.number) e))
