-- The answers of the calls on plans as 01 and document 02 name them, by numbers, and what the code's results say in those words: one clause a variant.
-- Which answer a plan gets is in Filling.antt and Eras.antt; that two results never say the same is proved in proofs/Decoding.antt.
use Rattle.std.specs.Prelude.{ℕ, ℤ, pos, Result, Ok, Err}
use Rattle.plan.specs.declared.Refusal.{Refusal}
use Rattle.plan.specs.declared.Refusal.TheVariants.{TooShort, Unsound, RootNotSum}
use Rattle.plan.specs.declared.FilledPoints.{FilledPoints}
use Rattle.plan.specs.declared.CountedPoints.{CountedPoints}

-- The refusal's number and place, 0 and 0 for a sound plan.
pub record SoundAnswer : Type 0 where
  pub number : ℕ
  pub place : ℕ

-- The same with the plan's cost, 0 if refused.
pub record CostAnswer : Type 0 where
  pub number : ℕ
  pub place : ℕ
  pub cost : ℕ

-- The same with the points written and the budget spent.
pub record FillAnswer : Type 0 where
  pub number : ℕ
  pub place : ℕ
  pub points : ℕ
  pub spent : ℕ

-- The same of filling with era count, and the crossings of the root over the points written, added up.
pub record FillErasAnswer : Type 0 where
  pub number : ℕ
  pub place : ℕ
  pub points : ℕ
  pub spent : ℕ
  pub sum : ℤ

-- "1: plan shorter than" its words; "9: plan not sound (after 1)"; "16, root row is not a constant or sum chain, place 0, after 9".
abbrev pub refusal_number : Refusal → ℕ
refusal_number TooShort = 1
refusal_number Unsound = 9
refusal_number RootNotSum = 16

-- The number of a result that has no other words: 0 of what is not refused.
abbrev pub number_of : Result (Unit {0}) Refusal → ℕ
number_of (Ok _) = 0
number_of (Err refusal) = refusal_number refusal

abbrev pub as_sound_answer : Result (Unit {0}) Refusal → SoundAnswer
as_sound_answer (Ok _) = record { number = 0; place = 0 }
as_sound_answer (Err refusal) = record { number = refusal_number refusal; place = 0 }

abbrev pub as_cost_answer : Result ℕ Refusal → CostAnswer
as_cost_answer (Ok cost) = record { number = 0; place = 0; cost = cost }
as_cost_answer (Err refusal) = record { number = refusal_number refusal; place = 0; cost = 0 }

abbrev pub as_fill_answer : Result FilledPoints Refusal → FillAnswer
as_fill_answer (Ok filled) = record { number = 0; place = 0; points = filled.points; spent = filled.spent }
as_fill_answer (Err refusal) = record { number = refusal_number refusal; place = 0; points = 0; spent = 0 }

abbrev pub as_fill_eras_answer : Result CountedPoints Refusal → FillErasAnswer
as_fill_eras_answer (Ok counted) = record { number = 0; place = 0; points = counted.points; spent = counted.spent; sum = counted.sum }
as_fill_eras_answer (Err refusal) = record { number = refusal_number refusal; place = 0; points = 0; spent = 0; sum = pos 0 }
