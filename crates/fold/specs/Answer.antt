-- What compiling answers, as a number and a place.
use Rattle.std.specs.Prelude.{ℕ, Result, Ok, Err}
use Rattle.formula.specs.declared.Refusal.{Refusal}
use Rattle.formula.specs.Answer.{refusal_number, refusal_place}

-- The refusal's number and place; 0 and 0 if accepted.
pub record CompileAnswer : Type 0 where
  pub number : ℕ
  pub place : ℕ

-- What is answered to a formula, as number and place.
abbrev pub as_compile_answer : Result (Unit {0}) Refusal → CompileAnswer
as_compile_answer (Ok _) = record { number = 0; place = 0 }
as_compile_answer (Err e) = record { number = refusal_number e; place = refusal_place e }
