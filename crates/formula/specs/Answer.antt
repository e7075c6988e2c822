-- What reading a formula answers, as a number and a place: the refusal's, or 0 and 0 if the text is accepted.
use Rattle.std.specs.Prelude.{ℕ, Result, Ok, Err}
use Rattle.formula.specs.declared.Refusal.{Refusal}
use Rattle.formula.specs.declared.Refusal.TheVariants.{BufferTooShort, TextTooLong, BracketsTooDeep, NotAFormula, NumberTooLarge, ExponentTooLarge, TooManyNodes, BaseNotOdd}

pub record ReadAnswer : Type 0 where
  pub number : ℕ
  pub place : ℕ

-- The numbers of 01's table, each by its name.
abbrev pub refusal_number : Refusal → ℕ
refusal_number BufferTooShort = 1
refusal_number TextTooLong = 2
refusal_number (BracketsTooDeep p) = 3
refusal_number (NotAFormula p) = 4
refusal_number (NumberTooLarge p) = 5
refusal_number (ExponentTooLarge p) = 6
refusal_number TooManyNodes = 7
refusal_number (BaseNotOdd p) = 8

-- "at 1024" for a text that is too long, 0 where the refusal is of no place in the text.
abbrev pub refusal_place : Refusal → ℕ
refusal_place BufferTooShort = 0
refusal_place TextTooLong = 1024
refusal_place (BracketsTooDeep p) = p
refusal_place (NotAFormula p) = p
refusal_place (NumberTooLarge p) = p
refusal_place (ExponentTooLarge p) = p
refusal_place TooManyNodes = 0
refusal_place (BaseNotOdd p) = p

abbrev pub refused_answer : Refusal → ReadAnswer
refused_answer e = record { number = refusal_number e; place = refusal_place e }

-- What is answered to a formula, as number and place.
abbrev pub as_read_answer : Result (Unit {0}) Refusal → ReadAnswer
as_read_answer (Ok _) = record { number = 0; place = 0 }
as_read_answer (Err e) = refused_answer e
