-- The numbers of the reasons in 02's order, the call's answer as a record of numbers, and what each result of the call says in these words.
use Rattle.std.specs.Prelude.{ℕ, Option, Some, None, Result, Ok, Err}
use Rattle.plan.specs.declared.Refusal.{Refusal}
use Rattle.plan.specs.Answers.{refusal_number}
use Rattle.reason.specs.declared.Reason.{Reason}
use Rattle.reason.specs.declared.Reason.TheVariants.{OperandStays, LengthsAddOver, LengthTimesOver, AgainstProduct, TwoProducts, ExponentNeither, WouldFold}
use Rattle.reason.specs.declared.Explained.{Explained}

-- The refusal's number and place, 0 and 0 if accepted; the reason, 0 if there is none; and the row's first and end byte.
pub record ReasonAnswer : Type 0 where
  pub number : ℕ
  pub place : ℕ
  pub reason : ℕ
  pub first : ℕ
  pub end : ℕ

abbrev pub reason_number : Reason → ℕ
reason_number OperandStays = 1
reason_number LengthsAddOver = 2
reason_number LengthTimesOver = 3
reason_number AgainstProduct = 4
reason_number TwoProducts = 5
reason_number ExponentNeither = 6
reason_number WouldFold = 7

-- 0 for a row that has none.
abbrev pub number_or_0 : Option Reason → ℕ
number_or_0 None = 0
number_or_0 (Some reason) = reason_number reason

abbrev pub as_reason_answer : Result Explained Refusal → ReasonAnswer
as_reason_answer (Ok explained) =
    record { number = 0; place = 0; reason = number_or_0 explained.reason; first = explained.first; end = explained.end }
as_reason_answer (Err refusal) = record { number = refusal_number refusal; place = 0; reason = 0; first = 0; end = 0 }
