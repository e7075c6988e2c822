-- The probe's answer as 01 words it: a record of number, place, offset and verdict; and what each result of `probe` says in these words.
use Rattle.std.specs.Prelude.{ℕ, ℤ, pos, Result, Ok, Err}
use Rattle.probe.specs.declared.Verdict.{Verdict as Judgement}
use Rattle.probe.specs.declared.Verdict.TheVariants as Judged
use Rattle.probe.specs.declared.Reading.{Reading}
use Rattle.probe.specs.declared.ToleranceTooLarge.{ToleranceTooLarge}

-- What the probe says of a reading. A refused probe says nothing.
pub data Verdict : Type 0 where
  NoVerdict : Verdict
  Within : Verdict
  Ahead : Verdict
  Behind : Verdict
  Unset : Verdict

-- The refusal's number and place, both 0 where the call is accepted; the offset and the verdict on it.
pub record ProbeAnswer : Type 0 where
  pub number : ℕ
  pub place : ℕ
  pub offset : ℤ
  pub verdict : Verdict

-- "10: T is 2^63 or more".
abbrev pub refusal_number : ToleranceTooLarge → ℕ
refusal_number _ = 10

abbrev pub as_verdict : Judgement → Verdict
as_verdict Judged.Within = Within
as_verdict Judged.Ahead = Ahead
as_verdict Judged.Behind = Behind
as_verdict Judged.Unset = Unset

-- An accepted call answers number 0, place 0; refusal 10 has place 0, offset 0 and no verdict.
abbrev pub as_probe_answer : Result Reading ToleranceTooLarge → ProbeAnswer
as_probe_answer (Ok reading) = record { number = 0; place = 0; offset = reading.offset; verdict = as_verdict reading.verdict }
as_probe_answer (Err refusal) = record { number = refusal_number refusal; place = 0; offset = pos 0; verdict = NoVerdict }
