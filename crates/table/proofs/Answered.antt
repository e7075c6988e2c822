-- Two answers that say the same of a field or of a line are the same answer.
use Rattle.std.proofs.Common.{◌≡◌, ℕ, refl, ap, Option, Some, None, Result, Ok, Err}
use Rattle.table.specs.NumberField.{FieldNumber, as_field_number}
use Rattle.table.specs.declared.BadLine.{BadLine}
use Rattle.table.specs.declared.BadLine.TheVariants.{Misshapen, Formula, Start, Step, Count}
use Rattle.table.specs.declared.Job.{Job}
use Rattle.table.specs.Judged.{DefaultsLine, JobLine, bad_place, as_defaults_line, as_job_line}

pub same-field_number : (a b : Option ℕ) → as_field_number a ≡ as_field_number b → a ≡ b
same-field_number None None e = refl
same-field_number None (Some w) e = let t = ap (λ (n : FieldNumber). n.ok) e in cc
same-field_number (Some v) None e = let t = ap (λ (n : FieldNumber). n.ok) e in cc
same-field_number (Some v) (Some w) e = let t = ap (λ (n : FieldNumber). n.value) e in cc

pub same-place : (a b : BadLine) → bad_place a ≡ bad_place b → a ≡ b
same-place Misshapen Misshapen e = refl
same-place Formula Formula e = refl
same-place Start Start e = refl
same-place Step Step e = refl
same-place Count Count e = refl
same-place a b e = cc

pub same-defaults_line : (a b : Result (Unit {0}) BadLine) → as_defaults_line a ≡ as_defaults_line b → a ≡ b
same-defaults_line (Ok a) (Ok b) e = refl
same-defaults_line (Ok a) (Err b) e = let t = ap (λ (l : DefaultsLine). l.ok) e in cc
same-defaults_line (Err a) (Ok b) e = let t = ap (λ (l : DefaultsLine). l.ok) e in cc
same-defaults_line (Err a) (Err b) e = ap Err (same-place a b (ap (λ (l : DefaultsLine). l.place) e))

pub same-job_line : (a b : Result Job BadLine) → as_job_line a ≡ as_job_line b → a ≡ b
same-job_line (Ok a) (Ok b) e = ap (λ (l : JobLine). Ok (record { start = l.start; step = l.step; count = l.count })) e
same-job_line (Ok a) (Err b) e = let t = ap (λ (l : JobLine). l.ok) e in cc
same-job_line (Err a) (Ok b) e = let t = ap (λ (l : JobLine). l.ok) e in cc
same-job_line (Err a) (Err b) e = ap Err (same-place a b (ap (λ (l : JobLine). l.place) e))
