-- What is judged of a header line, a defaults line and a job line, in the order of document 01's checks.
use Rattle.std.specs.Prelude.{Bool, true, false, cond, not, ◌&&◌, ◌||◌, List, [], ◌∷◌, ℕ, ◌-◌, ◌^◌, eqb, ltb, length, Result, Ok, Err}
use Rattle.table.specs.NumberField.{is_empty, number_up_to}
use Rattle.table.specs.declared.BadLine.{BadLine}
use Rattle.table.specs.declared.BadLine.TheVariants.{Misshapen, Formula, Start, Step, Count}
use Rattle.table.specs.declared.Job.{Job}
use Rattle.table.specs.Parts.{field, field_count, picked}

-- "a line `chain-jobs`, tab, `1`"
abbrev pub header_line : List ℕ
header_line = 99 ∷ 104 ∷ 97 ∷ 105 ∷ 110 ∷ 45 ∷ 106 ∷ 111 ∷ 98 ∷ 115 ∷ 9 ∷ 49 ∷ []

-- The same bytes.
unfoldable pub same_bytes : List ℕ → List ℕ → Bool
same_bytes [] [] = true
same_bytes [] (b ∷ r) = false
same_bytes (a ∷ s) [] = false
same_bytes (a ∷ s) (b ∷ r) = eqb a b && same_bytes s r

abbrev pub is_header : List ℕ → Bool
is_header l = same_bytes l header_line

-- "line over 4,096 bytes or not four fields, place 0"
abbrev pub is_misshapen : List ℕ → Bool
is_misshapen l = ltb 4096 (length l) || not (eqb (field_count l) 4)

-- Start and step are words; "count is 0 to 4,096".
abbrev pub largest_word : ℕ
largest_word = 2 ^ 64 - 1

abbrev pub most_points : ℕ
most_points = 4096

-- "then start, step, count bad, place 2, 3, 4", in the three fields taken; 0 if none is bad.
abbrev pub bad_number : List ℕ → List ℕ → List ℕ → ℕ
bad_number start step count =
    cond (number_up_to largest_word start).ok
    (cond (number_up_to largest_word step).ok
    (cond (number_up_to most_points count).ok 0 4)
    3)
    2

-- "the leftmost empty field is refused at its field number"; 0 if none is empty.
abbrev pub empty_field : List ℕ → ℕ
empty_field l =
    cond (is_empty (field 1 l)) 1
    (cond (is_empty (field 2 l)) 2
    (cond (is_empty (field 3 l)) 3
    (cond (is_empty (field 4 l)) 4 0)))

-- ---- refused 11 at a place, or taken
pub record DefaultsLine : Type 0 where
  pub ok : Bool
  pub place : ℕ

-- A job line that is taken has the numbers of its fields.
pub record JobLine : Type 0 where
  pub ok : Bool
  pub place : ℕ
  pub start : ℕ
  pub step : ℕ
  pub count : ℕ

-- The place of a refusal, as the code names it: "place 0", or the field's number.
abbrev pub bad_place : BadLine → ℕ
bad_place Misshapen = 0
bad_place Formula = 1
bad_place Start = 2
bad_place Step = 3
bad_place Count = 4

abbrev pub defaults_at : ℕ → DefaultsLine
defaults_at place = cond (eqb place 0) (record { ok = true; place = 0 }) (record { ok = false; place = place })

-- "In the defaults line the leftmost empty field is refused at its field number, ahead of bad numbers; its formula is not compiled."
unfoldable pub judged_defaults : List ℕ → DefaultsLine
judged_defaults l =
    cond (is_misshapen l) (record { ok = false; place = 0 })
    (cond (eqb (empty_field l) 0) (defaults_at (bad_number (field 2 l) (field 3 l) (field 4 l)))
    (defaults_at (empty_field l)))

abbrev pub job_refused : ℕ → JobLine
job_refused place = record { ok = false; place = place; start = 0; step = 0; count = 0 }

-- What an answer of the code says, of a defaults line and of a job line.
abbrev pub as_defaults_line : Result (Unit {0}) BadLine → DefaultsLine
as_defaults_line (Ok taken) = record { ok = true; place = 0 }
as_defaults_line (Err bad) = record { ok = false; place = bad_place bad }

abbrev pub as_job_line : Result Job BadLine → JobLine
as_job_line (Ok job) = record { ok = true; place = 0; start = job.start; step = job.step; count = job.count }
as_job_line (Err bad) = job_refused (bad_place bad)

abbrev pub judged_numbers : List ℕ → List ℕ → List ℕ → JobLine
judged_numbers start step count =
    cond (eqb (bad_number start step count) 0)
    (record {
      ok = true;
      place = 0;
      start = (number_up_to largest_word start).value;
      step = (number_up_to largest_word step).value;
      count = (number_up_to most_points count).value;
    })
    (job_refused (bad_number start step count))

-- The shape is that of the job's own line, before defaults are put in; "then start, step, count bad", in the fields taken.
unfoldable pub judged_job : List ℕ → List ℕ → JobLine
judged_job l defaults =
    cond (is_misshapen l) (job_refused 0)
    (judged_numbers (picked 2 l defaults) (picked 3 l defaults) (picked 4 l defaults))
