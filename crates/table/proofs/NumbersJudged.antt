-- Each way through the judging of the numbers and of a line: what the tests say decides the answer.
use mathlib.Core.Path.{◌≡◌, refl, ap, ◌∙◌}
use mathlib.Core.Bool.{Bool, true, false, cond}
use mathlib.Core.List.{List}
use Prim.Native.Nat.{ℕ}
use lib.Dec.{eqb}
use Rattle.table.specs.Parts.{field, picked}
use Rattle.table.specs.Judged.{is_misshapen, bad_number, empty_field, defaults_at}
use Rattle.table.specs.Judged.{DefaultsLine, JobLine, judged_defaults, job_refused, judged_numbers, judged_job}

-- ---- a defaults line
pub defaults_misshapen : (l : List ℕ) → is_misshapen l ≡ true → record { ok = false; place = 0 } ≡ judged_defaults l
unfolding judged_defaults
defaults_misshapen l e = rw e

-- A field that is empty decides, ahead of the numbers.
pub defaults_empty : (l : List ℕ) (place : ℕ) → is_misshapen l ≡ false → record { ok = false; place = place } ≡ defaults_at (empty_field l)
    → record { ok = false; place = place } ≡ judged_defaults l
unfolding judged_defaults
defaults_empty l place shaped e = go (is_misshapen l) (eqb (empty_field l) 0) _ (empty_field l) shaped e
  where
    go : (t some : Bool) (x : DefaultsLine) (k : ℕ) → t ≡ false
        → record { ok = false; place = place } ≡ cond {A = DefaultsLine} some (record { ok = true; place = 0 }) (record { ok = false; place = k })
        → record { ok = false; place = place }
        ≡ cond {A = DefaultsLine} t (record { ok = false; place = 0 })
        (cond some x (cond some (record { ok = true; place = 0 }) (record { ok = false; place = k })))
    go t true x k shaped e = let taken = ap (λ (d : DefaultsLine). d.ok) e in cc
    go t false x k shaped e = rw (shaped, e)

-- The numbers decide a line that has no empty field.
abbrev as_defaults : JobLine → DefaultsLine
as_defaults r = record { ok = r.ok; place = r.place }

numbers-placed : (start step count : List ℕ) → as_defaults (judged_numbers start step count) ≡ defaults_at (bad_number start step count)
numbers-placed start step count = go (eqb (bad_number start step count) 0) (bad_number start step count) _ _ _
  where
    go : (t : Bool) (bad first between points : ℕ)
        → as_defaults (cond t (record { ok = true; place = 0; start = first; step = between; count = points }) (job_refused bad))
        ≡ cond t (record { ok = true; place = 0 }) (record { ok = false; place = bad })
    go true bad first between points = refl
    go false bad first between points = refl

pub defaults-numbers : (l : List ℕ) (r : JobLine) → is_misshapen l ≡ false → record { ok = true; place = 0 } ≡ defaults_at (empty_field l)
    → r ≡ judged_numbers (field 2 l) (field 3 l) (field 4 l) → record { ok = r.ok; place = r.place } ≡ judged_defaults l
unfolding judged_defaults
defaults-numbers l r shaped none judged =
    ap as_defaults judged ∙ numbers-placed (field 2 l) (field 3 l) (field 4 l) ∙ go (is_misshapen l) (eqb (empty_field l) 0) _ (empty_field l) shaped none
  where
    go : (t some : Bool) (x : DefaultsLine) (k : ℕ) → t ≡ false
        → record { ok = true; place = 0 } ≡ cond {A = DefaultsLine} some (record { ok = true; place = 0 }) (record { ok = false; place = k })
        → x
        ≡ cond {A = DefaultsLine} t (record { ok = false; place = 0 })
        (cond some x (cond some (record { ok = true; place = 0 }) (record { ok = false; place = k })))
    go t true x k shaped e = rw shaped
    go t false x k shaped e = let refused = ap (λ (d : DefaultsLine). d.ok) e in cc

-- ---- a job line
pub job_misshapen : (l defaults : List ℕ) → is_misshapen l ≡ true → job_refused 0 ≡ judged_job l defaults
unfolding judged_job
job_misshapen l defaults e = rw e

pub job_numbers : (l defaults : List ℕ) → is_misshapen l ≡ false
    → judged_numbers (picked 2 l defaults) (picked 3 l defaults) (picked 4 l defaults) ≡ judged_job l defaults
unfolding judged_job
job_numbers l defaults e = go (is_misshapen l) _ e
  where
    go : (t : Bool) (x : JobLine) → t ≡ false → x ≡ cond t (job_refused 0) x
    go t x e = rw e
