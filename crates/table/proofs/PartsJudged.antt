-- A line that is the header, its leftmost empty field, a line that is too long, and the numbers of a job line.
use mathlib.Core.Path.{◌≡◌, refl, sym, ap, ap₂, subst, ◌∙◌}
use mathlib.Core.Bool.{Bool, true, false, cond, ◌&&◌, false≢true}
use mathlib.Core.List.{List, [], ◌∷◌}
use Prim.Native.Nat.{ℕ, zero, suc, ◌+◌, ◌^◌, ◌≤◌, ◌<◌}
use native.Mathlib.Omega.{arith}
use lib.Dec.{eqb, ltb, leb}
use lib.ListN.{length, take}
use lib.Pointwise.{pointwise}
use lib.Seq.{take_all, length-take-le}
use borrow.Author.Tests.{eqb-true, eq-eqb, ne_eqb, lt-ltb, ltb-true, ltb-false, leb-true}
use Rattle.formula.specs.Bytes.{digits_from}
use Rattle.table.specs.NumberField.{FieldNumber, is_empty, is_number, number_up_to}
use Rattle.table.specs.Parts.{field, picked}
use Rattle.table.specs.Judged.{header_line, same_bytes, is_header, is_misshapen, largest_word, most_points, bad_number, empty_field, defaults_at}
use Rattle.table.specs.Judged.{DefaultsLine, JobLine, judged_defaults, job_refused, judged_numbers, judged_job}

-- ---- the same bytes
-- The library's test of two texts is the same.
pub same_pointwise : (s r : List ℕ) → pointwise eqb s r ≡ same_bytes s r
unfolding same_bytes
same_pointwise [] [] = refl
same_pointwise [] (b ∷ r) = refl
same_pointwise (a ∷ s) [] = refl
same_pointwise (a ∷ s) (b ∷ r) = ap (λ t. eqb a b && t) (same_pointwise s r)

pub same_equal : (s r : List ℕ) → same_bytes s r ≡ true → s ≡ r
unfolding same_bytes
same_equal [] [] e = refl
same_equal [] (b ∷ r) e = cc
same_equal (a ∷ s) [] e = cc
same_equal (a ∷ s) (b ∷ r) e = go (eqb a b) refl e (same_equal s r)
  where
    go : (t : Bool) → eqb a b ≡ t → (t && same_bytes s r) ≡ true → (same_bytes s r ≡ true → s ≡ r) → a ∷ s ≡ b ∷ r
    go true equal rest onward = ap₂ (λ c q. c ∷ q) (eqb-true a b equal) (onward rest)
    go false differ rest onward = cc

pub same_itself : (s : List ℕ) → same_bytes s s ≡ true
unfolding same_bytes
same_itself [] = refl
same_itself (a ∷ s) = ap₂ (λ t u. t && u) (eq-eqb a a refl) (same_itself s)

pub same_differ : (s r : List ℕ) → (length s ≡ length r → ⊥) → same_bytes s r ≡ false
same_differ s r h = go (same_bytes s r) refl
  where
    go : (t : Bool) → same_bytes s r ≡ t → t ≡ false
    go true e = absurd (h (ap (λ l. length l) (same_equal s r e)))
    go false e = refl

-- The header line is a header, and no other line is one.
pub header_equal : (l : List ℕ) → is_header l ≡ true → l ≡ header_line
header_equal l e = same_equal l header_line e

pub header_itself : is_header header_line ≡ true
header_itself = same_itself header_line

-- ---- the leftmost empty field
-- No field before field n is empty.
abbrev pub NoneEmpty : List ℕ → ℕ → Type 0
NoneEmpty l n = (k : ℕ) → 1 ≤ k → k < n → is_empty (field k l) ≡ false

pub none_yet : (l : List ℕ) → NoneEmpty l 1
none_yet l k low high = absurd (omega arith)

pub none_more : (l : List ℕ) (n : ℕ) → NoneEmpty l n → is_empty (field n l) ≡ false → NoneEmpty l (n + 1)
none_more l n so here k low high = go (ltb k n) refl
  where
    go : (t : Bool) → ltb k n ≡ t → is_empty (field k l) ≡ false
    go true e = so k low (ltb-true k n e)
    go false e = subst (λ j. is_empty (field j l) ≡ false) last here
      where
        last : n ≡ k
        last = omega (arith, ltb-false k n e)

pub empty_found : (l : List ℕ) (n : ℕ) → 1 ≤ n → n < 5 → NoneEmpty l n → is_empty (field n l) ≡ true → n ≡ empty_field l
empty_found l zero low high so here = absurd (omega arith)
empty_found l (suc zero) low high so here = rw here
empty_found l (suc (suc zero)) low high so here = rw (so 1 (omega arith) (omega arith), here)
empty_found l (suc (suc (suc zero))) low high so here = rw (so 1 (omega arith) (omega arith), so 2 (omega arith) (omega arith), here)
empty_found l (suc (suc (suc (suc zero)))) low high so here =
    rw (so 1 (omega arith) (omega arith), so 2 (omega arith) (omega arith), so 3 (omega arith) (omega arith), here)
empty_found l (suc (suc (suc (suc (suc n))))) low high so here = absurd (omega arith)

pub empty_nowhere : (l : List ℕ) → NoneEmpty l 5 → empty_field l ≡ 0
empty_nowhere l so =
    rw (so 1 (omega arith) (omega arith), so 2 (omega arith) (omega arith), so 3 (omega arith) (omega arith), so 4 (omega arith) (omega arith))

-- The line is refused at the leftmost empty field, and taken if there is none.
pub empty_refused : (l : List ℕ) (n : ℕ) → 1 ≤ n → n < 5 → NoneEmpty l n → is_empty (field n l) ≡ true
    → record { ok = false; place = n } ≡ defaults_at (empty_field l)
empty_refused l n low high so here = rw (← empty_found l n low high so here, ne_eqb n 0 (λ e. omega arith))

pub none_refused : (l : List ℕ) → NoneEmpty l 5 → record { ok = true; place = 0 } ≡ defaults_at (empty_field l)
none_refused l so = rw (empty_nowhere l so)

-- ---- a line counts only by its first 4,097 bytes
-- What is the same for all lines over 4,096 bytes is decided by a line's first 4,097.
held : {A : Type 0} (f : List ℕ → A) (x : A) → ((l : List ℕ) → 4096 < length l → f l ≡ x) → (l : List ℕ) → f (take 4097 l) ≡ f l
held f x long l = go (ltb 4096 (length l)) refl
  where
    go : (t : Bool) → ltb 4096 (length l) ≡ t → f (take 4097 l) ≡ f l
    go true e = long (take 4097 l) still ∙ sym (long l (ltb-true 4096 (length l) e))
      where
        still : 4096 < length (take 4097 l)
        still = omega (arith, length-take-le 4097 l (ltb-true 4096 (length l) e))
    go false e = ap f (take_all 4097 l (omega (arith, ltb-false 4096 (length l) e)))

long_misshapen : (l : List ℕ) → 4096 < length l → is_misshapen l ≡ true
long_misshapen l h = rw (lt-ltb 4096 (length l) h)

pub misshapen_held : (l : List ℕ) → is_misshapen (take 4097 l) ≡ is_misshapen l
misshapen_held = held is_misshapen true long_misshapen

pub header_held : (l : List ℕ) → is_header (take 4097 l) ≡ is_header l
header_held = held is_header false (λ l h. same_differ l header_line (λ e. omega arith))

pub defaults_held : (l : List ℕ) → judged_defaults (take 4097 l) ≡ judged_defaults l
unfolding judged_defaults
defaults_held = held judged_defaults (record { ok = false; place = 0 }) (λ l h. rw (long_misshapen l h))

pub job_held : (l defaults : List ℕ) → judged_job (take 4097 l) defaults ≡ judged_job l defaults
unfolding judged_job
job_held l defaults = held (λ m. judged_job m defaults) (job_refused 0) (λ m h. rw (long_misshapen m h)) l

-- A line that is taken has all its bytes among the first 4,097.
pub shaped_whole : (l : List ℕ) → is_misshapen l ≡ false → take 4097 l ≡ l
shaped_whole l e = go (ltb 4096 (length l)) refl
  where
    go : (t : Bool) → ltb 4096 (length l) ≡ t → take 4097 l ≡ l
    go true long = absurd (false≢true (sym e ∙ long_misshapen l (ltb-true 4096 (length l) long)))
    go false short = take_all 4097 l (omega (arith, ltb-false 4096 (length l) short))

pub defaults-whole : (l : List ℕ) → (judged_defaults l).ok ≡ true → take 4097 l ≡ l
unfolding judged_defaults
defaults-whole l ok = shaped_whole l (go (is_misshapen l) _ ok)
  where
    go : (t : Bool) (r : DefaultsLine) → (cond t (record { ok = false; place = 0 }) r).ok ≡ true → t ≡ false
    go true r ok = absurd (false≢true ok)
    go false r ok = refl

pub job_whole : (l defaults : List ℕ) → (judged_job l defaults).ok ≡ true → take 4097 l ≡ l
unfolding judged_job
job_whole l defaults ok = shaped_whole l (go (is_misshapen l) _ ok)
  where
    go : (t : Bool) (r : JobLine) → (cond t (job_refused 0) r).ok ≡ true → t ≡ false
    go true r ok = absurd (false≢true ok)
    go false r ok = refl

-- ---- the numbers of a job line
number_small : (most : ℕ) (s : List ℕ) → (number_up_to most s).value ≤ most
unfolding number_up_to
number_small most s = go (is_number s) (leb (digits_from 0 s) most) refl
  where
    go : (a b : Bool) → leb (digits_from 0 s) most ≡ b
        → (cond {A = FieldNumber} (a && b) (record { ok = true; value = digits_from 0 s }) (record { ok = false; value = 0 })).value ≤ most
    go true true e = leb-true (digits_from 0 s) most e
    go true false e = omega arith
    go false b e = omega arith

-- The start and the step are words, and there are no more points than a table has.
pub record SmallNumbers (r : JobLine) : Type 0 where
  pub start : r.start < 2 ^ 64
  pub step : r.step < 2 ^ 64
  pub count : r.count ≤ 4096

refused_small : (place : ℕ) → SmallNumbers (job_refused place)
refused_small place = record { start = omega arith; step = omega arith; count = omega arith }

either_small : (t : Bool) {x y : JobLine} → SmallNumbers x → SmallNumbers y → SmallNumbers (cond t x y)
either_small true h k = h
either_small false h k = k

numbers_small : (start step count : List ℕ) → SmallNumbers (judged_numbers start step count)
numbers_small start step count =
    either_small (eqb (bad_number start step count) 0)
    (record {
      start = omega (arith, number_small largest_word start);
      step = omega (arith, number_small largest_word step);
      count = number_small most_points count;
    })
    (refused_small (bad_number start step count))

pub job_small : (l defaults : List ℕ) → SmallNumbers (judged_job l defaults)
unfolding judged_job
job_small l defaults =
    either_small (is_misshapen l) (refused_small 0)
    (numbers_small (picked 2 l defaults) (picked 3 l defaults) (picked 4 l defaults))
