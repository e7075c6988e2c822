-- A line prints, and leaves the run, by its first 4,097 bytes: a scan may hold no more than these.
use mathlib.Core.Path.{◌≡◌, refl, sym, ap, ap₂, ◌∙◌}
use mathlib.Core.Bool.{Bool, true, false, cond, false≢true}
use mathlib.Core.List.{List, [], ◌∷◌, ◌++◌}
use Prim.Native.Nat.{ℕ, zero, suc, ◌≤◌}
use native.Mathlib.Omega.{arith}
use lib.Dec.{eqb, ltb}
use lib.ListN.{length, take}
use lib.Seq.{take-take}
use borrow.Author.Tests.{ltb-false}
use Rattle.table.specs.NumberField.{is_empty}
use Rattle.table.specs.Parts.{line_feed, picked}
use Rattle.table.specs.Judged.{DefaultsLine, JobLine, judged_defaults, judged_job}
use Rattle.table.proofs.NumbersJudged.{defaults_misshapen}
use Rattle.table.proofs.PartsJudged.{header_held, defaults_held, job_held, defaults-whole, job_whole}
use Rattle.table.specs.Lines.{no_line}
use Rattle.table.specs.declared.Tool.{Tool}
use Rattle.table_progress.specs.Printed.{judged_prints, job_prints}
use Rattle.table_progress.specs.Run.{Awaits, the_header, the_defaults, a_job, nothing, line_prints, after_line, end_prints}
use Rattle.table_progress.proofs.Scanned.{scan}

-- ---- a line
-- Where a job line is refused, its formula does not count.
refused_alike : (tool : Tool) (n : ℕ) (job : JobLine) (s t : List ℕ) → job.ok ≡ false → judged_prints tool n job s ≡ judged_prints tool n job t
unfolding judged_prints
refused_alike tool n job s t e = rw e

pub first-bytes_print : (tool : Tool) (awaits : Awaits) (l : List ℕ) → line_prints tool awaits (take 4097 l) ≡ line_prints tool awaits l
unfolding line_prints
first-bytes_print tool the_header l = ap (λ t. cond t [] (no_line 0 12 0)) (header_held l)
first-bytes_print tool the_defaults l = ap (λ (d : DefaultsLine). cond d.ok [] (no_line 0 11 d.place)) (defaults_held l)
first-bytes_print tool (a_job kept n) l = go (judged_job l kept).ok refl
  where
    go : (t : Bool) → (judged_job l kept).ok ≡ t → job_prints tool n (take 4097 l) kept ≡ job_prints tool n l kept
    go true e = ap (λ m. job_prints tool n m kept) (job_whole l kept e)
    go false e =
        ap (λ job. judged_prints tool n job (picked 1 (take 4097 l) kept)) (job_held l kept)
        ∙ refused_alike tool n (judged_job l kept) (picked 1 (take 4097 l) kept) (picked 1 l kept) e
first-bytes_print tool nothing l = refl

pub first-bytes-after : (awaits : Awaits) (l : List ℕ) → after_line awaits (take 4097 l) ≡ after_line awaits l
unfolding after_line
first-bytes-after the_header l = ap (λ t. cond t the_defaults nothing) (header_held l)
first-bytes-after the_defaults l = go (judged_defaults l).ok refl
  where
    go : (t : Bool) → (judged_defaults l).ok ≡ t → after_line the_defaults (take 4097 l) ≡ after_line the_defaults l
    go true e = ap (after_line the_defaults) (defaults-whole l e)
    go false e = rw (defaults_held l, e)
first-bytes-after (a_job kept n) l = refl
first-bytes-after nothing l = refl

-- A defaults line that is taken has 4,096 bytes at most.
pub taken-short : (l : List ℕ) → (judged_defaults l).ok ≡ true → length l ≤ 4096
taken-short l ok = go (ltb 4096 (length l)) refl
  where
    go : (t : Bool) → ltb 4096 (length l) ≡ t → length l ≤ 4096
    go true e = absurd (false≢true (ap (λ (d : DefaultsLine). d.ok) (defaults_misshapen l (rw e)) ∙ ok))
    go false e = ltb-false 4096 (length l) e

-- ---- a scan counts only the first 4,097 bytes held
pub take_more : (n : ℕ) (l m : List ℕ) → take n (take n l ++ m) ≡ take n (l ++ m)
take_more zero l m = refl
take_more (suc n) [] m = refl
take_more (suc n) (x ∷ l) m = ap {B = List ℕ} (λ r. x ∷ r) (take_more n l m)

empty_taken : (n : ℕ) (l : List ℕ) → is_empty (take (suc n) l) ≡ is_empty l
empty_taken n [] = refl
empty_taken n (x ∷ l) = refl

-- Bytes held that have the same first 4,097.
module _ (held other : List ℕ) (same : take 4097 held ≡ take 4097 other) where
  same_print : (tool : Tool) (awaits : Awaits) → line_prints tool awaits held ≡ line_prints tool awaits other
  same_print tool awaits = sym (first-bytes_print tool awaits held) ∙ ap (line_prints tool awaits) same ∙ first-bytes_print tool awaits other

  same_after : (awaits : Awaits) → after_line awaits held ≡ after_line awaits other
  same_after awaits = sym (first-bytes-after awaits held) ∙ ap (after_line awaits) same ∙ first-bytes-after awaits other

  same_empty : is_empty held ≡ is_empty other
  same_empty = sym (empty_taken 4096 held) ∙ ap is_empty same ∙ empty_taken 4096 other

  same_more : (m : List ℕ) → take 4097 (held ++ m) ≡ take 4097 (other ++ m)
  same_more m = sym (take_more 4097 held m) ∙ ap (λ l. take 4097 (l ++ m)) same ∙ take_more 4097 other m

same_scan : (tool : Tool) (awaits : Awaits) (held other s : List ℕ) → take 4097 held ≡ take 4097 other → scan tool awaits held s ≡ scan tool awaits other s
unfolding scan
same_scan tool awaits held other [] same =
    ap₂ (λ t x. cond t (end_prints awaits) x) (same_empty held other same)
    (ap₂ (λ x a. x ++ end_prints a) (same_print held other same tool awaits) (same_after held other same awaits))
same_scan tool awaits held other (c ∷ s) same =
    ap₂ (λ x y. cond (eqb c line_feed) x y)
    (ap₂ (λ x a. x ++ scan tool a [] s) (same_print held other same tool awaits) (same_after held other same awaits))
    (same_scan tool awaits (held ++ c ∷ []) (other ++ c ∷ []) s (same_more held other same (c ∷ [])))

pub first-bytes-scan : (tool : Tool) (awaits : Awaits) (held s : List ℕ) → scan tool awaits (take 4097 held) s ≡ scan tool awaits held s
first-bytes-scan tool awaits held s = same_scan tool awaits (take 4097 held) held s (take-take 4097 4097 held (omega arith))
