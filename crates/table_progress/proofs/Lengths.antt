-- How many bytes a job prints at most: a line of three numbers, or that and a line for each point or for each row.
use mathlib.Core.Path.{◌≡◌, refl, sym, subst}
use mathlib.Core.Bool.{Bool, true, false, cond, ◌&&◌}
use mathlib.Core.List.{List, [], ◌∷◌, ◌++◌}
use Prim.Native.Nat.{ℕ, zero, suc, ◌+◌, ◌*◌, ◌/◌, ◌%◌, ◌^◌, ◌≤◌, ◌<◌}
use native.Mathlib.Omega.{arith}
use lib.Dec.{leb, ltb}
use lib.ListN.{length, get_or, take, length-append, length-take, length-drop}
use borrow.Author.Tests.{ltb-true, ltb-false, leb-true}
use Rattle.formula.specs.Tree.{Tree}
use Rattle.formula.specs.Refusals.{Accepted}
use Rattle.formula_scan.specs.Scan.{Outcome, reads, stops, scanned}
use Rattle.formula_scan.specs.Readers.{no_fault, code}
use Rattle.formula_scan.specs.Verdict.{Verdict, refused, accepted, deep_place, outcome_verdict, short_verdict, verdict_for, verdict}
use Rattle.formula_scan.proofs.GrammarScan.{stops_at}
use Rattle.formula_scan.proofs.Verdicts.{verdict-accepted}
use Rattle.plan.specs.Row.{Row, kind, first_byte, end_byte, row_cost}
use Rattle.plan.specs.Plan.{row_count, row, cost, refusal}
use Rattle.plan.specs.Filling.{point_values}
use Rattle.plan.proofs.Accepting.{accepted as accepted-plan}
use Rattle.plan.proofs.SoundLaws.{and_left, and_right, sound-count, row_facts}
use Rattle.plan.proofs.SpanLaws.{sound-span}
use Rattle.plan.proofs.Sharing.{length-points}
use Rattle.fold.specs.RowSpans.{text_of}
use Rattle.fold.proofs.FoldShape.{accepted-rows}
use Rattle.fold.proofs.Rules.{picked as picks}
use Rattle.reason.specs.RowTrees.{row_tree}
use Rattle.reason.specs.Wording.{reason_texts, reason_text}
use Rattle.reason.proofs.Numbers.{reason_of}
use Rattle.table.specs.Decimal.{decimal}
use Rattle.table.proofs.Digits.{word-digits}
use Rattle.table.specs.Parts.{tab, line_feed}
use Rattle.table.specs.Judged.{JobLine}
use Rattle.table.specs.Run.{job_plan}
use Rattle.table.specs.Lines.{three_numbers, no_line, job_line, point_line, point_lines, row_line}
use Rattle.table.specs.declared.Tool.{Tool}
use Rattle.table.specs.declared.Tool.TheVariants.{Tables, Reasons}
use Rattle.table_progress.specs.Printed.{row_prints, rows_print, tool_prints, verdict_prints, judged_prints}
use Rattle.table_progress.proofs.AllPoints.{cost-most}
use Rattle.table_progress.proofs.DirectValues.{direct_fits, accepted-sound, accepted-values}

-- ---- one line, of numbers that are words
length_four : (a b c d : List ℕ) → length (a ++ b ++ c ++ d) ≡ length a + length b + length c + length d
length_four a b c d = omega (arith, length-append (a ++ b ++ c) d, length-append (a ++ b) c, length-append a b)

numbers-most : (a b c : ℕ) → a < 2 ^ 64 → b < 2 ^ 64 → c < 2 ^ 64 → length (three_numbers a b c) ≤ 64
numbers-most a b c ha hb hc =
    omega (
      arith,
      length_four (tab ∷ decimal a) (tab ∷ decimal b) (tab ∷ decimal c) (line_feed ∷ []),
      word-digits a ha,
      word-digits b hb,
      word-digits c hc,
    )

pub no_line-most : (n number place : ℕ) → n < 2 ^ 64 → number < 2 ^ 64 → place < 2 ^ 64 → length (no_line n number place) ≤ 67
no_line-most n number place hn hk hp = omega (arith, numbers-most n number place hn hk hp)

pub job_line-most : (n row_number plan_cost : ℕ) → n < 2 ^ 64 → row_number < 2 ^ 64 → plan_cost < 2 ^ 64 → length (job_line n row_number plan_cost) ≤ 67
job_line-most n row_number plan_cost hn hr hc = omega (arith, numbers-most n row_number plan_cost hn hr hc)

point_line-most : (i value : ℕ) → i < 2 ^ 64 → value < 2 ^ 64 → length (point_line i value) ≤ 42
point_line-most i value hi hv =
    omega (
      arith,
      length-append (decimal i ++ tab ∷ decimal value) (line_feed ∷ []),
      length-append (decimal i) (tab ∷ decimal value),
      word-digits i hi,
      word-digits value hv,
    )

pub point_lines-most : (i : ℕ) (values : List ℕ) → i + length values ≤ 2 ^ 64 → ((j : ℕ) → get_or values j 0 < 2 ^ 64)
    → length (point_lines i values) ≤ 42 * length values
unfolding point_lines
point_lines-most i [] few small = omega arith
point_lines-most i (value ∷ values) few small =
    omega (
      arith,
      length-append (point_line i value) (point_lines (suc i) values),
      point_line-most i value (omega arith) (small 0),
      point_lines-most (suc i) values (omega arith) (λ j. small (suc j)),
    )

-- ---- the line of a row, and those of all rows
-- The longest reason has 50 bytes.
short_texts : ℕ → List (List ℕ) → Bool
short_texts most [] = true
short_texts most (text ∷ more) = leb (length text) most && short_texts most more

text_at : (most : ℕ) (texts : List (List ℕ)) → short_texts most texts ≡ true → (n : ℕ) → length (get_or texts n []) ≤ most
unfolding short_texts
text_at most [] e n = omega arith
text_at most (text ∷ more) e zero = leb-true (length text) most (and_left (leb (length text) most) _ e)
text_at most (text ∷ more) e (suc n) = text_at most more (and_right (leb (length text) most) _ e) n

pub reason_short : (n : ℕ) → length (reason_text n) ≤ 50
unfolding short_texts reason_text
reason_short n = text_at 50 reason_texts refl n

text-short : (s : List ℕ) (x : Row) → length (text_of s x) ≤ end_byte x
text-short s x = omega (arith, length-drop (first_byte x) (take (end_byte x) s), length-take (end_byte x) s)

row-line-most : (s : List ℕ) (r : ℕ) (x : Row) (reason : ℕ) → r < 2 ^ 64 → first_byte x < 2 ^ 64 → end_byte x ≤ 1024 → row_cost x < 2 ^ 64
    → length (row_line s r x reason) ≤ 1164
row-line-most s r x reason hr hf he hc =
    let front = 114 ∷ 111 ∷ 119 ∷ tab ∷ decimal r ++ tab ∷ decimal (first_byte x) ++ tab ∷ decimal (end_byte x) ++ tab ∷ decimal (row_cost x) in
    omega (
      arith,
      length_four front (tab ∷ reason_text reason) (tab ∷ text_of s x) (line_feed ∷ []),
      length_four (114 ∷ 111 ∷ 119 ∷ tab ∷ decimal r) (tab ∷ decimal (first_byte x)) (tab ∷ decimal (end_byte x)) (tab ∷ decimal (row_cost x)),
      word-digits r hr,
      word-digits (first_byte x) hf,
      word-digits (end_byte x) (omega arith),
      word-digits (row_cost x) hc,
      reason_short reason,
      text-short s x,
    )

module _ (s p : List ℕ) (good : refusal p ≡ 0) where
  row-most : (r : ℕ) → r < row_count p → length (row_prints s p r) ≤ 1164
  row-most r h =
      let (long, sound) = accepted-plan p good in
      let spans = sound-span p r sound h in
      picks (λ (l : List ℕ). length l ≤ 1164) (ltb (kind (row p r)) 3) (λ _. omega arith)
      (λ _. row-line-most s r (row p r) (reason_of (row_tree p r)) (omega (arith, sound-count p sound)) (omega (arith, spans)) spans.1
      (omega (arith, (row_facts p r long sound h refl).cost)))

  pub rows-most : (r : ℕ) → r ≤ row_count p → length (rows_print s p r) ≤ 1164 * r
  unfolding rows_print
  rows-most zero h = omega arith
  rows-most (suc r) h = omega (arith, length-append (rows_print s p r) (row_prints s p r), rows-most r (omega arith), row-most r h)

-- ---- what a tool prints of an accepted formula's plan
module _ {formula : List ℕ} (job : JobLine) {t : Tree} (found : Accepted 64 formula t) (few : job.count ≤ 4096) where
  values_fit : (j : ℕ) → get_or (point_values 64 job.count (job_plan job t)) j 0 < 2 ^ 64
  values_fit j =
      subst (λ l. get_or l j 0 < 2 ^ 64) (sym (accepted-values job.start job.step found job.count))
      (direct_fits 64 job.start job.step t 0 job.count j)

  tool-most : (tool : Tool) → length (tool_prints tool job.count formula (job_plan job t)) ≤ 42 * 4096
  tool-most Tables =
      let count = length-points 64 job.count (job_plan job t) in
      omega (arith, point_lines-most 0 (point_values 64 job.count (job_plan job t)) (omega (arith, count)) values_fit, count)
  tool-most Reasons =
      omega (
        arith,
        rows-most formula (job_plan job t) (accepted-sound job.start job.step found) (row_count (job_plan job t)) (omega arith),
        accepted-rows 64 job.start job.step found,
      )

-- ---- a formula's refusal has a small number and a small place
data Small : Verdict → Type 0 where
  small_refused : (number place : ℕ) → number ≤ 8 → place < 2048 → Small (refused number place)
  small_accepted : {t : Tree} → Small (accepted t)

outcome_small : (o : Outcome) → ((p : ℕ) → o ≡ stops p → p ≤ 1024) → Small (outcome_verdict 64 o)
unfolding outcome_verdict
outcome_small (stops p) within = small_refused 4 p (omega arith) (omega (arith, within p refl))
outcome_small (reads t) within = go (ltb (code 64 t) no_fault) refl
  where
    go : (b : Bool) → ltb (code 64 t) no_fault ≡ b → Small (cond b (refused (code 64 t / 2048) (code 64 t % 2048)) (accepted t))
    go true q = small_refused (code 64 t / 2048) (code 64 t % 2048) (omega (arith, ltb-true (code 64 t) no_fault q)) (omega arith)
    go false q = small_accepted

short_small : (size p : ℕ) → size ≤ 1024 → (o : Outcome) → ((q : ℕ) → o ≡ stops q → q ≤ 1024) → Small (short_verdict 64 size p o)
short_small size p short o within = go (ltb p size) refl
  where
    go : (b : Bool) → ltb p size ≡ b → Small (cond b (refused 3 p) (outcome_verdict 64 o))
    go true q = small_refused 3 p (omega arith) (omega (arith, ltb-true p size q))
    go false q = outcome_small o within

verdict_small : (s : List ℕ) → Small (verdict s)
unfolding verdict_for
verdict_small s = go (ltb 1024 (length s)) refl
  where
    go : (b : Bool) → ltb 1024 (length s) ≡ b → Small (cond b (refused 2 1024) (short_verdict 64 (length s) (deep_place 0 0 0 s) (scanned s)))
    go true q = small_refused 2 1024 (omega arith) (omega arith)
    go false q =
        short_small (length s) (deep_place 0 0 0 s) (ltb-false 1024 (length s) q) (scanned s)
        (λ p e. omega (arith, ltb-false 1024 (length s) q, (stops_at s p e).within))

-- ---- a job
module _ (tool : Tool) (n : ℕ) (job : JobLine) (formula : List ℕ) (small : n < 2 ^ 64) (few : job.count ≤ 4096) where
  verdict-most : (v : Verdict) → verdict formula ≡ v → Small v → length (verdict_prints tool n job formula v) ≤ 67 + 42 * 4096
  unfolding verdict_prints
  verdict-most (refused number place) e (small_refused _ _ low here) =
      omega (arith, no_line-most n number place small (omega arith) (omega arith))
  verdict-most (accepted t) e small_accepted =
      omega (
        arith,
        length-append (job_line n (row_count p) (cost p)) (tool_prints tool job.count formula p),
        job_line-most n (row_count p) (cost p) small (omega (arith, accepted-rows 64 job.start job.step found)) (omega (arith, cost-most p sound)),
        tool-most job found few tool,
      )
    where
      p : List ℕ
      p = job_plan job t

      found : Accepted 64 formula t
      found = verdict-accepted formula e

      sound : refusal p ≡ 0
      sound = accepted-sound job.start job.step found

  -- Whatever the line and the formula are, the room that the program keeps for a job's lines is enough.
  pub job_most : job.place < 2 ^ 64 → length (judged_prints tool n job formula) ≤ 67 + 42 * 4096
  unfolding judged_prints
  job_most here = go job.ok
    where
      go : (b : Bool) → length (cond b (verdict_prints tool n job formula (verdict formula)) (no_line n 11 job.place)) ≤ 67 + 42 * 4096
      go true = verdict-most (verdict formula) refl (verdict_small formula)
      go false = omega (arith, no_line-most n 11 job.place small (omega arith) here)
