-- A plan: its rows, soundness and cost, of any list of words.
-- What its rows are worth at the present point, and its shift, are in Points.antt.
use Rattle.std.specs.Prelude.{Bool, true, cond, ◌&&◌, List, [], ◌∷◌, ◌++◌, ℕ, zero, suc, ◌+◌, ltb, length, get_or, take, drop}
use Rattle.std.proofs.Math.Seq.{slice}
use Rattle.plan.specs.Measures.{plan_length, row_length, most_rows, row_start}
use Rattle.plan.specs.Row.{Row, row_cost, between, all_zero, sound_row}

-- "Word 0: the number of rows, 1 to 128."
abbrev pub row_count : List ℕ → ℕ
row_count p = get_or p 0 0

-- "Row offsets .. follow": row r has the 22 words from 1 + 22r.
abbrev pub row : List ℕ → ℕ → Row
row p r = slice (row_start r) (row_start r + row_length) p

-- The words of the rows cut into rows, and so the first n rows of a plan, and those that word 0 counts.
unfoldable pub rows_from : ℕ → List ℕ → List Row
rows_from zero f = []
rows_from (suc n) f = take row_length f ∷ rows_from n (drop row_length f)

abbrev pub first_rows : ℕ → List ℕ → List Row
first_rows n p = rows_from n (drop 1 p)

abbrev pub rows : List ℕ → List Row
rows p = first_rows (row_count p) p

-- Each row is sound, given the rows before it.
unfoldable pub sound_from : List Row → List Row → Bool
sound_from earlier [] = true
sound_from earlier (row ∷ more) = sound_row earlier row && sound_from (earlier ++ row ∷ []) more

-- "A plan is sound if word 0 is 1 to 128, it keeps this table, every operand row is earlier, every word named unused is 0, and rows from
-- word 0's number to 127 are all 0"; and "only if, in each row counted by word 0, the first byte is below the end byte and the end is at most 1,024".
unfoldable pub sound : List ℕ → Bool
sound p = between 1 most_rows (row_count p) && (sound_from [] (rows p) && all_zero (slice (row_start (row_count p)) plan_length p))

-- "The plan's cost is the sum over its rows."
unfoldable pub cost_of : List Row → ℕ
cost_of [] = 0
cost_of (row ∷ more) = row_cost row + cost_of more

abbrev pub cost : List ℕ → ℕ
cost p = cost_of (rows p)

-- "1: plan shorter than" its words, 2,817 now; "9: plan not sound (after 1)"; otherwise 0.
abbrev pub refusal : List ℕ → ℕ
refusal p = cond (ltb (length p) plan_length) 1 (cond (sound p) 0 9)
