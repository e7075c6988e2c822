-- The numbers of a plan's layout, each under its sentence of 01 or of request Five: every definition and law takes them from here.
use Rattle.std.specs.Prelude.{ℕ, ◌+◌, ◌*◌}

-- "kind, a, b, then 17 element words": the elements' place in a row, and how many they are.
abbrev pub elements_start : ℕ
elements_start = 3

abbrev pub element_count : ℕ
element_count = 17

-- "Each plan row gets two more words at its end, first byte and end byte": their place in a row.
abbrev pub span_start : ℕ
span_start = 20

-- "the row is then 22 words".
abbrev pub row_length : ℕ
row_length = 22

-- "the end is at most 1,024".
abbrev pub longest_text : ℕ
longest_text = 1024

-- "Word 0: the number of rows, 1 to 128."
abbrev pub most_rows : ℕ
most_rows = 128

-- The words of all rows, behind word 0.
abbrev pub rows_length : ℕ
rows_length = most_rows * row_length

-- "and the plan 2,817", lent.
abbrev pub plan_length : ℕ
plan_length = 1 + rows_length

-- "Row offsets .. follow": row r has the 22 words from 1 + 22r.
abbrev pub row_start : ℕ → ℕ
row_start r = 1 + row_length * r
