-- Lines of an input and fields of a line.
use Rattle.std.specs.Prelude.{cond, List, [], ◌∷◌, ℕ, zero, suc, ◌-◌, eqb}
use Rattle.formula.specs.Refusals.{count}
use Rattle.table.specs.NumberField.{is_empty}

abbrev pub tab : ℕ
tab = 9

abbrev pub line_feed : ℕ
line_feed = 10

-- ---- "A line is what stands before a line feed; bytes after the last line feed, if there are any, are a line as well."
-- One more byte in front of the first line, which it begins if there is none.
unfoldable pub in_first : ℕ → List (List ℕ) → List (List ℕ)
in_first c [] = (c ∷ []) ∷ []
in_first c (line ∷ more) = (c ∷ line) ∷ more

unfoldable pub lines : List ℕ → List (List ℕ)
lines [] = []
lines (c ∷ s) = cond (eqb c line_feed) ([] ∷ lines s) (in_first c (lines s))

-- ---- "fields parted by tabs"
-- What stands before the first byte b, and what stands after it; all and nothing if there is none.
unfoldable pub before : ℕ → List ℕ → List ℕ
before b [] = []
before b (c ∷ s) = cond (eqb c b) [] (c ∷ before b s)

unfoldable pub after : ℕ → List ℕ → List ℕ
after b [] = []
after b (c ∷ s) = cond (eqb c b) s (after b s)

abbrev pub field_count : List ℕ → ℕ
field_count l = suc (count tab l)

-- What stands after the first n tabs.
unfoldable pub after_tabs : ℕ → List ℕ → List ℕ
after_tabs zero l = l
after_tabs (suc n) l = after tab (after_tabs n l)

-- Field n of a line, counted from 1; empty if there is none.
abbrev pub field : ℕ → List ℕ → List ℕ
field n l = before tab (after_tabs (n - 1) l)

-- "For each field the job's own part of its line is taken, or the default line's where the job's is empty."
abbrev pub picked : ℕ → List ℕ → List ℕ → List ℕ
picked n job defaults = cond (is_empty (field n job)) (field n defaults) (field n job)
