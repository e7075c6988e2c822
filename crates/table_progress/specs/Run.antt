-- What a whole run prints, as one function from all the input bytes to all the output bytes. Nobody has to believe this page: proofs/RunPrints.antt
-- shows that it computes what table/specs/Run.antt says.
use Rattle.std.specs.Prelude.{cond, List, [], ◌∷◌, ◌++◌, ℕ, suc}
use Rattle.table.specs.Parts.{lines}
use Rattle.table.specs.Judged.{is_header, judged_defaults}
use Rattle.table.specs.Lines.{no_line}
use Rattle.table.specs.declared.Tool.{Tool}
use Rattle.table_progress.specs.Printed.{job_prints}

-- What the next line is: the header, the defaults line, or job n with the defaults; or the run has ended.
pub data Awaits : Type 0 where
  the_header : Awaits
  the_defaults : Awaits
  a_job : List ℕ → ℕ → Awaits
  nothing : Awaits

-- What a line prints, by the tool. "A refused header or defaults line prints `no`, 0, refusal, place and ends the run."
unfoldable pub line_prints : Tool → Awaits → List ℕ → List ℕ
line_prints tool the_header l = cond (is_header l) [] (no_line 0 12 0)
line_prints tool the_defaults l = cond (judged_defaults l).ok [] (no_line 0 11 (judged_defaults l).place)
line_prints tool (a_job kept n) l = job_prints tool n l kept
line_prints tool nothing l = []

-- What is awaited after it.
unfoldable pub after_line : Awaits → List ℕ → Awaits
after_line the_header l = cond (is_header l) the_defaults nothing
after_line the_defaults l = cond (judged_defaults l).ok (a_job l 1) nothing
after_line (a_job kept n) l = a_job kept (suc n)
after_line nothing l = nothing

-- What the end of the input prints: a header that is not there is refused 12, and a defaults line "Place 0 also where the defaults line is
-- absent".
unfoldable pub end_prints : Awaits → List ℕ
end_prints the_header = no_line 0 12 0
end_prints the_defaults = no_line 0 11 0
end_prints (a_job kept n) = []
end_prints nothing = []

unfoldable pub lines_print : Tool → Awaits → List (List ℕ) → List ℕ
lines_print tool awaits [] = end_prints awaits
lines_print tool awaits (l ∷ more) = line_prints tool awaits l ++ lines_print tool (after_line awaits l) more

abbrev pub run : Tool → List ℕ → List ℕ
run tool input = lines_print tool the_header (lines input)
