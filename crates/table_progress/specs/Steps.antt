-- One step of a run over lent buffers: what it answers, and every byte and word afterwards, for all inputs. The theorem that steps add up to
-- the run is in proofs/Adding.antt.
use Rattle.std.specs.Prelude.{Bool, true, false, cond, ◌&&◌, List, ◌++◌, ℕ, ◌+◌, ◌-◌, ◌*◌, ◌^◌, eqb, leb, ltb, length, take, drop, Result, Ok, Err}
use Rattle.plan.specs.Measures.{plan_length}
use Rattle.formula.specs.Refusals.{count}
use Rattle.formula_scan.specs.Verdict.{verdict}
use Rattle.table.specs.Parts.{line_feed, before, picked}
use Rattle.table.specs.Judged.{is_header, judged_defaults, judged_job}
use Rattle.table.specs.declared.Tool.{Tool}
use Rattle.table_progress.specs.Printed.{verdict_plan, verdict_table}
use Rattle.table_progress.specs.declared.Awaited.{Awaited}
use Rattle.table_progress.specs.declared.Awaited.TheVariants.{Header, Defaults, Job, Nothing}
use Rattle.table_progress.specs.declared.Progress.{Progress}
use Rattle.table_progress.specs.declared.Stepped.{Stepped as Step}
use Rattle.table_progress.specs.declared.NotDone.{NotDone}
use Rattle.table_progress.specs.Run.{Awaits, the_header, the_defaults, a_job, nothing, line_prints, end_prints}

-- ---- where a run stands
-- The defaults line stands in the first bytes of its buffer.
abbrev pub awaited_by : Awaited → ℕ → ℕ → List ℕ → Awaits
awaited_by Header n kept buffer = the_header
awaited_by Defaults n kept buffer = the_defaults
awaited_by Job n kept buffer = a_job (take kept buffer) n
awaited_by Nothing n kept buffer = nothing

abbrev pub awaits : Progress → List ℕ → Awaits
awaits p buffer = awaited_by p.awaited p.number p.kept buffer

abbrev pub started : Progress
started = record { awaited = Header; number = 0; held = 0; kept = 0 }

abbrev pub ended : Progress
ended = record { awaited = Nothing; number = 0; held = 0; kept = 0 }

-- ---- what a whole line does
abbrev pub progress_by : Awaited → ℕ → ℕ → List ℕ → Progress
progress_by Header n kept l = cond (is_header l) (record { awaited = Defaults; number = 0; held = 0; kept = 0 }) ended
progress_by Defaults n kept l = cond (judged_defaults l).ok (record { awaited = Job; number = 1; held = 0; kept = length l }) ended
progress_by Job n kept l = record { awaited = Job; number = n + 1; held = 0; kept = kept }
progress_by Nothing n kept l = ended

abbrev pub progress_after : Progress → List ℕ → Progress
progress_after p l = progress_by p.awaited p.number p.kept l

-- The defaults line is kept when it is taken.
abbrev pub defaults_after : Awaits → List ℕ → List ℕ → List ℕ
defaults_after the_header l buffer = buffer
defaults_after the_defaults l buffer = cond (judged_defaults l).ok (l ++ drop (length l) buffer) buffer
defaults_after (a_job kept n) l buffer = buffer
defaults_after nothing l buffer = buffer

-- A job works in the plan's own words and in the table.
abbrev pub plan_after_line : Tool → Awaits → List ℕ → List ℕ → List ℕ
plan_after_line tool the_header l plan = plan
plan_after_line tool the_defaults l plan = plan
plan_after_line tool (a_job kept n) l plan =
    cond (judged_job l kept).ok (verdict_plan tool (judged_job l kept) (verdict (picked 1 l kept)) (take plan_length plan) ++ drop plan_length plan) plan
plan_after_line tool nothing l plan = plan

abbrev pub table_after_line : Tool → Awaits → List ℕ → List ℕ → List ℕ
table_after_line tool the_header l table = table
table_after_line tool the_defaults l table = table
table_after_line tool (a_job kept n) l table = cond (judged_job l kept).ok (verdict_table tool (judged_job l kept) (verdict (picked 1 l kept)) table) table
table_after_line tool nothing l table = table

-- ---- the lent buffers
pub record Buffers : Type 0 where
  pub line : List ℕ
  pub defaults : List ℕ
  pub plan : List ℕ
  pub table : List ℕ
  pub out : List ℕ

-- Room for what a line and the end of the input print: at most 42 bytes a point, and two lines of at most 67. Rows, of at most 1,164 bytes each, print less.
abbrev pub most_printed : ℕ
most_printed = 134 + 42 * 4096

-- A step is refused where a buffer is too short, or where the progress is out of bounds.
abbrev pub have_room : ℕ → ℕ → ℕ → ℕ → ℕ → Bool
have_room line defaults plan table out = leb 4097 line && (leb 4096 defaults && (leb plan_length plan && (leb 4096 table && leb most_printed out)))

-- At most 4,097 bytes held and 4,096 kept, and a number for one more job. Any progress within these is taken, whether a run comes to it or not.
abbrev pub is_within_bounds : Progress → Bool
is_within_bounds p = leb p.held 4097 && (leb p.kept 4096 && ltb p.number (2 ^ 64 - 1))

abbrev pub ready : Progress → Buffers → Bool
ready p b =
    have_room (length b.line) (length b.defaults) (length b.plan) (length b.table) (length b.out) && is_within_bounds p

-- The line under way with more bytes behind it. The first 4,097 bytes are held: a line that has them is over-long, whatever follows.
abbrev pub held_with : ℕ → List ℕ → List ℕ → List ℕ
held_with held line s = take 4097 (take held line ++ s)

-- The bytes s at the beginning of a buffer.
abbrev pub over : List ℕ → List ℕ → List ℕ
over s buffer = s ++ drop (length s) buffer

-- ---- a step, and the end
-- Whether the step was done, where the run stands now, the input bytes used and the output bytes written.
pub record Stepped : Type 0 where
  pub ok : Bool
  pub progress : Progress
  pub used : ℕ
  pub wrote : ℕ

-- What an answer of the code says, of a step from the progress p: a step that is not done leaves the run where it stands.
abbrev pub as_stepped : Progress → Result Step NotDone → Stepped
as_stepped p (Ok step) = record { ok = true; progress = step.progress; used = step.used; wrote = step.wrote }
as_stepped p (Err not_done) = record { ok = false; progress = p; used = 0; wrote = 0 }

pub record Outcome : Type 0 where
  pub answer : Stepped
  pub buffers : Buffers

abbrev pub refused_step : Progress → Buffers → Outcome
refused_step p b = record { answer = record { ok = false; progress = p; used = 0; wrote = 0 }; buffers = b }

-- The line l is whole.
abbrev pub line_step : Tool → Progress → List ℕ → ℕ → Buffers → Outcome
line_step tool p l used b = record {
  answer = record { ok = true; progress = progress_after p l; used = used; wrote = length (line_prints tool (awaits p b.defaults) l) };
  buffers = record {
    line = over l b.line;
    defaults = defaults_after (awaits p b.defaults) l b.defaults;
    plan = plan_after_line tool (awaits p b.defaults) l b.plan;
    table = table_after_line tool (awaits p b.defaults) l b.table;
    out = over (line_prints tool (awaits p b.defaults) l) b.out;
  };
}

-- The input ends within a line.
abbrev pub part_step : Progress → List ℕ → ℕ → Buffers → Outcome
part_step p l used b = record {
  answer = record {
    ok = true;
    progress = record { awaited = p.awaited; number = p.number; held = length l; kept = p.kept };
    used = used;
    wrote = 0;
  };
  buffers = record { line = over l b.line; defaults = b.defaults; plan = b.plan; table = b.table; out = b.out };
}

-- A step takes the input up to its first line feed, or all of it where it has none.
unfoldable pub stepped : Tool → Progress → List ℕ → Buffers → Outcome
stepped tool p input b =
    cond (ready p b)
    (cond (ltb 0 (count line_feed input))
    (line_step tool p (held_with p.held b.line (before line_feed input)) (length (before line_feed input) + 1) b)
    (part_step p (held_with p.held b.line input) (length input) b))
    (refused_step p b)

-- Nothing is done yet.
abbrev pub stays : Progress → Buffers → Outcome
stays p b = record { answer = record { ok = true; progress = p; used = 0; wrote = 0 }; buffers = b }

-- The bytes after the last line feed, if there are any, are a whole line.
abbrev pub last_line : Tool → Progress → Buffers → Outcome
last_line tool p b = cond (eqb p.held 0) (stays p b) (line_step tool p (take p.held b.line) 0 b)

-- What the end of the input prints, behind what was written before.
abbrev pub ending_with : List ℕ → Outcome → Outcome
ending_with s o = record {
  answer = record { ok = true; progress = ended; used = 0; wrote = o.answer.wrote + length s };
  buffers = record {
    line = o.buffers.line;
    defaults = o.buffers.defaults;
    plan = o.buffers.plan;
    table = o.buffers.table;
    out = take o.answer.wrote o.buffers.out ++ (s ++ drop (o.answer.wrote + length s) o.buffers.out);
  };
}

abbrev pub with_end : Outcome → Outcome
with_end o = ending_with (end_prints (awaits o.answer.progress o.buffers.defaults)) o

-- "bytes after the last line feed, if there are any, are a line as well": the end of the input.
unfoldable pub finished : Tool → Progress → Buffers → Outcome
finished tool p b =
    cond (ready p b)
    (with_end (cond (eqb p.held 0) (stays p b) (line_step tool p (take p.held b.line) 0 b)))
    (refused_step p b)
