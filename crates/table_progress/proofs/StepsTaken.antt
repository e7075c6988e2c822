-- Each way through a step and through the end of the input: refused, within a line, at the end of a line.
use mathlib.Core.Path.{◌≡◌, refl, sym, ap, ap₂, subst, ◌∙◌}
use mathlib.Core.Bool.{Bool, true, false, cond}
use mathlib.Core.List.{List, [], ◌∷◌, ◌++◌, append-nil}
use Prim.Native.Nat.{ℕ, suc, ◌+◌, ◌≤◌, ◌<◌}
use native.Mathlib.Nat.{zero-add}
use native.Mathlib.Omega.{arith}
use lib.Dec.{eqb, ltb}
use lib.ListN.{length, take, drop, take-append-drop}
use lib.Seq.{length-take-le, drop-length, take-append_seam, drop-drop}
use borrow.Author.Tests.{lt-ltb, ne_eqb, eq-eqb}
use Rattle.formula.specs.Refusals.{count}
use Rattle.plan.proofs.RowLaws.{part, part_put, part-put, tail_part}
use Rattle.table_fields.specs.Writing.{Wrote}
use Rattle.table_fields.proofs.Joining.{wrote-from-start}
use Rattle.table.specs.Parts.{line_feed, before}
use Rattle.table.specs.declared.Tool.{Tool}
use Rattle.table.proofs.PartsFound.{before-taken}
use Rattle.table.proofs.PartsInLines.{unparted, none-counted}
use Rattle.table_progress.specs.declared.Progress.{Progress}
use Rattle.table_progress.specs.Run.{line_prints, end_prints}
use Rattle.table_progress.specs.Steps.{Stepped, awaits, ended, Buffers, ready, held_with, over}
use Rattle.table_progress.specs.Steps.{Outcome, refused_step, line_step, part_step, stepped, last_line, with_end, finished}
use Rattle.table_progress.specs.Runs.{lent}
use Rattle.table_progress.proofs.Holding.{Held, put_front, wrote_fits}
use Rattle.table_progress.proofs.LinesEnded.{LineEnded}
use Rattle.table_progress.proofs.Readiness.{refused-step, refused_end}

-- ---- a test that is known picks one of two
one_picked : (t : Bool) (x y : Outcome) → t ≡ true → x ≡ cond t x y
one_picked t x y e = rw e

other_picked : (t : Bool) (x y : Outcome) → t ≡ false → y ≡ cond t x y
other_picked t x y e = rw e

-- ---- a line feed that is found is counted
feed_counted : (b : ℕ) (s : List ℕ) → (length (before b s) ≡ length s → ⊥) → 0 < count b s
unfolding before count
feed_counted b [] some = absurd (some refl)
feed_counted b (c ∷ s) some = go (eqb c b) some (feed_counted b s)
  where
    go : (t : Bool) → (length (cond t [] (c ∷ before b s)) ≡ suc (length s) → ⊥) → ((length (before b s) ≡ length s → ⊥) → 0 < count b s)
        → 0 < cond t (suc (count b s)) (count b s)
    go true some rest = omega arith
    go false some rest = rest (λ e. some (ap suc e))

-- ---- refused
module _ (tool : Tool) (p : Progress) (b : Buffers) where
  pub step-refused : (input : List ℕ) {r : Stepped} → r ≡ (refused_step p b).answer → ready p b ≡ false
      → record { answer = r; buffers = b } ≡ stepped tool p input b
  step-refused input e not-ready = ap (λ r. record { answer = r; buffers = b }) e ∙ sym (refused-step tool p input b not-ready)

  pub end_refused : {r : Stepped} → r ≡ (refused_step p b).answer → ready p b ≡ false → record { answer = r; buffers = b } ≡ finished tool p b
  end_refused e not-ready = ap (λ r. record { answer = r; buffers = b }) e ∙ sym (refused_end tool p b not-ready)

  -- ---- a whole line
  abbrev WholeLine : List ℕ → List ℕ → Progress → ℕ → (defaults plan table out : List ℕ) → Type 0
  WholeLine l out = LineEnded tool p l b.defaults b.plan b.table out

  line-done : (l : List ℕ) (used : ℕ) {p' : Progress} {w : ℕ} {line defaults plan table out : List ℕ} → line ≡ over l b.line
      → WholeLine l b.out p' w defaults plan table out
      → record { answer = record { ok = true; progress = p'; used = used; wrote = w }; buffers = lent line defaults plan table out } ≡ line_step tool p l used b
  line-done l used put so =
      rw (
        so.0,
        so.1.0.next ∙ zero-add (length (line_prints tool (awaits p b.defaults) l)),
        put,
        so.1.1.0,
        so.1.1.1.0,
        so.1.1.1.1,
        wrote-from-start so.1.0 refl,
      )

  -- ---- a step
  module _ (input : List ℕ) (is-ready : ready p b ≡ true) (end : ℕ) (found : end ≡ 0 + length (before line_feed (drop 0 input)))
      {held : ℕ} {line : List ℕ} (holding : Held p.held b.line (take end input) held line) where
    feed_place : end ≡ length (before line_feed input)
    feed_place = found ∙ zero-add (length (before line_feed input))

    upto_feed : take end input ≡ before line_feed input
    upto_feed = ap (λ n. take n input) feed_place ∙ before-taken line_feed input

    pub step-within-line : end ≡ length input
        → record {
          answer = record {
            ok = true;
            progress = record { awaited = p.awaited; number = p.number; held = held; kept = p.kept };
            used = end;
            wrote = 0;
          };
          buffers = lent line b.defaults b.plan b.table b.out;
        }
        ≡ stepped tool p input b
    unfolding stepped
    step-within-line all =
        rw (holding.0, holding.1)
        (ap₂ (λ l n. part_step p (held_with p.held b.line l) n b) (upto_feed ∙ unparted line_feed input none) all
        ∙ other_picked (ltb 0 (count line_feed input)) _ _ (ap (ltb 0) (none-counted line_feed input none))
        ∙ one_picked (ready p b) _ _ is-ready)
      where
        none : length (before line_feed input) ≡ length input
        none = sym feed_place ∙ all

    pub step-whole-line : {p' : Progress} {w : ℕ} {defaults plan table out : List ℕ} → (end ≡ length input → ⊥)
        → WholeLine (take held line) b.out p' w defaults plan table out
        → record { answer = record { ok = true; progress = p'; used = end + 1; wrote = w }; buffers = lent line defaults plan table out }
        ≡ stepped tool p input b
    unfolding stepped
    step-whole-line {p'} {w} {defaults} {plan} {table} {out} some so =
        line-done l (end + 1) holding.1 (subst (λ m. WholeLine m b.out p' w defaults plan table out) held_line so)
        ∙ ap₂ (λ m n. line_step tool p (held_with p.held b.line m) (n + 1) b) upto_feed feed_place
        ∙ one_picked (ltb 0 (count line_feed input)) _ _
        (lt-ltb 0 (count line_feed input) (feed_counted line_feed input (λ e. some (feed_place ∙ e))))
        ∙ one_picked (ready p b) _ _ is-ready
      where
        l : List ℕ
        l = held_with p.held b.line (take end input)

        held_line : take held line ≡ l
        held_line = ap₂ (λ n m. take n m) holding.0 holding.1 ∙ take-append_seam l (drop (length l) b.line)

  -- ---- the bytes after the last line feed
  pub last_none : p.held ≡ 0 → record { answer = record { ok = true; progress = p; used = 0; wrote = 0 }; buffers = b } ≡ last_line tool p b
  last_none none = rw (eq-eqb p.held 0 none)

  -- They are a whole line, with room for what it prints in the first bytes of the output.
  module _ (some : p.held ≡ 0 → ⊥) (inside : p.held ≤ length b.line) (room : ℕ) (fits : room ≤ length b.out)
      {p' : Progress} {w : ℕ} {defaults plan table out : List ℕ}
      (so : WholeLine (take p.held b.line) (take room b.out) p' w defaults plan table out)
      (same : length out ≡ length (take room b.out)) where
    abbrev printed : List ℕ
    printed = line_prints tool (awaits p b.defaults) (take p.held b.line)

    pub last_fits : w ≤ room
    last_fits = omega (arith, wrote_fits so.1.0 same, length-take-le room b.out fits)

    pub last_some :
        record {
          answer = record { ok = true; progress = p'; used = 0; wrote = w };
          buffers = lent b.line defaults plan table (out ++ drop room b.out);
        }
        ≡ last_line tool p b
    last_some =
        line-done (take p.held b.line) 0 itself (so.0, (record { bytes = whole; next = so.1.0.next }, so.1.1))
        ∙ other_picked (eqb p.held 0) _ _ (ne_eqb p.held 0 some)
      where
        itself : b.line ≡ over (take p.held b.line) b.line
        itself =
            sym (ap (λ n. take p.held b.line ++ drop n b.line) (length-take-le p.held b.line inside) ∙ take-append-drop p.held b.line)

        whole : out ++ drop room b.out ≡ printed ++ drop (0 + length printed) b.out
        whole =
            ap (λ s. s ++ drop room b.out) (wrote-from-start so.1.0 refl)
            ∙ put_front printed b.out (length printed) room (omega (arith, so.1.0.next, last_fits)) fits
            ∙ ap (λ n. printed ++ drop n b.out) (sym (zero-add (length printed)))

  -- ---- the end of the input
  module _ (is-ready : ready p b ≡ true) {p' : Progress} {w : ℕ} {defaults plan table out : List ℕ} (inside : w ≤ length out)
      (last : record { answer = record { ok = true; progress = p'; used = 0; wrote = w }; buffers = lent b.line defaults plan table out } ≡ last_line tool p b)
    where
      abbrev last-printed : List ℕ
      last-printed = end_prints (awaits p' defaults)

      pub end-done : {q : Progress} {more : ℕ} {new : List ℕ} → Wrote (part w (length out) out) 0 last-printed more new → q ≡ ended
          → record {
            answer = record { ok = true; progress = q; used = 0; wrote = w + more };
            buffers = lent b.line defaults plan table (part_put w (length out) out new);
          }
          ≡ finished tool p b
      unfolding finished
      end-done {new = new} wrote ends =
          rw (ends, wrote.next ∙ zero-add (length last-printed), behind) (ap with_end last ∙ one_picked (ready p b) _ _ is-ready)
        where
          behind : part_put w (length out) out new ≡ take w out ++ (last-printed ++ drop (w + length last-printed) out)
          behind =
              part-put w (length out) out new inside
              ∙ ap (λ s. take w out ++ new ++ s) (drop-length out)
              ∙ append-nil (take w out ++ new)
              ∙ ap (λ s. take w out ++ s)
              (wrote-from-start wrote refl
              ∙ ap (λ s. last-printed ++ s) (ap (drop (length last-printed)) (tail_part w out) ∙ drop-drop (length last-printed) w out))
