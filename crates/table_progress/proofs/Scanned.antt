-- What the rest of an input prints, byte by byte, with the bytes held of the line under way: a whole run is one such scan, and a scan can
-- be cut at any place.
use mathlib.Core.Path.{◌≡◌, refl, sym, ap, ap₂, ◌∙◌}
use mathlib.Core.Bool.{Bool, true, false, cond}
use mathlib.Core.List.{List, [], ◌∷◌, ◌++◌, append-nil}
use Prim.Native.Nat.{ℕ, suc, ◌+◌, ◌<◌}
use native.Mathlib.Nat.{suc-ne-zero}
use native.Mathlib.Omega.{arith}
use lib.Dec.{eqb}
use lib.ListN.{length, drop}
use lib.Seq.{append_snoc}
use Rattle.formula.specs.Refusals.{count}
use Rattle.table.specs.NumberField.{is_empty}
use Rattle.table.specs.Parts.{line_feed, in_first, lines, before}
use Rattle.table.specs.Judged.{is_header, judged_defaults}
use Rattle.table.specs.Lines.{no_line}
use Rattle.table.specs.declared.Tool.{Tool}
use Rattle.table_progress.specs.Run.{Awaits, the_header, the_defaults, nothing, line_prints, after_line, end_prints, lines_print, run}

-- The bytes held are a line at the end of the input, if there are any.
unfoldable pub scan : Tool → Awaits → List ℕ → List ℕ → List ℕ
scan tool awaits held [] = cond (is_empty held) (end_prints awaits) (line_prints tool awaits held ++ end_prints (after_line awaits held))
scan tool awaits held (c ∷ s) =
    cond (eqb c line_feed)
    (line_prints tool awaits held ++ scan tool (after_line awaits held) [] s)
    (scan tool awaits (held ++ c ∷ []) s)

-- ---- a run is a scan
-- The bytes held stand in front of the first line.
unfoldable behind : List ℕ → List (List ℕ) → List (List ℕ)
behind held [] = cond (is_empty held) [] (held ∷ [])
behind held (line ∷ more) = (held ++ line) ∷ more

behind-nothing : (ls : List (List ℕ)) → behind [] ls ≡ ls
unfolding behind
behind-nothing [] = refl
behind-nothing (line ∷ more) = refl

held_more : (held : List ℕ) (c : ℕ) → is_empty (held ++ c ∷ []) ≡ false
held_more [] c = refl
held_more (x ∷ held) c = refl

behind-first : (held : List ℕ) (c : ℕ) (ls : List (List ℕ)) → behind held (in_first c ls) ≡ behind (held ++ c ∷ []) ls
unfolding behind in_first
behind-first held c [] = sym (ap (λ t. cond t [] ((held ++ c ∷ []) ∷ [])) (held_more held c))
behind-first held c (line ∷ more) = ap (λ l. l ∷ more) (sym (append_snoc held c line))

scan-lines : (tool : Tool) (awaits : Awaits) (held s : List ℕ) → scan tool awaits held s ≡ lines_print tool awaits (behind held (lines s))
unfolding scan behind lines lines_print
scan-lines tool awaits held [] = none (is_empty held)
  where
    none : (t : Bool)
        → cond t (end_prints awaits) (line_prints tool awaits held ++ end_prints (after_line awaits held)) ≡ lines_print tool awaits (cond t [] (held ∷ []))
    none true = refl
    none false = refl
scan-lines tool awaits held (c ∷ s) = go (eqb c line_feed) (scan-lines tool (after_line awaits held) [] s) (scan-lines tool awaits (held ++ c ∷ []) s)
  where
    go : (t : Bool) → scan tool (after_line awaits held) [] s ≡ lines_print tool (after_line awaits held) (behind [] (lines s))
        → scan tool awaits (held ++ c ∷ []) s ≡ lines_print tool awaits (behind (held ++ c ∷ []) (lines s))
        → cond t (line_prints tool awaits held ++ scan tool (after_line awaits held) [] s) (scan tool awaits (held ++ c ∷ []) s)
        ≡ lines_print tool awaits (behind held (cond t ([] ∷ lines s) (in_first c (lines s))))
    go true later same =
        ap (λ x. line_prints tool awaits held ++ x) (later ∙ ap (lines_print tool (after_line awaits held)) (behind-nothing (lines s)))
        ∙ ap (λ l. line_prints tool awaits l ++ lines_print tool (after_line awaits l) (lines s)) (sym (append-nil held))
    go false later same = same ∙ ap (lines_print tool awaits) (sym (behind-first held c (lines s)))

pub run-is-scan : (tool : Tool) (s : List ℕ) → run tool s ≡ scan tool the_header [] s
run-is-scan tool s = ap (lines_print tool the_header) (sym (behind-nothing (lines s))) ∙ sym (scan-lines tool the_header [] s)

-- ---- a scan, cut
-- Over bytes with no line feed among them.
pub scan-part : (tool : Tool) (awaits : Awaits) (held s rest : List ℕ) → count line_feed s ≡ 0 → scan tool awaits held (s ++ rest) ≡ scan tool awaits (held ++ s) rest
unfolding scan count
scan-part tool awaits held [] rest none = ap (λ h. scan tool awaits h rest) (sym (append-nil held))
scan-part tool awaits held (c ∷ s) rest none = go (eqb c line_feed) none (scan-part tool awaits (held ++ c ∷ []) s rest)
  where
    go : (t : Bool) → cond t (suc (count line_feed s)) (count line_feed s) ≡ 0
        → (count line_feed s ≡ 0 → scan tool awaits (held ++ c ∷ []) (s ++ rest) ≡ scan tool awaits (held ++ c ∷ [] ++ s) rest)
        → cond t (line_prints tool awaits held ++ scan tool (after_line awaits held) [] (s ++ rest)) (scan tool awaits (held ++ c ∷ []) (s ++ rest))
        ≡ scan tool awaits (held ++ c ∷ s) rest
    go true e same = absurd (suc-ne-zero (count line_feed s) e)
    go false e same = same e ∙ ap (λ h. scan tool awaits h rest) (append_snoc held c s)

-- What a line and then the bytes after it print.
abbrev pub line_then : Tool → Awaits → List ℕ → List ℕ → List ℕ
line_then tool awaits l after = line_prints tool awaits l ++ scan tool (after_line awaits l) [] after

-- Up to the first line feed, and past it.
pub scan-line : (tool : Tool) (awaits : Awaits) (held s rest : List ℕ) → 0 < count line_feed s
    → scan tool awaits held (s ++ rest) ≡ line_then tool awaits (held ++ before line_feed s) (drop (length (before line_feed s) + 1) s ++ rest)
unfolding scan count before
scan-line tool awaits held [] rest some = absurd (omega arith)
scan-line tool awaits held (c ∷ s) rest some = go (eqb c line_feed) some (scan-line tool awaits (held ++ c ∷ []) s rest)
  where
    go : (t : Bool) → 0 < cond t (suc (count line_feed s)) (count line_feed s)
        → (0 < count line_feed s
        → scan tool awaits (held ++ c ∷ []) (s ++ rest) ≡ line_then tool awaits (held ++ c ∷ [] ++ before line_feed s) (drop (length (before line_feed s) + 1) s ++ rest))
        → cond t (line_prints tool awaits held ++ scan tool (after_line awaits held) [] (s ++ rest)) (scan tool awaits (held ++ c ∷ []) (s ++ rest))
        ≡ line_then tool awaits (held ++ cond t [] (c ∷ before line_feed s)) (drop (length (cond t [] (c ∷ before line_feed s)) + 1) (c ∷ s) ++ rest)
    go true e same = ap (λ l. line_then tool awaits l (s ++ rest)) (sym (append-nil held))
    go false e same =
        same e
        ∙ ap₂ (line_then tool awaits) (append_snoc held c (before line_feed s)) (ap (λ n. drop n (c ∷ s) ++ rest) step)
      where
        step : suc (length (before line_feed s) + 1) ≡ suc (length (before line_feed s)) + 1
        step = omega arith

-- ---- "A refused header or defaults line prints `no`, 0, refusal, place and ends the run": whatever lines follow, nothing more is printed.
nothing-prints : (tool : Tool) (more : List (List ℕ)) → lines_print tool nothing more ≡ []
unfolding line_prints after_line end_prints lines_print
nothing-prints tool [] = refl
nothing-prints tool (l ∷ more) = nothing-prints tool more

pub refused_header_ends : (tool : Tool) (l : List ℕ) (more : List (List ℕ)) → is_header l ≡ false → lines_print tool the_header (l ∷ more) ≡ no_line 0 12 0
unfolding line_prints after_line lines_print
refused_header_ends tool l more e = rw (e, nothing-prints tool more) (append-nil (no_line 0 12 0))

pub refused-defaults-ends : (tool : Tool) (l : List ℕ) (more : List (List ℕ)) → (judged_defaults l).ok ≡ false
    → lines_print tool the_defaults (l ∷ more) ≡ no_line 0 11 (judged_defaults l).place
unfolding line_prints after_line lines_print
refused-defaults-ends tool l more e = rw (e, nothing-prints tool more) (append-nil (no_line 0 11 (judged_defaults l).place))
