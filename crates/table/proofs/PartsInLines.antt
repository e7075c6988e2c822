-- The lines of an input, one at a time: what stands before the first line feed, then the lines of what stands after it.
use mathlib.Core.Path.{◌≡◌, refl, sym, ap, ◌∙◌}
use mathlib.Core.Bool.{Bool, true, false, cond}
use mathlib.Core.List.{List, [], ◌∷◌, ◌++◌}
use Prim.Native.Nat.{ℕ, suc, ◌<◌}
use native.Mathlib.Omega.{arith}
use lib.Dec.{eqb, ltb}
use lib.ListN.{length}
use lib.Seq.{take-length}
use borrow.Author.Tests.{eqb-true, ltb-true, ltb-false}
use Rattle.formula.specs.Refusals.{count}
use Rattle.table.specs.Parts.{line_feed, lines, in_first, before, after}
use Rattle.table.proofs.PartsFound.{before_shorter, before-taken}

-- ---- a list parted at the first byte b
pub none_before : (b : ℕ) (s : List ℕ) → count b (before b s) ≡ 0
unfolding before count
none_before b [] = refl
none_before b (c ∷ s) = go (eqb c b) refl (none_before b s)
  where
    go : (t : Bool) → eqb c b ≡ t → count b (before b s) ≡ 0 → count b (cond t [] (c ∷ before b s)) ≡ 0
    go true e rest = refl
    go false e rest = rw e rest

pub parted : (b : ℕ) (s : List ℕ) → length (before b s) < length s → s ≡ before b s ++ b ∷ after b s
unfolding before after
parted b [] h = absurd (omega arith)
parted b (c ∷ s) h = go (eqb c b) refl h (parted b s)
  where
    go : (t : Bool) → eqb c b ≡ t → length (cond t [] (c ∷ before b s)) < suc (length s)
        → (length (before b s) < length s → s ≡ before b s ++ b ∷ after b s)
        → c ∷ s ≡ cond t [] (c ∷ before b s) ++ b ∷ cond t s (after b s)
    go true e h rest = ap (λ a. a ∷ s) (eqb-true c b e)
    go false e h rest = ap (λ r. c ∷ r) (rest (omega arith))

-- No byte b: all of it stands before.
pub unparted : (b : ℕ) (s : List ℕ) → length (before b s) ≡ length s → before b s ≡ s
unparted b s e = sym (before-taken b s) ∙ rw e (take-length s)

pub none-counted : (b : ℕ) (s : List ℕ) → length (before b s) ≡ length s → count b s ≡ 0
none-counted b s e = ap (λ r. count b r) (sym (unparted b s e)) ∙ none_before b s

pub some_counted : (b : ℕ) (s : List ℕ) → 0 < count b s → length (before b s) < length s
some_counted b s some = go (ltb (length (before b s)) (length s)) refl
  where
    go : (t : Bool) → ltb (length (before b s)) (length s) ≡ t → length (before b s) < length s
    go true e = ltb-true (length (before b s)) (length s) e
    go false e = absurd (omega (arith, none-counted b s whole))
      where
        whole : length (before b s) ≡ length s
        whole = omega (arith, before_shorter b s, ltb-false (length (before b s)) (length s) e)

-- ---- lines
pub lines_none : lines [] ≡ []
unfolding lines
lines_none = refl

pub lines-append : (l s : List ℕ) → count line_feed l ≡ 0 → lines (l ++ line_feed ∷ s) ≡ l ∷ lines s
unfolding lines in_first count
lines-append [] s e = refl
lines-append (c ∷ l) s e = go (eqb c line_feed) e (lines-append l s)
  where
    go : (t : Bool) → cond t (suc (count line_feed l)) (count line_feed l) ≡ 0
        → (count line_feed l ≡ 0 → lines (l ++ line_feed ∷ s) ≡ l ∷ lines s)
        → cond t ([] ∷ lines (l ++ line_feed ∷ s)) (in_first c (lines (l ++ line_feed ∷ s))) ≡ (c ∷ l) ∷ lines s
    go true e rest = absurd (omega arith)
    go false e rest = ap (λ m. in_first c m) (rest e)

-- A line feed is there: the first line stands before it.
pub lines-first : (s : List ℕ) → length (before line_feed s) < length s → lines s ≡ before line_feed s ∷ lines (after line_feed s)
lines-first s h = ap (λ r. lines r) (parted line_feed s h) ∙ lines-append (before line_feed s) (after line_feed s) (none_before line_feed s)

-- No line feed, and some byte: one line.
pub lines-last : (s : List ℕ) → 0 < length s → count line_feed s ≡ 0 → lines s ≡ s ∷ []
unfolding lines in_first count
lines-last [] some e = absurd (omega arith)
lines-last (c ∷ []) some e = go (eqb c line_feed) e
  where
    go : (t : Bool) → ◌≡◌ {A = ℕ} (cond t 1 0) 0 → cond t ([] ∷ []) ((c ∷ []) ∷ []) ≡ (c ∷ []) ∷ []
    go true e = absurd (omega arith)
    go false e = refl
lines-last (c ∷ d ∷ s) some e = go (eqb c line_feed) e (lines-last (d ∷ s) (omega arith))
  where
    go : (t : Bool) → cond t (suc (count line_feed (d ∷ s))) (count line_feed (d ∷ s)) ≡ 0
        → (count line_feed (d ∷ s) ≡ 0 → lines (d ∷ s) ≡ (d ∷ s) ∷ [])
        → cond t ([] ∷ lines (d ∷ s)) (in_first c (lines (d ∷ s))) ≡ (c ∷ d ∷ s) ∷ []
    go true e rest = absurd (omega arith)
    go false e rest = ap (λ m. in_first c m) (rest e)
