-- From what is found of a whole text to what is judged of it: refusal 4, or a formula.
use mathlib.Core.Path.{◌≡◌, refl, sym, ap, ap₂, subst, ◌∙◌}
use mathlib.Core.Bool.{Bool, true, false, ◌&&◌, cond, true≢false}
use mathlib.Core.List.{List, [], ◌∷◌}
use Prim.Native.Nat.{ℕ, ◌≤◌}
use native.Mathlib.Omega.{arith}
use lib.Dec.{leb}
use lib.ListN.{length}
use borrow.Author.Tests.{leb-true, leb-false}
use Rattle.formula_scan.specs.Fields.{Found}
use Rattle.formula.specs.Tree.{Tree}
use Rattle.formula.specs.Grammar.{Formula}
use Rattle.formula.specs.Refusals.{TooDeep}
use Rattle.formula_scan.specs.Scan.{bottom, Outcome, reads, stops, scanned}
use Rattle.formula_scan.specs.Readers.{no_fault, stopping, found, SumRead, Judged}
use Rattle.formula_scan.proofs.Ways.{got, lost, regained, WholeBracket}
use Rattle.formula_scan.proofs.Reaching.{complete}
use Rattle.formula_scan.proofs.GrammarScan.{unambiguous, stops_at, stops-unique}
use Rattle.formula_scan.proofs.Judging.{scanned-short, whole_formula, judged_stop}
use Rattle.formula_cursor.specs.Whole.{WholeRead}

-- No word is written where there is no tree.
pub none_written : {w : ℕ} (l : List ℕ) (r : Found) (now : List ℕ) → WholeRead w l [] r now → length now ≡ 0 → WholeRead w l [] r []
none_written l r [] read e = read
none_written l r (a ∷ now) read e = absurd (omega arith)

-- A text that is read as a tree does not stop.
never : {o : Outcome} {t : Tree} {p : ℕ} → o ≡ reads t → o ≡ stops p → ⊥
never e q = let z : ◌≡◌ {A = ℕ} 0 1 = cc in omega arith

-- No formula goes on past the place that is said, or the whole text is a formula.
data Way (w : ℕ) (l out : List ℕ) (r : Found) (now : List ℕ) : Type 0 where
  short : (p : ℕ) → r ≡ stopping p → scanned l ≡ stops p → Way w l out r now
  through : WholeBracket w l 0 0 no_fault out r now → length l ≤ r.at → Way w l out r now

way : {w : ℕ} {l out : List ℕ} {r : Found} {now : List ℕ} → WholeRead w l out r now → Way w l out r now
way {w} {l} {out} {r} {now} whole = go whole.sum.ok (leb (length l) whole.sum.at) refl refl whole.is
  where
    go : (ok ended : Bool) → whole.sum.ok ≡ ok → leb (length l) whole.sum.at ≡ ended
        → r ≡ cond (ok && ended) whole.sum (stopping whole.sum.at) → Way w l out r now
    go true true e h is =
        through (subst (λ f. WholeBracket w l 0 0 no_fault out f now) (sym is) (got whole.scanned e))
        (omega (arith, leb-true (length l) whole.sum.at h, ap (λ (f : Found). f.at) is))
    go true false e h is =
        short whole.sum.at is (scanned-short l no_fault out whole.sum now (got whole.scanned e) (leb-false (length l) whole.sum.at h))
    go false ended e h is = short whole.sum.at is (lost whole.scanned e bottom)

module _ {w : ℕ} {l out : List ℕ} {r : Found} {now : List ℕ} (whole : WholeRead w l out r now) where
  -- Refusal 4, at the place that is said.
  pub whole_lost : length l ≤ 1024 → ((q : ℕ) → TooDeep l q → ⊥) → r.ok ≡ false → Judged w l (record { number = 4; place = r.at })
  whole_lost few flat none = go (way whole)
    where
      go : Way w l out r now → Judged w l (record { number = 4; place = r.at })
      go (short p is stopped) = judged_stop l few flat r.at (stopped ∙ ap (λ q. stops q) (sym (ap (λ (f : Found). f.at) is)))
      go (through tree h) = absurd (true≢false (sym (ap (λ (f : Found). f.ok) tree.is) ∙ none))

  pub whole_got : r.ok ≡ true → WholeBracket w l 0 0 no_fault out r now × (length l ≤ r.at)
  whole_got some = go (way whole)
    where
      go : Way w l out r now → WholeBracket w l 0 0 no_fault out r now × (length l ≤ r.at)
      go (short p is stopped) = absurd (true≢false (sym some ∙ ap (λ (f : Found). f.ok) is))
      go (through tree h) = (tree, h)

  -- Of a formula, all that the sum reader found.
  pub formula_read : {t : Tree} → Formula l t → SumRead w l 0 0 no_fault out r now
  formula_read formula = go (way whole)
    where
      go : Way w l out r now → SumRead w l 0 0 no_fault out r now
      go (short p is stopped) = absurd (never (complete formula) stopped)
      go (through tree h) = regained tree

  -- A formula is read to its end.
  pub never_lost : {t : Tree} → Formula l t → r.ok ≡ false → ⊥
  never_lost formula none = go (way whole)
    where
      go : Way w l out r now → ⊥
      go (short p is stopped) = never (complete formula) stopped
      go (through tree h) = true≢false (sym (ap (λ (f : Found). f.ok) tree.is) ∙ none)

-- What is found of a whole text is one thing alone, whatever it is written over.
pub whole_exact : {w : ℕ} {l out over : List ℕ} {r s : Found} {now then : List ℕ} → WholeRead w l out r now → WholeRead w l over s then → r ≡ s
whole_exact {w} {l} {out} {over} {r} {s} {now} {then} one other = go (way one) (way other)
  where
    clash : {p : ℕ} {to : List ℕ} {f : Found} {last : List ℕ} → scanned l ≡ stops p → (tree : WholeBracket w l 0 0 no_fault to f last) → length l ≤ f.at → ⊥
    clash {p} {to} {f} {last} stopped tree h = never (complete (whole_formula l no_fault to f last tree h)) stopped

    go : Way w l out r now → Way w l over s then → r ≡ s
    go (short p is stopped) (short q was stopped') = is ∙ ap stopping (stops-unique (stops_at l p stopped) (stops_at l q stopped')) ∙ sym was
    go (short p is stopped) (through tree h) = absurd (clash stopped tree h)
    go (through tree h) (short p is stopped) = absurd (clash stopped tree h)
    go (through tree h) (through tree' h') =
        tree.is
        ∙ ap₂ (λ t p. found w t p 0 no_fault)
        (unambiguous (whole_formula l no_fault out r now tree h) (whole_formula l no_fault over s then tree' h')) (omega (arith, tree.inside, tree'.inside))
        ∙ sym tree'.is
