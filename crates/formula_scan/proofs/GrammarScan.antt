-- The scan reads exactly what the grammar says: it reads a text as t if and only if the text means t, and where it stops is the first
-- byte after which no grammar text can begin so. So a text means at most one tree, and every text is in the grammar or stops.
use mathlib.Core.Path.{◌≡◌, refl, sym, ap, subst, subst₂, ◌∙◌}
use mathlib.Core.Logic.{◌⊎◌, inl, inr}
use mathlib.Core.List.{List, [], ◌∷◌, ◌++◌, append_assoc, append-nil}
use Prim.Native.Nat.{ℕ, suc, ◌+◌, ◌<◌}
use native.Mathlib.Omega.{arith}
use lib.ListN.{length, take, drop, length-append, take-append-drop}
use lib.Seq.{append_snoc, take-length, take_at, take-take}
use Rattle.formula.specs.Marks.{Mark, mark, marked}
use Rattle.formula.specs.Tree.{Tree}
use Rattle.formula.specs.Grammar.{a_sum, Means, Formula}
use Rattle.formula.specs.Refusals.{Begins, StopsAt}
use Rattle.formula_scan.specs.Scan.{bottom, fresh, State, operand, stopped, byte_of, step, Outcome, reads, stops, ending, fed, run, scanned}
use Rattle.formula.proofs.TextMarks.{marked_append, marked_next}
use Rattle.formula_scan.proofs.Scanning.{run-fed, fed-append, run-stopped}
use Rattle.formula_scan.proofs.Holding.{Next, goes_on, halts, keeps, Completes, holds_nothing, AtEnd, a_whole, too_early, holds_ending}
pub use Rattle.formula_scan.proofs.Reaching.{complete}
pub use Rattle.formula_scan.proofs.Holding.{Holds, viable}

abbrev start : State
start = operand (fresh bottom)

-- A text as its marks, and one byte more.
abbrev marks_of : List ℕ → List Mark
marks_of s = marked 0 s

one_more_mark : (l : List ℕ) (c : ℕ) → marks_of (l ++ c ∷ []) ≡ marks_of l ++ mark (length l) c ∷ []
one_more_mark l c = marked_next 0 l c (omega arith)

-- What completes a text's marks completes the text.
begins : (l : List ℕ) → Completes (length l) (marks_of l) → Begins l
begins l (r, t, M) = (r, t, record { as_a_sum = subst (λ m. Means a_sum m t) (sym whole) M })
  where
    whole : marks_of (l ++ r) ≡ marks_of l ++ marked (length l) r
    whole = marked_append 0 l r ∙ ap (λ n. marks_of l ++ marked n r) (omega arith)

begins_before : (l r : List ℕ) → Begins (l ++ r) → Begins l
begins_before l r (q, t, M) = (r ++ q, t, subst (λ x. Formula x t) (append_assoc l r q) M)

-- ---- what the scan comes to
data ComesTo : List ℕ → Outcome → Type 0 where
  read : {s : List ℕ} {t : Tree} → Formula s t → ComesTo s (reads t)
  ended_early : {s : List ℕ} → Begins s → ComesTo s (stops (length s))
  halted : (l : List ℕ) (c : ℕ) (r : List ℕ) → Begins l → fed start (marks_of (l ++ c ∷ [])) ≡ stopped (length l)
      → ComesTo (l ++ c ∷ r) (stops (length l))

at_end : {l : List ℕ} {o : Outcome} → Begins l → AtEnd (length l) (marks_of l) o → ComesTo l o
at_end b (a_whole M) = read (record { as_a_sum = M })
at_end b too_early = ended_early b

one_byte : (l : List ℕ) (c : ℕ) (s : List ℕ) {S : State} → Begins l → fed start (marks_of (l ++ c ∷ [])) ≡ S
    → Next (length l) (marks_of l ++ mark (length l) c ∷ []) S
    → ((T : State) → Holds T (length (l ++ c ∷ [])) (marks_of (l ++ c ∷ [])) → fed start (marks_of (l ++ c ∷ [])) ≡ T
    → ComesTo (l ++ c ∷ [] ++ s) (run T (length (l ++ c ∷ [])) s))
    → ComesTo (l ++ c ∷ s) (run S (suc (length l)) s)
one_byte l c s {S} b e (goes_on h) later =
    subst₂ ComesTo (append_snoc l c s) (ap (λ n. run S n s) place) (later S (subst₂ (Holds S) (sym place) (sym (one_more_mark l c)) h) e)
  where
    place : length (l ++ c ∷ []) ≡ suc (length l)
    place = simp length-append (omega arith)
one_byte l c s b e halts later =
    subst (ComesTo (l ++ c ∷ s)) (sym (run-stopped (length l) (suc (length l)) s)) (halted l c s b e)

scan : (s l : List ℕ) (S : State) → Holds S (length l) (marks_of l) → fed start (marks_of l) ≡ S → ComesTo (l ++ s) (run S (length l) s)
unfolding run fed
scan [] l S h e =
    subst (λ x. ComesTo x (ending S (length l))) (sym (append-nil l))
    (at_end (begins l (viable S (length l) (marks_of l) h)) (holds_ending S (length l) (marks_of l) h))
scan (c ∷ s) l S h e =
    one_byte l c s (begins l (viable S (length l) (marks_of l) h)) arrives (keeps S (length l) (marks_of l) c h) (scan s (l ++ c ∷ []))
  where
    arrives : fed start (marks_of (l ++ c ∷ [])) ≡ step S (length l) (byte_of c)
    arrives =
        ap (fed start) (one_more_mark l c)
        ∙ fed-append start (marks_of l) (mark (length l) c ∷ [])
        ∙ ap (λ T. step T (length l) (byte_of c)) e

comes_to : (s : List ℕ) → ComesTo s (scanned s)
unfolding fed marked
comes_to s = scan s [] start (holds_nothing 0) refl

-- ---- membership
pub sound : (s : List ℕ) (t : Tree) → scanned s ≡ reads t → Formula s t
sound s t e = go (subst (ComesTo s) e (comes_to s))
  where
    go : {s : List ℕ} {t : Tree} → ComesTo s (reads t) → Formula s t
    go (read M) = M

pub unambiguous : {s : List ℕ} {t u : Tree} → Formula s t → Formula s u → t ≡ u
unambiguous {s} {t} {u} M N = same (complete M) (complete N)
  where
    same : scanned s ≡ reads t → scanned s ≡ reads u → t ≡ u
    same p q = cc

-- ---- the place where a text leaves the grammar
apart : {o : Outcome} {t : Tree} {p : ℕ} → o ≡ reads t → o ≡ stops p → ⊥
apart e q = let z : ◌≡◌ {A = ℕ} 0 1 = cc in omega arith

cut : (l r : List ℕ) (p : ℕ) → fed start (marks_of l) ≡ stopped p → scanned (l ++ r) ≡ stops p
cut l r p e = run-fed start 0 l r ∙ ap (λ S. run S (0 + length l) r) e ∙ run-stopped p (0 + length l) r

pub stops_at : (s : List ℕ) (p : ℕ) → scanned s ≡ stops p → StopsAt s p
stops_at s p e = go (subst (ComesTo s) e (comes_to s)) e
  where
    go : {s : List ℕ} {p : ℕ} → ComesTo s (stops p) → scanned s ≡ stops p → StopsAt s p
    go (ended_early {s} b) e =
        record {
          outside = λ t M. apart (complete M) e;
          within = omega arith;
          before = subst Begins (sym (take-length s)) b;
          after = λ h k. omega arith;
        }
    go (halted l c r b f) e =
        record {
          outside = λ t M. apart (complete M) e;
          within = simp length-append (omega arith);
          before = subst Begins (sym (take_at l (c ∷ r) (length l) refl)) b;
          after = λ h k. never (subst Begins one_more k);
        }
      where
        one_more : take (length l + 1) (l ++ c ∷ r) ≡ l ++ c ∷ []
        one_more =
            ap (take (length l + 1)) (sym (append_snoc l c r)) ∙ take_at (l ++ c ∷ []) r (length l + 1) (simp length-append (omega arith))

        never : Begins (l ++ c ∷ []) → ⊥
        never (q, t, M) = apart (complete M) (cut (l ++ c ∷ []) q (length l) f)

not-before : {s : List ℕ} {p q : ℕ} → StopsAt s p → StopsAt s q → p < q → ⊥
not-before {s} {p} {q} A B h = A.after (omega arith) (begins_before (take (p + 1) s) (drop (p + 1) (take q s)) (subst Begins (sym whole) B.before))
  where
    whole : take (p + 1) s ++ drop (p + 1) (take q s) ≡ take q s
    whole = ap (λ x. x ++ drop (p + 1) (take q s)) (sym (take-take (p + 1) q s (omega arith))) ∙ take-append-drop (p + 1) (take q s)

pub stops-unique : {s : List ℕ} {p q : ℕ} → StopsAt s p → StopsAt s q → p ≡ q
stops-unique {s} {p} {q} A B =
    let h : p < q → ⊥ = not-before A B in
    let k : q < p → ⊥ = not-before B A in
    omega arith

pub stops_only : (s : List ℕ) (p : ℕ) → StopsAt s p → scanned s ≡ stops p
stops_only s p A = go (scanned s) refl
  where
    go : (o : Outcome) → scanned s ≡ o → scanned s ≡ stops p
    go (reads t) e = absurd (A.outside t (sound s t e))
    go (stops q) e = e ∙ ap stops (stops-unique (stops_at s q e) A)

-- Every text means a tree, or leaves the grammar at a place.
pub decided : (s : List ℕ) → ((t : Tree) × Formula s t) ⊎ ((p : ℕ) × StopsAt s p)
decided s = go (scanned s) refl
  where
    go : (o : Outcome) → scanned s ≡ o → ((t : Tree) × Formula s t) ⊎ ((p : ℕ) × StopsAt s p)
    go (reads t) e = inl (t, sound s t e)
    go (stops p) e = inr (p, stops_at s p e)
