-- The one function of specs/Verdict.antt is the answer: it gives a refusal if and only if Refusals.antt refuses the text so, and a tree
-- if and only if the text is accepted with that tree.
use mathlib.Core.Path.{◌≡◌, refl, sym, ap, ap₂, subst, ◌∙◌}
use mathlib.Core.Bool.{Bool, true, false, cond}
use mathlib.Core.List.{List, [], ◌∷◌}
use Prim.Native.Nat.{ℕ, suc, ◌+◌, ◌/◌, ◌%◌, ◌≤◌, ◌<◌}
use native.Mathlib.Numerals.{add-one}
use native.Mathlib.Omega.{arith}
use lib.Dec.{ltb}
use lib.ListN.{length, get_or, drop, length-drop}
use lib.Seq.{drop-cons}
use borrow.Author.Tests.{ltb-true, ltb-false}
use Rattle.formula.specs.Tree.{Tree}
use Rattle.formula.specs.Refusals.{TooDeep, Refused, Accepted}
use Rattle.formula_scan.specs.Scan.{Outcome, reads, stops, scanned}
use Rattle.formula_scan.specs.Readers.{no_fault, code, DeepAt, Judged, refuses, accepts}
use Rattle.formula_scan.specs.Verdict.{Verdict, refused, accepted, counting, deep_place, outcome_verdict, short_verdict, verdict_for, verdict}
use Rattle.formula_scan.proofs.GrammarScan.{sound, unambiguous}
use Rattle.formula_scan.proofs.BracketCount.{DeepSoFar, deep_starts, deep-found, deep_goes_on, deep_nowhere}
use Rattle.formula_scan.proofs.Judging.{judged_long, judged-deep, judged_stop, shallow}
use Rattle.formula_scan.proofs.Faults.{tree-refused, tree-accepted}
use Rattle.formula_scan.proofs.Answers.{refused-unique, refused-not-accepted}

-- ---- the first ( that is too deep
deep-from : (l s : List ℕ) (i opened closed : ℕ) → drop i l ≡ s → DeepSoFar l i opened closed → DeepAt l (deep_place opened closed i s)
unfolding deep_place
deep-from l [] i opened closed e so = deep_nowhere l i opened closed so (omega (arith, length-drop i l, ap (λ r. length r) e))
deep-from l (c ∷ s) i opened closed e so = go (ltb (32 + less) more) refl (deep-from l s (i + 1) more less later)
  where
    more : ℕ
    more = counting 40 c opened

    less : ℕ
    less = counting 41 c closed

    inside : i < length l
    inside = omega (arith, length-drop i l, ap (λ r. length r) e)

    both : {a b : ℕ} {r q : List ℕ} → ◌≡◌ {A = List ℕ} (a ∷ r) (b ∷ q) → (a ≡ b) × (r ≡ q)
    both e = (cc, cc)

    here : (get_or l i 0 ≡ c) × (drop (suc i) l ≡ s)
    here = both (sym (drop-cons l i 0 inside) ∙ e)

    later : drop (i + 1) l ≡ s
    later = ap (λ k. drop k l) (add-one i) ∙ here.1

    go : (t : Bool) → ltb (32 + less) more ≡ t → (DeepSoFar l (i + 1) more less → DeepAt l (deep_place more less (i + 1) s))
        → DeepAt l (cond t i (deep_place more less (i + 1) s))
    go true q rest =
        deep-found l i opened closed more less so inside (ap (λ b. counting 40 b opened) (sym here.0))
        (ap (λ b. counting 41 b closed) (sym here.0)) (ltb-true (32 + less) more q)
    go false q rest =
        rest
        (deep_goes_on l i opened closed more less so inside (ap (λ b. counting 40 b opened) (sym here.0))
        (ap (λ b. counting 41 b closed) (sym here.0)) (ltb-false (32 + less) more q))

pub deep-place_at : (s : List ℕ) → DeepAt s (deep_place 0 0 0 s)
deep-place_at s = deep-from s s 0 0 0 refl (deep_starts s)

-- ---- the verdict is right
pub data Right (s : List ℕ) : Verdict → Type 0 where
  right-refused : {n p : ℕ} → Refused 64 s n p → Right s (refused n p)
  right-accepted : {t : Tree} → Accepted 64 s t → Right s (accepted t)

module _ (s : List ℕ) where
  pub refused-right : {n p : ℕ} → Right s (refused n p) → Refused 64 s n p
  refused-right (right-refused r) = r

  pub accepted-right : {t : Tree} → Right s (accepted t) → Accepted 64 s t
  accepted-right (right-accepted a) = a

  -- A fault's number is not 0.
  judged-right : (n p : ℕ) → 2 ≤ n → Judged 64 s (record { number = n; place = p }) → Right s (refused n p)
  judged-right n p some (refuses r) = right-refused r
  judged-right n p some (accepts a) = absurd (omega arith)

  module _ (short : length s ≤ 1024) where
    outcome_right : (flat : (q : ℕ) → TooDeep s q → ⊥) (o : Outcome) → scanned s ≡ o → Right s (outcome_verdict 64 o)
    unfolding outcome_verdict
    outcome_right flat (stops p) e = judged-right 4 p (omega arith) (judged_stop s short flat p e)
    outcome_right flat (reads t) e = go (ltb (code 64 t) no_fault) refl
      where
        go : (b : Bool) → ltb (code 64 t) no_fault ≡ b → Right s (cond b (refused (code 64 t / 2048) (code 64 t % 2048)) (accepted t))
        go true q = right-refused (tree-refused 64 (omega arith) s t (sound s t e) short flat (ltb-true (code 64 t) no_fault q))
        go false q = right-accepted (tree-accepted 64 (omega arith) s t (sound s t e) short flat (ltb-false (code 64 t) no_fault q))

    short-right : (p : ℕ) → DeepAt s p → Right s (short_verdict 64 (length s) p (scanned s))
    short-right p at = go (ltb p (length s)) refl
      where
        go : (b : Bool) → ltb p (length s) ≡ b → Right s (cond b (refused 3 p) (outcome_verdict 64 (scanned s)))
        go true q = judged-right 3 p (omega arith) (judged-deep s p short at (ltb-true p (length s) q))
        go false q = outcome_right (shallow s p at (ltb-false p (length s) q)) (scanned s) refl

pub verdict-right : (s : List ℕ) → Right s (verdict s)
unfolding verdict_for
verdict-right s = go (ltb 1024 (length s)) refl
  where
    go : (b : Bool) → ltb 1024 (length s) ≡ b
        → Right s (cond b (refused 2 1024) (short_verdict 64 (length s) (deep_place 0 0 0 s) (scanned s)))
    go true q = judged-right s 2 1024 (omega arith) (judged_long s (ltb-true 1024 (length s) q))
    go false q = short-right s (ltb-false 1024 (length s) q) (deep_place 0 0 0 s) (deep-place_at s)

-- ---- and there is no other
right_unique : {s : List ℕ} {a b : Verdict} → Right s a → Right s b → a ≡ b
right_unique (right-refused r) (right-refused q) = let same = refused-unique r q in ap₂ refused same.0 same.1
right_unique (right-refused r) (right-accepted q) = absurd (refused-not-accepted r q)
right_unique (right-accepted r) (right-refused q) = absurd (refused-not-accepted q r)
right_unique (right-accepted r) (right-accepted q) = ap accepted (unambiguous r.means q.means)

pub verdict_only : (s : List ℕ) (v : Verdict) → Right s v → verdict s ≡ v
verdict_only s v r = right_unique (verdict-right s) r

pub verdict-refused : (s : List ℕ) {n p : ℕ} → verdict s ≡ refused n p → Refused 64 s n p
verdict-refused s e = refused-right s (subst (Right s) e (verdict-right s))

pub verdict-accepted : (s : List ℕ) {t : Tree} → verdict s ≡ accepted t → Accepted 64 s t
verdict-accepted s e = accepted-right s (subst (Right s) e (verdict-right s))

pub refused-verdict : (s : List ℕ) {n p : ℕ} → Refused 64 s n p → verdict s ≡ refused n p
refused-verdict s {n} {p} r = verdict_only s (refused n p) (right-refused r)

pub accepted-verdict : (s : List ℕ) {t : Tree} → Accepted 64 s t → verdict s ≡ accepted t
accepted-verdict s {t} a = verdict_only s (accepted t) (right-accepted a)
