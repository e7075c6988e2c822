-- What marks cover: joined, and side by side.
use mathlib.Core.Path.{◌≡◌, refl, ap, ap₂, ◌∙◌}
use mathlib.Core.List.{List, [], ◌∷◌, ◌++◌}
use Prim.Native.Nat.{ℕ, suc, ◌+◌, ◌≤◌, ◌<◌}
use native.Mathlib.Omega.{arith}
use lib.ListN.{length, length-append}
use Rattle.formula.specs.Bytes.{open_bracket, close_bracket, caret}
use Rattle.formula.specs.Marks.{Mark, mark, marked}
use Rattle.formula.specs.Tree.{span}
use Rattle.formula.specs.Grammar.{Number, nought, digits, first_place, end_place, covered}
use Rattle.formula.proofs.TextMarks.{marked-length, Rising, next-mark, rising_upto}

-- ---- joined
pub first-append : (s r : List Mark) → 1 ≤ length s → first_place (s ++ r) ≡ first_place s
unfolding first_place
first-append [] r some = absurd (omega arith)
first-append (mark p c ∷ s) r some = refl

end-behind : (m : Mark) (r : List Mark) → 1 ≤ length r → end_place (m ∷ r) ≡ end_place r
unfolding end_place
end-behind m [] some = absurd (omega arith)
end-behind (mark p c) (k ∷ r) some = refl

pub end-append : (s r : List Mark) → 1 ≤ length r → end_place (s ++ r) ≡ end_place r
end-append [] r some = refl
end-append (m ∷ s) r some = end-behind m (s ++ r) (simp length-append (omega arith)) ∙ end-append s r some

-- One mark and more behind it, and marks joined by one between them.
pub covered-behind : (p c : ℕ) (r : List Mark) → 1 ≤ length r → covered (mark p c ∷ r) ≡ span p (end_place r)
unfolding first_place
covered-behind p c r some = ap (λ e. span p e) (end-behind (mark p c) r some)

pub covered-joined : (s : List Mark) (m : Mark) (r : List Mark) → 1 ≤ length s → 1 ≤ length r → covered (s ++ m ∷ r) ≡ span (first_place s) (end_place r)
covered-joined s m r some more =
    ap₂ span (first-append s (m ∷ r) some) (end-append s (m ∷ r) (omega arith) ∙ end-behind m r more)

-- Marks with one behind them.
pub covered-before : (s : List Mark) (p c : ℕ) → 1 ≤ length s → covered (s ++ mark p c ∷ []) ≡ span (first_place s) (suc p)
unfolding end_place
covered-before s p c some = ap₂ span (first-append s (mark p c ∷ []) some) (end-append s (mark p c ∷ []) (omega arith))

-- ---- side by side
pub marked-first : (p : ℕ) (ds : List ℕ) → 1 ≤ length ds → first_place (marked p ds) ≡ p
unfolding first_place marked
marked-first p [] some = absurd (omega arith)
marked-first p (d ∷ ds) some = refl

pub marked-end : (p : ℕ) (ds : List ℕ) → 1 ≤ length ds → end_place (marked p ds) ≡ p + length ds
unfolding end_place marked
marked-end p [] some = absurd (omega arith)
marked-end p (d ∷ []) some = omega arith
marked-end p (d ∷ e ∷ ds) some = marked-end (suc p) (e ∷ ds) (omega arith) ∙ omega arith

number_some : {ds : List ℕ} {v : ℕ} → Number ds v → 1 ≤ length ds
number_some nought = omega arith
number_some (digits low high rest) = omega arith

pub number_covers : (p : ℕ) {ds : List ℕ} {v : ℕ} → Number ds v → covered (marked p ds) ≡ span p (p + length ds)
number_covers p {ds} N = ap₂ span (marked-first p ds (number_some N)) (marked-end p ds (number_some N))

-- ---- powers and brackets
pub literal_covers : (p first : ℕ) (s : List Mark) → 1 ≤ length s → {ds : List ℕ} {n : ℕ} → Number ds n
    → covered (s ++ mark p caret ∷ marked first ds) ≡ span (first_place s) (first + length ds)
literal_covers p first s some {ds} N =
    covered-joined s (mark p caret) (marked first ds) some (omega (arith, marked-length first ds, number_some N))
    ∙ ap (λ e. span (first_place s) e) (marked-end first ds (number_some N))

pub raise_covers : (p opens closes : ℕ) (s r : List Mark) → 1 ≤ length s
    → covered (s ++ mark p caret ∷ mark opens open_bracket ∷ r ++ mark closes close_bracket ∷ []) ≡ span (first_place s) (suc closes)
raise_covers p opens closes s r some =
    covered-before (s ++ mark p caret ∷ mark opens open_bracket ∷ r) closes close_bracket (simp length-append (omega arith))
    ∙ ap (λ k. span k (suc closes)) (first-append s (mark p caret ∷ mark opens open_bracket ∷ r) some)

pub brackets_cover : (opens closes : ℕ) (s : List Mark) → covered (mark opens open_bracket ∷ s ++ mark closes close_bracket ∷ []) ≡ span opens (suc closes)
unfolding first_place
brackets_cover opens closes s = covered-before (mark opens open_bracket ∷ s) closes close_bracket (omega arith)

-- ---- rising
pub covered_rises : {at end : ℕ} (m : List Mark) → Rising at end m → 1 ≤ length m
    → (at ≤ first_place m) × (first_place m < end_place m) × (end_place m ≤ end)
unfolding first_place end_place
covered_rises [] R some = absurd (omega arith)
covered_rises (mark p c ∷ []) (next-mark h R) some = (h, omega arith, rising_upto R)
covered_rises (mark p c ∷ mark q d ∷ m) (next-mark h R) some =
    let (low, room, high) = covered_rises (mark q d ∷ m) R (omega arith) in
    (h, omega arith, high)
