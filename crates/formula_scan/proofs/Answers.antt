-- A text has one answer: two refusals of it are the same, none is accepted, and a reading leaves the same words.
-- And what an accepted tree has: numbers, literal exponents and nodes that fit, and odd bases without x.
use mathlib.Core.Path.{◌≡◌, refl, ap, ap₂}
use mathlib.Core.Bool.{Bool, true, false}
use mathlib.Core.Logic.{◌⊎◌, inl, inr}
use mathlib.Core.List.{List, ◌++◌}
use Prim.Native.Nat.{ℕ, ◌%◌, ◌^◌, ◌≤◌, ◌<◌}
use native.Mathlib.Omega.{arith}
use lib.ListN.{drop}
use Rattle.formula.specs.Answer.{ReadAnswer}
use Rattle.formula.specs.Tree.{Span, Tree, number, literal_power, nodes, holds_x}
use Rattle.formula.specs.Value.{value_for}
use Rattle.formula.specs.Refusals.{Part, number-over, exponent-over, too_many, x_in_base, even_base, Refused, Accepted, Reading, too_short, refused, accepted}
use Rattle.formula.specs.Words.{tree_words, tree_length, most_nodes}
use Rattle.formula_scan.proofs.GrammarScan.{unambiguous}
use Rattle.formula_scan.proofs.Parity.{OddBases}

-- ---- one answer
pub refused-unique : {w n p m q : ℕ} {s : List ℕ} → Refused w s n p → Refused w s m q → (n ≡ m) × (p ≡ q)
refused-unique {w} {n} {p} {m} {q} A B = go (A.first m q B.applies) (B.first n p A.applies)
  where
    go : (n < m) ⊎ ((n ≡ m) × (p ≤ q)) → (m < n) ⊎ ((m ≡ n) × (q ≤ p)) → (n ≡ m) × (p ≡ q)
    go (inl h) (inl k) = absurd (omega arith)
    go (inl h) (inr k) = absurd (omega arith)
    go (inr h) (inl k) = absurd (omega arith)
    go (inr h) (inr k) = (h.0, omega arith)

pub refused-not-accepted : {w n p : ℕ} {s : List ℕ} {t : Tree} → Refused w s n p → Accepted w s t → ⊥
refused-not-accepted {n = n} {p} A B = B.faultless n p A.applies

pub reading_unique : {w : ℕ} {s lent out out' : List ℕ} {r r' : ReadAnswer} → Reading w s lent r out → Reading w s lent r' out'
    → (r ≡ r') × (out ≡ out')
reading_unique (too_short h) (too_short k) = (refl, refl)
reading_unique (too_short h) (refused k B) = absurd (omega arith)
reading_unique (too_short h) (accepted k B) = absurd (omega arith)
reading_unique (refused h A) (too_short k) = absurd (omega arith)
reading_unique (refused h A) (refused k B) =
    let same = refused-unique A B in
    (ap₂ (λ n p. record { number = n; place = p }) same.0 same.1, refl)
reading_unique (refused h A) (accepted k B) = absurd (refused-not-accepted A B)
reading_unique (accepted h A) (too_short k) = absurd (omega arith)
reading_unique (accepted h A) (refused k B) = absurd (refused-not-accepted B A)
reading_unique {lent = lent} (accepted h A) (accepted k B) =
    (refl, ap (λ t. tree_words t ++ drop tree_length lent) (unambiguous A.means B.means))

-- ---- what an accepted tree has
pub accepted_fits : {w : ℕ} {s : List ℕ} {t : Tree} → Accepted w s t
    → ((k : Span) (p v : ℕ) → Part (number k p v) t → v < 2 ^ w) × ((k : Span) (a : Tree) (p n : ℕ) → Part (literal_power k a p n) t → n ≤ 64) × (nodes t ≤ most_nodes)
accepted_fits {w} {s} {t} A = (numbers, exponents, few)
  where
    numbers : (s : Span) (p v : ℕ) → Part (number s p v) t → v < 2 ^ w
    numbers s p v k = let h : 2 ^ w ≤ v → ⊥ = λ over. A.faultless _ _ (number-over A.means k over) in omega arith

    exponents : (s : Span) (a : Tree) (p n : ℕ) → Part (literal_power s a p n) t → n ≤ 64
    exponents s a p n k = let h : 64 < n → ⊥ = λ over. A.faultless _ _ (exponent-over A.means k over) in omega arith

    few : nodes t ≤ most_nodes
    few = let h : most_nodes < nodes t → ⊥ = λ many. A.faultless _ _ (too_many A.means many) in omega arith

pub accepted_base : {w : ℕ} {s : List ℕ} {t : Tree} → Accepted w s t → OddBases w t
accepted_base {w} A s a b p k = (without_x (holds_x a) refl, odd)
  where
    without_x : (x : Bool) → holds_x a ≡ x → x ≡ false
    without_x true e = absurd (A.faultless _ _ (x_in_base A.means k e))
    without_x false e = refl

    odd : value_for w 0 a % 2 ≡ 1
    odd = let h : value_for w 0 a % 2 ≡ 0 → ⊥ = λ even. A.faultless _ _ (even_base A.means k even) in omega arith
