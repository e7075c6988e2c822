-- From what the sum reader answers on the whole text to the refusal of the text, or its tree.
use mathlib.Core.Path.{◌≡◌, refl, ap, ◌∙◌}
use mathlib.Core.Bool.{Bool, true, false}
use mathlib.Core.Logic.{◌⊎◌, inl, inr}
use mathlib.Core.List.{List}
use Prim.Native.Nat.{ℕ, ◌≤◌, ◌<◌}
use native.Mathlib.Omega.{arith}
use lib.Dec.{ltb}
use lib.ListN.{length, get_or, drop}
use lib.Seq.{drop-length}
use borrow.Author.Tests.{ltb-true, ltb-false}
use Rattle.formula_scan.specs.Fields.{Found}
use Rattle.formula.specs.Tree.{span, Tree, nodes}
use Rattle.formula.specs.Grammar.{Formula}
use Rattle.formula.specs.Refusals.{TooDeep, Fault, too_long, too_deep, not-grammar, number-over, exponent-number-over, exponent-over, too_many, x_in_base, even_base}
use Rattle.formula_scan.specs.Scan.{Byte, plus_byte, minus_byte, star_byte, caret_byte, open_byte, close_byte, x_byte, zero_byte, digit_byte, other_byte, byte_of, piece, bottom, fresh, powered, stopped, after_power, closed, step, sum_with, product_with, negatives, Outcome, reads, stops, ended, ending, run, scanned}
use Rattle.formula_scan.specs.Readers.{wrote, SumRead, DeepAt, Judged, refuses}
use Rattle.formula_scan.proofs.Scanning.{Is, byte_is}
use Rattle.formula_scan.proofs.Steps.{run_halts}
use Rattle.formula_scan.proofs.Ways.{got, lost, WholeBracket}
use Rattle.formula_scan.proofs.GrammarScan.{complete, sound, unambiguous, stops_at, stops-unique}

-- ---- 2: over 1,024 bytes
pub judged_long : {w : ℕ} (l : List ℕ) → 1024 < length l → Judged w l (record { number = 2; place = 1024 })
judged_long {w} l h = refuses (record { applies = too_long h; first = first })
  where
    first : (m q : ℕ) → Fault w l m q → (2 < m) ⊎ ((2 ≡ m) × (1024 ≤ q))
    first _ _ (too_long h) = inr (refl, omega arith)
    first _ _ (too_deep d) = inl (omega arith)
    first _ _ (not-grammar d) = inl (omega arith)
    first _ _ (number-over a b c) = inl (omega arith)
    first _ _ (exponent-number-over a b c) = inl (omega arith)
    first _ _ (exponent-over a b c) = inl (omega arith)
    first _ _ (too_many a b) = inl (omega arith)
    first _ _ (x_in_base a b c) = inl (omega arith)
    first _ _ (even_base a b c) = inl (omega arith)

-- ---- 3: the first ( that is too deep
pub judged-deep : {w : ℕ} (l : List ℕ) (p : ℕ) → length l ≤ 1024 → DeepAt l p → p < length l → Judged w l (record { number = 3; place = p })
judged-deep {w} l p short at h = refuses (record { applies = too_deep (at.deep h); first = first })
  where
    first : (m q : ℕ) → Fault w l m q → (3 < m) ⊎ ((3 ≡ m) × (p ≤ q))
    first _ _ (too_long h) = absurd (omega arith)
    first _ q (too_deep d) = inr (refl, leftmost (λ (less : q < p). at.clear q less d))
      where
        leftmost : (q < p → ⊥) → p ≤ q
        leftmost none = let fact : q < p → ⊥ = none in omega arith
    first _ _ (not-grammar d) = inl (omega arith)
    first _ _ (number-over a b c) = inl (omega arith)
    first _ _ (exponent-number-over a b c) = inl (omega arith)
    first _ _ (exponent-over a b c) = inl (omega arith)
    first _ _ (too_many a b) = inl (omega arith)
    first _ _ (x_in_base a b c) = inl (omega arith)
    first _ _ (even_base a b c) = inl (omega arith)

-- None is too deep.
pub shallow : (l : List ℕ) (p : ℕ) → DeepAt l p → length l ≤ p → (q : ℕ) → TooDeep l q → ⊥
shallow l p at h q deep = at.clear q (omega (arith, deep.inside)) deep

-- ---- the whole text read
module _ {w : ℕ} (l : List ℕ) (f : ℕ) (out : List ℕ) (r : Found) (now : List ℕ) where
  -- The sum ends before the text does: the scan stops there.
  pub scanned-short : (whole : WholeBracket w l 0 0 f out r now) → r.at < length l → scanned l ≡ stops r.at
  unfolding step after_power closed
  scanned-short whole h =
      whole.runs bottom
      ∙ run_halts (powered (fresh bottom) (piece (span 0 r.at) whole.t)) l r.at h (go (byte_of (get_or l r.at 0)) (byte_is (get_or l r.at 0)))
    where
      go : (b : Byte) → Is b (get_or l r.at 0) → after_power (fresh bottom) (piece (span 0 r.at) whole.t) r.at b ≡ stopped r.at
      go plus_byte i = absurd (whole.next.1 i)
      go minus_byte i = absurd (whole.next.2 i)
      go star_byte i = absurd (whole.next.0 i)
      go caret_byte i = refl
      go open_byte i = refl
      go close_byte i = refl
      go x_byte i = refl
      go zero_byte i = refl
      go (digit_byte d) i = refl
      go other_byte i = refl

  -- It ends with the text: the text is a formula.
  pub whole_formula : (whole : WholeBracket w l 0 0 f out r now) → length l ≤ r.at → Formula l whole.t
  unfolding run ending ended sum_with product_with negatives
  whole_formula whole h =
      sound l whole.t
      (whole.runs bottom
      ∙ ap (λ s. run (powered (fresh bottom) (piece (span 0 r.at) whole.t)) r.at s) (ap (λ k. drop k l) (same whole.inside) ∙ drop-length l))
    where
      same : r.at ≤ length l → r.at ≡ length l
      same k = omega arith

  -- A formula's tree is the one that the reader got.
  pub formula_got : (t : Tree) → SumRead w l 0 0 f out r now → Formula l t → (r.nodes ≡ nodes t) × (now ≡ wrote w t 0 out)
  formula_got t read means = go r.ok refl
    where
      clash : (p : ℕ) → scanned l ≡ stops p → ⊥
      clash p e = let z : ◌≡◌ {A = ℕ} 0 1 = never (complete means) e in omega arith
        where
          never : {o : Outcome} {t : Tree} {p : ℕ} → o ≡ reads t → o ≡ stops p → ◌≡◌ {A = ℕ} 0 1
          never a b = cc

      reached : (whole : WholeBracket w l 0 0 f out r now) → (b : Bool) → ltb r.at (length l) ≡ b → (r.nodes ≡ nodes t) × (now ≡ wrote w t 0 out)
      reached whole true e = absurd (clash r.at (scanned-short whole (ltb-true r.at (length l) e)))
      reached whole false e =
          let same : whole.t ≡ t = unambiguous (whole_formula whole (ltb-false r.at (length l) e)) means in
          (whole.counted ∙ omega (arith, ap (λ u. nodes u) same), whole.writes ∙ ap (λ u. wrote w u 0 out) same)

      go : (b : Bool) → r.ok ≡ b → (r.nodes ≡ nodes t) × (now ≡ wrote w t 0 out)
      go true e = let whole = got read e in reached whole (ltb r.at (length l)) refl
      go false e = absurd (clash r.at (lost read e bottom))

-- ---- 4: not in the grammar
module _ {w : ℕ} (l : List ℕ) (short : length l ≤ 1024) (flat : (q : ℕ) → TooDeep l q → ⊥) where
  pub judged_stop : (p : ℕ) → scanned l ≡ stops p → Judged w l (record { number = 4; place = p })
  judged_stop p e = refuses (record { applies = not-grammar (stops_at l p e); first = first })
    where
      first : (m q : ℕ) → Fault w l m q → (4 < m) ⊎ ((4 ≡ m) × (p ≤ q))
      first _ _ (too_long h) = absurd (omega arith)
      first _ q (too_deep d) = absurd (flat q d)
      first _ q (not-grammar d) = inr (refl, omega (arith, stops-unique (stops_at l p e) d))
      first _ _ (number-over a b c) = inl (omega arith)
      first _ _ (exponent-number-over a b c) = inl (omega arith)
      first _ _ (exponent-over a b c) = inl (omega arith)
      first _ _ (too_many a b) = inl (omega arith)
      first _ _ (x_in_base a b c) = inl (omega arith)
      first _ _ (even_base a b c) = inl (omega arith)

-- ---- the answer
pub fault_number : {w : ℕ} {s : List ℕ} {n p : ℕ} → Fault w s n p → 2 ≤ n
fault_number (too_long h) = omega arith
fault_number (too_deep d) = omega arith
fault_number (not-grammar d) = omega arith
fault_number (number-over a b c) = omega arith
fault_number (exponent-number-over a b c) = omega arith
fault_number (exponent-over a b c) = omega arith
fault_number (too_many a b) = omega arith
fault_number (x_in_base a b c) = omega arith
fault_number (even_base a b c) = omega arith
