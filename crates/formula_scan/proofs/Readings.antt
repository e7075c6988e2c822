-- Each way through a reader, as its contract says it: what the scan does on the bytes that the reader took.
use mathlib.Core.Path.{◌≡◌, refl, sym, ap, ap₂, subst, ◌∙◌}
use mathlib.Core.Bool.{Bool, true, false, ◌&&◌}
use mathlib.Core.List.{List, [], ◌∷◌, ◌++◌}
use Prim.Native.Nat.{ℕ, zero, suc, ◌+◌, ◌-◌, ◌*◌, ◌%◌, ◌^◌, ◌≤◌, ◌<◌}
use native.Mathlib.Numerals.{add-one}
use native.Mathlib.Nat.{sub_self}
use native.Mathlib.Omega.{arith}
use lib.Dec.{leb}
use lib.ListN.{length, get_or, take, drop, length-drop}
use lib.Seq.{take-suc, get_or-drop}
use borrow.Author.Tests.{leb-true, le-leb, lt-leb}
use Rattle.formula_scan.specs.Fields.{Found, Numeral}
use Rattle.formula.specs.Bytes.{Digit}
use Rattle.formula.specs.Grammar.{Number, nought}
use Rattle.formula.specs.Tree.{span}
use Rattle.formula_scan.specs.Scan.{Byte, plus_byte, minus_byte, star_byte, caret_byte, open_byte, close_byte, x_byte, zero_byte, digit_byte, other_byte, byte_of, Piece, number_to, literal_to, PendingSum, PendingProduct, Level, level, Outer, State, operand, in_number, atomed, after_caret, in_literal, powered, after_power, after_atom, after_digit, after_literal_digit, before_operand, before_exponent, step, ending, run}
use Rattle.formula_scan.specs.Readers.{kept, put, wrote_minus, finding, NumberRead, signs_before, MinusSigns}
use Rattle.formula_scan.proofs.Scanning.{Is, byte_is, byte_digit, takes}
use Rattle.formula_scan.proofs.Steps.{inside, run_byte, run_same}
use Rattle.formula_scan.proofs.Holding.{Count, first-digit, next-digit, counted}
use Rattle.formula_scan.specs.Readers

-- ---- numbers
-- The test for a digit, as facts.
pub digit_test : (c : ℕ) → (leb 48 c && leb c 57) ≡ true → Digit c
digit_test c e = go (leb 48 c) (leb c 57) refl refl e
  where
    go : (a b : Bool) → leb 48 c ≡ a → leb c 57 ≡ b → (a && b) ≡ true → Digit c
    go true true p q e = (leb-true 48 c p, leb-true c 57 q)
    go true false p q e = let clash : true ≡ false = sym e in absurd (mathlib.Core.Bool.true≢false clash)
    go false b p q e = let clash : true ≡ false = sym e in absurd (mathlib.Core.Bool.true≢false clash)

pub no_digit_test : (c : ℕ) → (leb 48 c && leb c 57) ≡ false → Digit c → ⊥
no_digit_test c e d = mathlib.Core.Bool.true≢false (sym (ap₂ ◌&&◌ (le-leb 48 c d.0) (le-leb c 57 d.1)) ∙ e)

-- After the digits of a number, with no digit next, it is an atom, or a literal exponent.
number-done : (l : List ℕ) (at : ℕ) (lv : Level) (p v e : ℕ) → (Digit (get_or l at 0) → ⊥)
    → run (in_number lv p v e) at (drop at l) ≡ run (atomed lv (number_to p v e)) at (drop at l)
unfolding step ending after_digit
number-done l at lv p v e none = run_same (in_number lv p v e) (atomed lv (number_to p v e)) l at (go (byte_of (get_or l at 0)) (byte_is (get_or l at 0))) refl
  where
    go : (b : Byte) → Is b (get_or l at 0) → after_digit lv p v e at b ≡ after_atom lv (number_to p v e) at b
    go plus_byte i = refl
    go minus_byte i = refl
    go star_byte i = refl
    go caret_byte i = refl
    go open_byte i = refl
    go close_byte i = refl
    go x_byte i = refl
    go zero_byte i = absurd (none (omega arith))
    go (digit_byte d) i = absurd (none (omega arith))
    go other_byte i = refl

literal_done : (l : List ℕ) (at : ℕ) (lv : Level) (x : Piece) (p n e : ℕ) → (Digit (get_or l at 0) → ⊥)
    → run (in_literal lv x p n e) at (drop at l) ≡ run (powered lv (literal_to x p n e)) at (drop at l)
unfolding step ending after_literal_digit
literal_done l at lv x p n e none = run_same (in_literal lv x p n e) (powered lv (literal_to x p n e)) l at (go (byte_of (get_or l at 0)) (byte_is (get_or l at 0))) refl
  where
    go : (b : Byte) → Is b (get_or l at 0) → after_literal_digit lv x p n e at b ≡ after_power lv (literal_to x p n e) at b
    go plus_byte i = refl
    go minus_byte i = refl
    go star_byte i = refl
    go caret_byte i = refl
    go open_byte i = refl
    go close_byte i = refl
    go x_byte i = refl
    go zero_byte i = absurd (none (omega arith))
    go (digit_byte d) i = absurd (none (omega arith))
    go other_byte i = refl

-- The bytes from a place on, with one byte more at their end.
one_more : (l : List ℕ) (at p : ℕ) → at ≤ p → p < length l → take (p + 1 - at) (drop at l) ≡ take (p - at) (drop at l) ++ get_or l p 0 ∷ []
one_more l at p h k =
    ap (λ n. take n (drop at l)) next
    ∙ take-suc (drop at l) (p - at) 0 (omega (arith, length-drop at l))
    ∙ ap (λ c. take (p - at) (drop at l) ++ c ∷ []) (get_or-drop at l (p - at) 0 ∙ ap (λ n. get_or l n 0) (omega arith))
  where
    next : p + 1 - at ≡ suc (p - at)
    next = omega arith

first_byte : (l : List ℕ) (at : ℕ) → at < length l → take (at + 1 - at) (drop at l) ≡ get_or l at 0 ∷ []
first_byte l at h = one_more l at at (omega arith) h ∙ ap (λ n. take n (drop at l) ++ get_or l at 0 ∷ []) (sub_self at)

-- The digits so far.
pub record NumberSoFar (w : ℕ) (l : List ℕ) (at : ℕ) (r : Numeral) : Type 0 where
  pub v : ℕ
  pub value-kept : r.value ≡ kept w v
  pub value-over : r.over ≡ leb (2 ^ w) v
  pub value_odd : r.odd ≡ v % 2
  pub onward : at < r.at
  pub inside : r.at ≤ length l
  pub as_atom : (lv : Level) → run (operand lv) at (drop at l) ≡ run (in_number lv at v r.at) r.at (drop r.at l)
  pub as_exponent : (lv : Level) (x : Piece) (p : ℕ)
      → run (after_caret lv x p) at (drop at l) ≡ run (in_literal lv x p v r.at) r.at (drop r.at l)
  pub spelt : Count (take (r.at - at) (drop at l)) v

pub number_nought : (l : List ℕ) (at d : ℕ) → d + 48 ≡ get_or l at 0 → d ≡ 0
    → NumberRead 64 l at (record { at = at + 1; value = d; over = false; odd = d % 2 })
unfolding step before_operand before_exponent byte_of
number_nought l at d e none = record {
  v = 0;
  value-kept = none;
  value-over = refl;
  value_odd = ap (λ z. z % 2) none;
  onward = omega arith;
  inside = omega (arith, inside l at (omega arith));
  as_atom = λ lv. run_byte (operand lv) l at 48 (omega arith) (omega arith)
      ∙ ap (λ e. run (atomed lv (number_to at 0 e)) (at + 1) (drop (at + 1) l)) (sym (add-one at));
  as_exponent = λ lv x p. run_byte (after_caret lv x p) l at 48 (omega arith) (omega arith)
      ∙ ap (λ e. run (powered lv (literal_to x p 0 e)) (at + 1) (drop (at + 1) l)) (sym (add-one at));
  spelt = subst (λ s. Number s 0) (sym (first_byte l at (inside l at (omega arith)) ∙ ap (λ c. c ∷ []) zeroth)) nought;
  all = λ high. absurd (omega arith);
}
  where
    zeroth : get_or l at 0 ≡ 48
    zeroth = omega arith

pub number_starts : (l : List ℕ) (at d : ℕ) → d + 48 ≡ get_or l at 0 → d ≤ 9 → (d ≡ 0 → ⊥)
    → NumberSoFar 64 l at (record { at = at + 1; value = d; over = false; odd = d % 2 })
unfolding step before_operand before_exponent
number_starts l at d e small some = record {
  v = d;
  value-kept = omega arith;
  value-over = sym (lt-leb (2 ^ 64) d (omega arith));
  value_odd = refl;
  onward = omega arith;
  inside = omega (arith, inside l at (omega arith));
  as_atom = λ lv. run_byte (operand lv) l at (d + 48) (sym e) (omega arith) ∙ ap (λ b. run (before_operand lv at b) (at + 1) (drop (at + 1) l)) digit
      ∙ ap (λ e. run (in_number lv at d e) (at + 1) (drop (at + 1) l)) (sym (add-one at));
  as_exponent = λ lv x p. run_byte (after_caret lv x p) l at (d + 48) (sym e) (omega arith) ∙ ap (λ b. run (before_exponent lv x p at b) (at + 1) (drop (at + 1) l)) digit
      ∙ ap (λ k. run (in_literal lv x p d k) (at + 1) (drop (at + 1) l)) (sym (add-one at));
  spelt = subst (λ s. Count s d) (sym (first_byte l at (inside l at (omega arith)) ∙ ap (λ c. c ∷ []) (sym e)))
      (subst (λ v. Count ((d + 48) ∷ []) v) value (first-digit (omega arith) (omega arith)));
}
  where
    value : d + 48 - 48 ≡ d
    value = omega arith

    digit : byte_of (d + 48) ≡ digit_byte d
    digit = byte_digit (d + 48) (omega arith) (omega arith) ∙ ap (λ z. digit_byte z) (omega arith)

pub number_goes_on : {w : ℕ} (l : List ℕ) (at : ℕ) (r more : Numeral) (d : ℕ) → NumberSoFar w l at r → d + 48 ≡ get_or l r.at 0 → d ≤ 9
    → Readers.Pushed w r d more → NumberSoFar w l at more
unfolding step after_digit after_literal_digit
number_goes_on l at r more d so e small push = record {
  v = 10 * so.v + d;
  value-kept = push.value-kept so.v so.value-kept so.value-over;
  value-over = push.value-over so.v so.value-kept so.value-over;
  value_odd = push.value_odd ∙ omega arith;
  onward = omega (arith, so.onward, push.onward);
  inside = omega (arith, push.onward, inside l r.at (omega arith));
  as_atom = λ lv. so.as_atom lv ∙ run_byte (in_number lv at so.v r.at) l r.at (d + 48) (sym e) (omega arith)
      ∙ ap (λ S. run S (r.at + 1) (drop (r.at + 1) l)) (taken (λ v k. in_number lv at v k) (λ v k p. refl) (λ v k p d. refl))
      ∙ ap (λ n. run (in_number lv at (10 * so.v + d) n) n (drop n l)) (sym push.onward);
  as_exponent = λ lv x p. so.as_exponent lv x p ∙ run_byte (in_literal lv x p so.v r.at) l r.at (d + 48) (sym e) (omega arith)
      ∙ ap (λ S. run S (r.at + 1) (drop (r.at + 1) l)) (taken (λ v k. in_literal lv x p v k) (λ v k q. refl) (λ v k q d. refl))
      ∙ ap (λ n. run (in_literal lv x p (10 * so.v + d) n) n (drop n l)) (sym push.onward);
  spelt = subst (λ s. Count s (10 * so.v + d)) (sym longer)
      (subst (λ v. Count (take (r.at - at) (drop at l) ++ (d + 48) ∷ []) v) value (next-digit so.spelt (omega arith, omega arith)));
}
  where
    longer : take (more.at - at) (drop at l) ≡ take (r.at - at) (drop at l) ++ (d + 48) ∷ []
    longer =
        ap (λ n. take (n - at) (drop at l)) push.onward
        ∙ one_more l at r.at (omega (arith, so.onward)) (inside l r.at (omega arith))
        ∙ ap (λ c. take (r.at - at) (drop at l) ++ c ∷ []) (sym e)

    value : 10 * so.v + (d + 48 - 48) ≡ 10 * so.v + d
    value = omega arith

    taken : (holding : ℕ → ℕ → State) → ((v e p : ℕ) → step (holding v e) p zero_byte ≡ holding (10 * v + 0) (suc p))
        → ((v e p k : ℕ) → step (holding v e) p (digit_byte k) ≡ holding (10 * v + k) (suc p))
        → step (holding so.v r.at) r.at (byte_of (d + 48)) ≡ holding (10 * so.v + d) (r.at + 1)
    taken holding z k =
        takes holding z k so.v r.at r.at (d + 48) (omega arith) ∙ ap₂ (λ n e. holding (10 * so.v + n) e) (omega arith) (sym (add-one r.at))

pub number-ends : {w : ℕ} (l : List ℕ) (at : ℕ) (r : Numeral) → NumberSoFar w l at r → (Digit (get_or l r.at 0) → ⊥) → NumberRead w l at r
number-ends l at r so none = record {
  v = so.v;
  value-kept = so.value-kept;
  value-over = so.value-over;
  value_odd = so.value_odd;
  onward = so.onward;
  inside = so.inside;
  as_atom = λ lv. so.as_atom lv ∙ number-done l r.at lv at so.v r.at none;
  as_exponent = λ lv x p. so.as_exponent lv x p ∙ literal_done l r.at lv x p so.v r.at none;
  spelt = counted so.spelt;
  all = λ high. none;
}

-- ---- minus signs
-- One sign more, behind the others.
signs_next : (q k : ℕ) → signs_before (suc q) (suc k) ≡ q ∷ signs_before q k
unfolding signs_before
signs_next q zero = ap (λ p. p ∷ []) (omega arith)
signs_next q (suc k) = ap₂ (λ m p. m ++ p ∷ []) (signs_next q k) (omega arith)

-- The minus signs so far, up to place i.
pub record MinusSoFar (l : List ℕ) (at i : ℕ) : Type 0 where
  pub onward : at ≤ i
  pub inside : i ≤ length l
  pub counted : (σ : PendingSum) (π : PendingProduct) (m : List ℕ) (o : Outer)
      → run (operand (level σ π m o)) at (drop at l) ≡ run (operand (level σ π (signs_before i (i - at) ++ m) o)) i (drop i l)

pub minus_starts : (l : List ℕ) (at : ℕ) → at ≤ length l → MinusSoFar l at at
unfolding signs_before
minus_starts l at h = record {
  onward = omega arith;
  inside = h;
  counted = λ σ π m o. ap (λ k. run (operand (level σ π (signs_before at k ++ m) o)) at (drop at l)) (sym (sub_self at));
}

pub minus_goes_on : (l : List ℕ) (at i : ℕ) → MinusSoFar l at i → get_or l i 0 ≡ 45 → MinusSoFar l at (i + 1)
unfolding step before_operand byte_of
minus_goes_on l at i so e = record {
  onward = omega (arith, so.onward);
  inside = omega (arith, inside l i (omega arith));
  counted = λ σ π m o. so.counted σ π m o ∙ run_byte (operand (level σ π (signs_before i (i - at) ++ m) o)) l i 45 e (omega arith)
      ∙ ap (λ k. run (operand (level σ π (k ++ m) o)) (i + 1) (drop (i + 1) l)) (sym signs);
}
  where
    signs : signs_before (i + 1) (i + 1 - at) ≡ i ∷ signs_before i (i - at)
    signs = ap₂ (λ q k. signs_before q k) (add-one i) (omega (arith, so.onward)) ∙ signs_next i (i - at)

-- Minus nodes, one after the other.
pub negated_starts : (r : Found) (i : ℕ) → i ≡ 0 → r.ok ≡ true → r ≡ finding r.variable r.odd r.at (r.nodes + i) r.fault
negated_starts r i none e =
    ap₂ (λ b n. record { ok = b; variable = r.variable; odd = r.odd; at = r.at; nodes = n; fault = r.fault }) e (omega arith)

pub negated_goes_on : (r so more : Found) (i j : ℕ) → j ≡ i + 1 → so ≡ finding r.variable r.odd r.at (r.nodes + i) r.fault
    → more ≡ finding so.variable so.odd so.at (so.nodes + 1) so.fault
    → more ≡ finding r.variable r.odd r.at (r.nodes + j) r.fault
negated_goes_on r so more i j next e q =
    q
    ∙ ap (λ f. finding f.variable f.odd f.at (f.nodes + 1) f.fault) e
    ∙ ap (λ n. finding r.variable r.odd r.at n r.fault) (omega arith)

-- The sign before a place, put behind those from that place on.
pub minus-put : (r so : Found) (first place : ℕ) (out now more : List ℕ) → place ≤ first → 0 < place
    → so ≡ finding r.variable r.odd r.at (r.nodes + (first - place)) r.fault
    → now ≡ wrote_minus (first - place) first r.at r.nodes out → more ≡ put now so.nodes 6 0 (span (place - 1) so.at)
    → more ≡ wrote_minus (first - (place - 1)) first r.at r.nodes out
unfolding wrote_minus
minus-put r so first place out now more h k e w q =
    q
    ∙ ap (λ (f : Found). put now f.nodes 6 0 (span (place - 1) f.at)) e
    ∙ ap₂ (λ l p. put l (r.nodes + (first - place)) 6 0 (span p r.at)) w before
    ∙ ap (λ n. wrote_minus n first r.at r.nodes out) (sym count)
  where
    before : place - 1 ≡ first - suc (first - place)
    before = omega arith

    count : first - (place - 1) ≡ suc (first - place)
    count = omega arith

pub odd_product : (a b : ℕ) → a < 2 → b < 2 → a * b < 2
odd_product zero b p q = omega arith
odd_product (suc zero) b p q = omega arith
odd_product (suc (suc a)) b p q = absurd (omega arith)
