-- What fits the packed word: a stop, since the scan stops inside the text, and what is found of a text that packs.
use mathlib.Core.Path.{◌≡◌, refl, sym, ap, subst, ◌∙◌}
use mathlib.Core.Bool.{Bool, true, false}
use mathlib.Core.List.{List, [], ◌∷◌}
use Prim.Native.Nat.{ℕ, suc, ◌+◌, ◌≤◌, ◌<◌, min}
use native.Mathlib.Omega.{arith}
use lib.Dec.{ltb}
use lib.ListN.{length, drop, length-drop}
use borrow.Author.Tests.{ltb-true, ltb-false}
use Rattle.std.specs.Prelude.{Result, Ok, Err}
use Rattle.formula_scan.specs.declared.Parsed.{Parsed}
use Rattle.formula_scan.specs.Fields.{Found, as_found}
use Rattle.formula.specs.Answer.{ReadAnswer}
use Rattle.formula.specs.Refusals.{too_long}
use Rattle.formula.specs.Tree.{Tree, number, variable, sum, difference, product, minus, literal_power, raise, holds_x}
use Rattle.formula_scan.specs.Scan.{Byte, plus_byte, minus_byte, star_byte, caret_byte, open_byte, close_byte, x_byte, zero_byte, digit_byte, other_byte, byte_of, Piece, number_to, literal_to, no_sum, Level, level, Outer, bottom, in_brackets, in_exponent, State, operand, in_number, atomed, after_caret, in_literal, powered, stopped, closed, after_power, after_atom, after_digit, after_literal_digit, before_operand, before_exponent, step, reads, stops, ended, ending, run}
use Rattle.formula_scan.specs.Readers.{fault_places, parity, base_fault, faulted, stopping, fails, SumRead, ProductRead, Judged, refuses, accepts}
use Rattle.formula_scan.specs.Packing.{Tells, Packable, Packs}
use Rattle.formula_scan.proofs.Judging.{fault_number}
use Rattle.formula_scan.proofs.Ways.{Got, lost, got_odd, got_few, ProductSoFar, SumSoFar}

-- ---- the scan stops inside the text
-- Where the scan has stopped, it did so at the place `at` at the latest.
unfoldable Past : ℕ → State → Type 0
Past at (operand lv) = Unit {0}
Past at (in_number lv p v e) = Unit {0}
Past at (atomed lv x) = Unit {0}
Past at (after_caret lv x p) = Unit {0}
Past at (in_literal lv x p n e) = Unit {0}
Past at (powered lv x) = Unit {0}
Past at (stopped p) = p ≤ at

-- Two stops are one place, and a stop is no tree.
same : {p q : ℕ} → stops p ≡ stops q → q ≤ p
same {p} {q} e = let alike : p ≡ q = cc in omega arith

apart : {t : Tree} {p : ℕ} → reads t ≡ stops p → ⊥
apart e = let z : ◌≡◌ {A = ℕ} 0 1 = cc in omega arith

module _ (at : ℕ) where
  past_close : (o : Outer) (x : Piece) → Past (suc at) (closed o x at)
  unfolding Past closed
  past_close bottom x = omega arith
  past_close (in_brackets lv p) x = tt
  past_close (in_exponent lv a p) x = tt

  past-power : (lv : Level) (x : Piece) (b : Byte) → Past (suc at) (after_power lv x at b)
  unfolding Past after_power
  past-power (level σ π m o) x plus_byte = tt
  past-power (level σ π m o) x minus_byte = tt
  past-power (level σ π m o) x star_byte = tt
  past-power (level σ π m o) x close_byte = past_close o _
  past-power (level σ π m o) x caret_byte = omega arith
  past-power (level σ π m o) x open_byte = omega arith
  past-power (level σ π m o) x x_byte = omega arith
  past-power (level σ π m o) x zero_byte = omega arith
  past-power (level σ π m o) x (digit_byte d) = omega arith
  past-power (level σ π m o) x other_byte = omega arith

  past_atom : (lv : Level) (x : Piece) (b : Byte) → Past (suc at) (after_atom lv x at b)
  unfolding Past after_atom
  past_atom lv x caret_byte = tt
  past_atom lv x plus_byte = past-power lv x plus_byte
  past_atom lv x minus_byte = past-power lv x minus_byte
  past_atom lv x star_byte = past-power lv x star_byte
  past_atom lv x close_byte = past-power lv x close_byte
  past_atom lv x open_byte = omega arith
  past_atom lv x x_byte = omega arith
  past_atom lv x zero_byte = omega arith
  past_atom lv x (digit_byte d) = omega arith
  past_atom lv x other_byte = omega arith

  past-digit : (lv : Level) (p v e : ℕ) (b : Byte) → Past (suc at) (after_digit lv p v e at b)
  unfolding Past after_digit
  past-digit lv p v e zero_byte = tt
  past-digit lv p v e (digit_byte d) = tt
  past-digit lv p v e plus_byte = past_atom lv (number_to p v e) plus_byte
  past-digit lv p v e minus_byte = past_atom lv (number_to p v e) minus_byte
  past-digit lv p v e star_byte = past_atom lv (number_to p v e) star_byte
  past-digit lv p v e caret_byte = past_atom lv (number_to p v e) caret_byte
  past-digit lv p v e open_byte = past_atom lv (number_to p v e) open_byte
  past-digit lv p v e close_byte = past_atom lv (number_to p v e) close_byte
  past-digit lv p v e x_byte = past_atom lv (number_to p v e) x_byte
  past-digit lv p v e other_byte = past_atom lv (number_to p v e) other_byte

  past_literal : (lv : Level) (x : Piece) (p n e : ℕ) (b : Byte) → Past (suc at) (after_literal_digit lv x p n e at b)
  unfolding Past after_literal_digit
  past_literal lv x p n e zero_byte = tt
  past_literal lv x p n e (digit_byte d) = tt
  past_literal lv x p n e plus_byte = past-power lv (literal_to x p n e) plus_byte
  past_literal lv x p n e minus_byte = past-power lv (literal_to x p n e) minus_byte
  past_literal lv x p n e star_byte = past-power lv (literal_to x p n e) star_byte
  past_literal lv x p n e caret_byte = past-power lv (literal_to x p n e) caret_byte
  past_literal lv x p n e open_byte = past-power lv (literal_to x p n e) open_byte
  past_literal lv x p n e close_byte = past-power lv (literal_to x p n e) close_byte
  past_literal lv x p n e x_byte = past-power lv (literal_to x p n e) x_byte
  past_literal lv x p n e other_byte = past-power lv (literal_to x p n e) other_byte

  past-operand : (lv : Level) (b : Byte) → Past (suc at) (before_operand lv at b)
  unfolding Past before_operand
  past-operand lv minus_byte = tt
  past-operand lv open_byte = tt
  past-operand lv x_byte = tt
  past-operand lv zero_byte = tt
  past-operand lv (digit_byte d) = tt
  past-operand lv plus_byte = omega arith
  past-operand lv star_byte = omega arith
  past-operand lv caret_byte = omega arith
  past-operand lv close_byte = omega arith
  past-operand lv other_byte = omega arith

  past-exponent : (lv : Level) (x : Piece) (p : ℕ) (b : Byte) → Past (suc at) (before_exponent lv x p at b)
  unfolding Past before_exponent
  past-exponent lv x p zero_byte = tt
  past-exponent lv x p (digit_byte d) = tt
  past-exponent lv x p open_byte = tt
  past-exponent lv x p plus_byte = omega arith
  past-exponent lv x p minus_byte = omega arith
  past-exponent lv x p star_byte = omega arith
  past-exponent lv x p caret_byte = omega arith
  past-exponent lv x p close_byte = omega arith
  past-exponent lv x p x_byte = omega arith
  past-exponent lv x p other_byte = omega arith

  past-step : (S : State) (b : Byte) → Past at S → Past (suc at) (step S at b)
  unfolding Past step
  past-step (operand lv) b h = past-operand lv b
  past-step (in_number lv p v e) b h = past-digit lv p v e b
  past-step (atomed lv x) b h = past_atom lv x b
  past-step (after_caret lv x p) b h = past-exponent lv x p b
  past-step (in_literal lv x p n e) b h = past_literal lv x p n e b
  past-step (powered lv x) b h = past-power lv x b
  past-step (stopped p) b h = omega arith

  past-ended : (lv : Level) (x : Piece) {p : ℕ} → ended lv x at ≡ stops p → p ≤ at
  unfolding ended
  past-ended (level σ π m bottom) x e = absurd (apart e)
  past-ended (level σ π m (in_brackets lv q)) x e = same e
  past-ended (level σ π m (in_exponent lv a q)) x e = same e

  past_end : (S : State) {p : ℕ} → Past at S → ending S at ≡ stops p → p ≤ at
  unfolding Past ending
  past_end (operand lv) h e = same e
  past_end (in_number lv q v k) h e = past-ended lv (number_to q v k) e
  past_end (atomed lv x) h e = past-ended lv x e
  past_end (after_caret lv x q) h e = same e
  past_end (in_literal lv x q n k) h e = past-ended lv (literal_to x q n k) e
  past_end (powered lv x) h e = past-ended lv x e
  past_end (stopped q) h e = omega (arith, same e)

-- The scan of the bytes from a place on stops at their end at the latest.
run_past : (S : State) (at : ℕ) (s : List ℕ) {p : ℕ} → Past at S → run S at s ≡ stops p → p ≤ at + length s
unfolding run
run_past S at [] h e = omega (arith, past_end at S h e)
run_past S at (c ∷ s) h e = omega (arith, run_past (step S at (byte_of c)) (suc at) s (past-step at S (byte_of c) h) e)

-- ---- what is found packs

-- No fault is added by a tree that is above the least one before it.
faulted_least : (w : ℕ) (t : Tree) (f : ℕ) → faulted w t f ≤ f
unfolding faulted
faulted_least w (number s p v) f = omega arith
faulted_least w (variable s) f = omega arith
faulted_least w (sum s a b) f = omega (arith, faulted_least w a f, faulted_least w b (faulted w a f))
faulted_least w (difference s a b) f = omega (arith, faulted_least w a f, faulted_least w b (faulted w a f))
faulted_least w (product s a b) f = omega (arith, faulted_least w a f, faulted_least w b (faulted w a f))
faulted_least w (minus s a) f = faulted_least w a f
faulted_least w (literal_power s a p n) f = omega (arith, faulted_least w a f)
faulted_least w (raise s a p b) f =
    let least = min (faulted w a f) (base_fault (holds_x a) (parity a) p) in
    omega (arith, faulted_least w a f, faulted_least w b least)

module _ {w : ℕ} {l : List ℕ} {at n f : ℕ} {out now : List ℕ} where
  pub product_fault : {left : Found} {sign : ℕ} → ProductSoFar w l at n f out left sign now → left.fault ≤ f
  product_fault (ProductSoFar.none_yet j e v) = omega (arith, ap (λ (x : Found). x.fault) e)
  product_fault (ProductSoFar.times-next t p j e v a b c d) = omega (arith, ap (λ (x : Found). x.fault) e, faulted_least w t f)

  pub sum_fault : {left : Found} {sign : ℕ} → SumSoFar w l at n f out left sign now → left.fault ≤ f
  sum_fault (SumSoFar.none_yet j e v) = omega (arith, ap (λ (x : Found). x.fault) e)
  sum_fault (SumSoFar.sign_next t p j e v a b c d) = omega (arith, ap (λ (x : Found). x.fault) e, faulted_least w t f)

-- A stop packs, since its place is inside the text.
module _ {w : ℕ} {l : List ℕ} {at n f : ℕ} {out : List ℕ} {r : Found} {now : List ℕ} where
  pub stop_packs : ProductRead w l at n f out r now → r.ok ≡ false → at ≤ length l → length l < fault_places → Packable (stopping r.at)
  unfolding Past
  stop_packs read none inside short = record {
    odd_packs = omega arith;
    place_packs = omega (arith, length-drop at l, run_past _ at (drop at l) tt (lost read none (no_sum, bottom)));
    nodes_pack = omega arith;
    fault_packs = omega arith;
  }

  -- An answer that is the same as another says the same.
  pub same_read : {s : Found} → r ≡ s → SumRead w l at n f out s now → SumRead w l at n f out r now
  same_read e read = subst (λ s. SumRead w l at n f out s now) (sym e) read

-- And so does what tells of it.
pub told_read : {w : ℕ} {l : List ℕ} {at n f : ℕ} {out : List ℕ} {r : Found} {now : List ℕ} (x : Result Parsed ℕ) → Tells r x → SumRead w l at n f out r now
    → SumRead w l at n f out (as_found x) now
told_read {w} {l} {at} {n} {f} {out} {now = now} (Ok p) is read = subst (λ s. SumRead w l at n f out s now) is read
told_read (Err at) (none, place) read = fails refl (λ c. lost read none c ∙ ap (λ p. stops p) place)

-- What is got of a text that packs does so too.
module _ {w : ℕ} {C : Type 0} {from : C → State} {to : C → Piece → State} {Next : ℕ → Type 0} {l : List ℕ} {at n f : ℕ} {out : List ℕ} {r : Found} {now : List ℕ}
    (g : Got w C from to Next l at n f out r now) where
  pub got_fault : r.fault ≤ f
  got_fault = omega (arith, ap (λ (x : Found). x.fault) g.is, faulted_least w g.t f)

  pub got_packs : n ≤ at → Packs l f → Packable r
  got_packs few packs = record {
    odd_packs = got_odd g;
    place_packs = omega (arith, g.inside, packs.0);
    nodes_pack = omega (arith, got_few g few, g.inside, packs.0);
    fault_packs = omega (arith, got_fault, packs.1);
  }

-- A text for which no refusal is found packs.
pub judged_packs : {w : ℕ} (l : List ℕ) (answer : ReadAnswer) → Judged w l answer → answer.number ≡ 0 → length l < fault_places
judged_packs l _ (refuses r) none = absurd (omega (arith, fault_number r.applies))
judged_packs {w} l _ (accepts a) none = go (ltb 1024 (length l)) refl
  where
    go : (b : Bool) → ltb 1024 (length l) ≡ b → length l < fault_places
    go true e = absurd (a.faultless 2 1024 (too_long (ltb-true 1024 (length l) e)))
    go false e = omega (arith, ltb-false 1024 (length l) e)
