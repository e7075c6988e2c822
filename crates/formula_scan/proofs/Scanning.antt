-- The scan of specs/Scan.antt, by itself: texts and marks in parts, what a byte's class says of the byte, runs of digits, minus signs.
use mathlib.Core.Path.{◌≡◌, refl, sym, ap, ap₂, ◌∙◌}
use mathlib.Core.Logic.{◌≢◌}
use mathlib.Core.Bool.{Bool, true, false, cond, ◌&&◌, and-eq-true_iff}
use mathlib.Core.List.{List, [], ◌∷◌, ◌++◌}
use Prim.Native.Nat.{ℕ, suc, ◌+◌, ◌-◌, ◌*◌, ◌≤◌, ◌<◌}
use native.Mathlib.Omega.{arith}
use lib.Dec.{eqb, leb, ltb}
use lib.ListN.{length}
use borrow.Author.Tests.{eqb-true, eqb-false, ne_eqb, leb-true, leb-false, le-leb, ltb-true, ltb-false}
use Rattle.formula.specs.Bytes.{open_bracket, close_bracket, star, plus_sign, minus_sign, caret, letter_x, Digit, digits_from}
use Rattle.formula.specs.Marks.{Mark, mark, marked}
use Rattle.formula.specs.Grammar.{Digits, no_digit, digit}
use Rattle.formula_scan.specs.Scan.{Byte, plus_byte, minus_byte, star_byte, caret_byte, open_byte, close_byte, x_byte, zero_byte, digit_byte, other_byte, byte_of, Piece, negative, State, stopped, negatives, step, stops, ending, fed, run}

-- ---- texts and marks in parts
pub run-fed : (S : State) (at : ℕ) (s r : List ℕ) → run S at (s ++ r) ≡ run (fed S (marked at s)) (at + length s) r
unfolding run fed marked
run-fed S at [] r = ap (λ n. run S n r) (omega arith)
run-fed S at (c ∷ s) r =
    run-fed (step S at (byte_of c)) (suc at) s r ∙ ap (λ n. run (fed (step S at (byte_of c)) (marked (suc at) s)) n r) (omega arith)

pub fed-append : (S : State) (m k : List Mark) → fed S (m ++ k) ≡ fed (fed S m) k
unfolding fed
fed-append S [] k = refl
fed-append S (mark p c ∷ m) k = fed-append (step S p (byte_of c)) m k

pub run-ending : (S : State) (at : ℕ) (s : List ℕ) → run S at s ≡ ending (fed S (marked at s)) (at + length s)
unfolding run fed marked
run-ending S at [] = ap (λ n. ending S n) (omega arith)
run-ending S at (c ∷ s) =
    run-ending (step S at (byte_of c)) (suc at) s ∙ ap (λ n. ending (fed (step S at (byte_of c)) (marked (suc at) s)) n) (omega arith)

pub run-stopped : (p at : ℕ) (s : List ℕ) → run (stopped p) at s ≡ stops p
unfolding run step ending
run-stopped p at [] = refl
run-stopped p at (c ∷ s) = run-stopped p (suc at) s

-- ---- what each class says of the byte
abbrev pub Is : Byte → ℕ → Type 0
Is open_byte c = c ≡ open_bracket
Is close_byte c = c ≡ close_bracket
Is star_byte c = c ≡ star
Is plus_byte c = c ≡ plus_sign
Is minus_byte c = c ≡ minus_sign
Is zero_byte c = c ≡ 48
Is (digit_byte d) c = (49 ≤ c) × (c ≤ 57) × (d ≡ c - 48)
Is caret_byte c = c ≡ caret
Is x_byte c = c ≡ letter_x
Is other_byte c =
    (c ≢ open_bracket) × (c ≢ close_bracket) × (c ≢ star) × (c ≢ plus_sign) × (c ≢ minus_sign) × (c ≢ 48) × (49 ≤ c → 57 < c)
    × (c ≢ caret) × (c ≢ letter_x)

choice : (t : Bool) (a b : Byte) (c : ℕ) → (t ≡ true → Is a c) → (t ≡ false → Is b c) → Is (cond t a b) c
choice true a b c f g = f refl
choice false a b c f g = g refl

pub byte_is : (c : ℕ) → Is (byte_of c) c
unfolding byte_of
byte_is c =
    choice (eqb c 40) _ _ c (eqb-true c 40) λ n₁.
    choice (eqb c 41) _ _ c (eqb-true c 41) λ n₂.
    choice (eqb c 42) _ _ c (eqb-true c 42) λ n₃.
    choice (eqb c 43) _ _ c (eqb-true c 43) λ n₄.
    choice (eqb c 45) _ _ c (eqb-true c 45) λ n₅.
    choice (eqb c 48) _ _ c (eqb-true c 48) λ n₆.
    choice (leb 49 c && leb c 57) _ _ c
    (λ e. let (low, high) = (and-eq-true_iff (leb 49 c) (leb c 57)).0 e in (leb-true 49 c low, leb-true c 57 high, refl)) λ n₇.
    choice (eqb c 94) _ _ c (eqb-true c 94) λ n₈.
    choice (eqb c 120) _ _ c (eqb-true c 120) λ n₉. (
      eqb-false c 40 n₁,
      eqb-false c 41 n₂,
      eqb-false c 42 n₃,
      eqb-false c 43 n₄,
      eqb-false c 45 n₅,
      eqb-false c 48 n₆,
      (λ low. leb-false c 57 (ap (λ t. t && leb c 57) (sym (le-leb 49 c low)) ∙ n₇)),
      eqb-false c 94 n₈,
      eqb-false c 120 n₉,
    )

pub byte_digit : (c : ℕ) → 49 ≤ c → c ≤ 57 → byte_of c ≡ digit_byte (c - 48)
unfolding byte_of
byte_digit c low high =
    rw (
      ne_eqb c 40 (omega arith),
      ne_eqb c 41 (omega arith),
      ne_eqb c 42 (omega arith),
      ne_eqb c 43 (omega arith),
      ne_eqb c 45 (omega arith),
      ne_eqb c 48 (omega arith),
      le-leb 49 c low,
      le-leb c 57 high,
    )

-- ---- digits: states that hold a number, and where it ended, take one digit after the other
module _ (holding : ℕ → ℕ → State) (takes-zero : (v e at : ℕ) → step (holding v e) at zero_byte ≡ holding (10 * v + 0) (suc at))
    (takes-digit : (v e at d : ℕ) → step (holding v e) at (digit_byte d) ≡ holding (10 * v + d) (suc at)) where
  pub takes : (v e at c : ℕ) → Digit c → step (holding v e) at (byte_of c) ≡ holding (10 * v + (c - 48)) (suc at)
  unfolding byte_of
  takes v e at c d = go (ltb 48 c) refl
    where
      at_zero : c ≡ 48 → step (holding v e) at (byte_of c) ≡ holding (10 * v + (c - 48)) (suc at)
      at_zero q = rw q (takes-zero v e at)

      go : (t : Bool) → ltb 48 c ≡ t → step (holding v e) at (byte_of c) ≡ holding (10 * v + (c - 48)) (suc at)
      go true q = ap (λ b. step (holding v e) at b) (byte_digit c (ltb-true 48 c q) d.1) ∙ takes-digit v e at (c - 48)
      go false q = at_zero (omega (arith, ltb-false 48 c q))

  pub fed-digits : {ds : List ℕ} → Digits ds → (v at : ℕ) → fed (holding v at) (marked at ds) ≡ holding (digits_from v ds) (at + length ds)
  unfolding fed marked digits_from
  fed-digits no_digit v at = ap (λ e. holding v e) (omega arith)
  fed-digits (digit {d = c} {ds = ds} d rest) v at =
      ap (λ S. fed S (marked (suc at) ds)) (takes v at at c d)
      ∙ fed-digits rest (10 * v + (c - 48)) (suc at)
      ∙ ap (λ e. holding (digits_from (10 * v + (c - 48)) ds) e) (omega arith)

  -- A number that does not begin with 0.
  pub fed-number : (S : State) (at : ℕ) → ((d : ℕ) → step S at (digit_byte d) ≡ holding d (suc at))
      → {c : ℕ} {ds : List ℕ} → 49 ≤ c → c ≤ 57 → Digits ds
      → fed S (marked at (c ∷ ds)) ≡ holding (digits_from 0 (c ∷ ds)) (at + length (c ∷ ds))
  unfolding fed marked digits_from
  fed-number S at begins {c} {ds} low high rest =
      ap (λ T. fed T (marked (suc at) ds)) (ap (λ b. step S at b) (byte_digit c low high) ∙ begins (c - 48))
      ∙ fed-digits rest (c - 48) (suc at)
      ∙ ap₂ (λ v e. holding (digits_from v ds) e) (omega arith) (omega arith)

-- ---- minus signs inside others
pub negatives-append : (m k : List ℕ) (x : Piece) → negatives (m ++ k) x ≡ negatives k (negatives m x)
unfolding negatives
negatives-append [] k x = refl
negatives-append (p ∷ m) k x = negatives-append m k (negative p x)
