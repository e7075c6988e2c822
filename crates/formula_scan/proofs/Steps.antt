-- The scan at a place of a text: one byte taken, the same next byte from two states, and a stop.
use mathlib.Core.Path.{◌≡◌, refl, sym, ap, ◌∙◌}
use mathlib.Core.Bool.{Bool, true, false}
use mathlib.Core.List.{List}
use Prim.Native.Nat.{ℕ, suc, ◌+◌, ◌-◌, ◌≤◌, ◌<◌}
use native.Mathlib.Numerals.{add-one}
use native.Mathlib.Omega.{arith}
use lib.Dec.{ltb}
use lib.ListN.{length, get_or, take, drop, length-drop, drop_of_length-le, get_or-eq_default}
use lib.Seq.{take-length, get_or-drop, drop-cons}
use borrow.Author.Tests.{ltb-true, ltb-false}
use Rattle.formula_scan.specs.Scan.{byte_of, State, stopped, step, stops, ending, run}
use Rattle.formula_scan.proofs.Scanning.{run-stopped}

-- A byte other than 0 stands inside the text.
pub inside : (l : List ℕ) (at : ℕ) → 0 < get_or l at 0 → at < length l
inside l at h = go (ltb at (length l)) refl
  where
    go : (t : Bool) → ltb at (length l) ≡ t → at < length l
    go true e = ltb-true at (length l) e
    go false e = absurd (omega (arith, get_or-eq_default l 0 (ltb-false at (length l) e)))

-- The bytes from a place on, as a part of the text, and the byte at one of their places.
abbrev pub rest : List ℕ → ℕ → List ℕ
rest l at = take (length l - at) (drop at l)

pub rest-drop : (l : List ℕ) (at : ℕ) → rest l at ≡ drop at l
rest-drop l at = ap (λ n. take n (drop at l)) (sym (length-drop at l)) ∙ take-length (drop at l)

pub rest_byte : (l : List ℕ) (at k p : ℕ) → p ≡ at + k → get_or (rest l at) k 0 ≡ get_or l p 0
rest_byte l at k p e = ap (λ r. get_or r k 0) (rest-drop l at) ∙ get_or-drop at l k 0 ∙ ap (λ i. get_or l i 0) (sym e)

run-next : (S : State) (l : List ℕ) (at : ℕ) → at < length l
    → run S at (drop at l) ≡ run (step S at (byte_of (get_or l at 0))) (suc at) (drop (suc at) l)
unfolding run
run-next S l at h = ap (λ s. run S at s) (drop-cons l at 0 h)

run_end : (S : State) (l : List ℕ) (at : ℕ) → length l ≤ at → run S at (drop at l) ≡ ending S at
unfolding run
run_end S l at h = ap (λ s. run S at s) (drop_of_length-le l h)

-- One byte c taken.
pub run_byte : (S : State) (l : List ℕ) (at c : ℕ) → get_or l at 0 ≡ c → 0 < c
    → run S at (drop at l) ≡ run (step S at (byte_of c)) (at + 1) (drop (at + 1) l)
run_byte S l at c e pos =
    run-next S l at (inside l at (omega arith))
    ∙ ap (λ b. run (step S at (byte_of b)) (suc at) (drop (suc at) l)) e
    ∙ ap (λ n. run (step S at (byte_of c)) n (drop n l)) (sym (add-one at))

-- Two states that take the next byte alike, and end alike.
pub run_same : (S there : State) (l : List ℕ) (at : ℕ) → step S at (byte_of (get_or l at 0)) ≡ step there at (byte_of (get_or l at 0))
    → ending S at ≡ ending there at → run S at (drop at l) ≡ run there at (drop at l)
run_same S there l at same alike = go (ltb at (length l)) refl
  where
    go : (t : Bool) → ltb at (length l) ≡ t → run S at (drop at l) ≡ run there at (drop at l)
    go true e =
        run-next S l at (ltb-true at (length l) e)
        ∙ ap (λ T. run T (suc at) (drop (suc at) l)) same
        ∙ sym (run-next there l at (ltb-true at (length l) e))
    go false e = run_end S l at (ltb-false at (length l) e) ∙ alike ∙ sym (run_end there l at (ltb-false at (length l) e))

-- A stop at the next byte, or at the end.
pub run_stop : (S : State) (l : List ℕ) (at : ℕ) → step S at (byte_of (get_or l at 0)) ≡ stopped at → ending S at ≡ stops at
    → run S at (drop at l) ≡ stops at
run_stop S l at stop end = go (ltb at (length l)) refl
  where
    go : (t : Bool) → ltb at (length l) ≡ t → run S at (drop at l) ≡ stops at
    go true e =
        run-next S l at (ltb-true at (length l) e)
        ∙ ap (λ T. run T (suc at) (drop (suc at) l)) stop
        ∙ run-stopped at (suc at) (drop (suc at) l)
    go false e = run_end S l at (ltb-false at (length l) e) ∙ end

-- A stop at a byte inside the text.
pub run_halts : (S : State) (l : List ℕ) (at : ℕ) → at < length l → step S at (byte_of (get_or l at 0)) ≡ stopped at → run S at (drop at l) ≡ stops at
run_halts S l at h stop =
    run-next S l at h ∙ ap (λ T. run T (suc at) (drop (suc at) l)) stop ∙ run-stopped at (suc at) (drop (suc at) l)
