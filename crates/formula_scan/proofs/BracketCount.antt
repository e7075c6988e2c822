-- Refusal 3: brackets counted byte by byte, and the first ( that opens more than 32.
use mathlib.Core.Path.{◌≡◌, refl, sym, ap, ◌∙◌}
use mathlib.Core.Bool.{Bool, true, false, cond}
use mathlib.Core.List.{List, [], ◌∷◌, ◌++◌}
use Prim.Native.Nat.{ℕ, suc, ◌+◌, ◌≤◌, ◌<◌}
use native.Mathlib.Numerals.{add-one}
use native.Mathlib.Omega.{arith}
use lib.Dec.{eqb, ltb}
use lib.ListN.{length, get_or, take}
use lib.Seq.{take-suc}
use borrow.Author.Tests.{ltb-true, ltb-false, eqb-true}
use Rattle.formula.specs.Refusals.{count, TooDeep}
use Rattle.formula_scan.specs.Readers.{DeepAt}

pub count-append : (b : ℕ) (s r : List ℕ) → count b (s ++ r) ≡ count b s + count b r
unfolding count
count-append b [] r = omega arith
count-append b (c ∷ s) r = go (eqb c b) (count-append b s r)
  where
    go : (t : Bool) → count b (s ++ r) ≡ count b s + count b r
        → cond t (suc (count b (s ++ r))) (count b (s ++ r)) ≡ cond t (suc (count b s)) (count b s) + count b r
    go true e = omega arith
    go false e = e

-- One more byte counted.
pub count_next : (b : ℕ) (l : List ℕ) (i : ℕ) {n : ℕ} → i < length l → n ≡ count b (take i l)
    → cond (eqb (get_or l i 0) b) (n + 1) n ≡ count b (take (i + 1) l)
unfolding count
count_next b l i {n} h e =
    ap (λ k. cond (eqb (get_or l i 0) b) (k + 1) k) e
    ∙ go (eqb (get_or l i 0) b)
    ∙ sym (count-append b (take i l) (get_or l i 0 ∷ []))
    ∙ ap (λ s. count b s) (sym (take-suc l i 0 h) ∙ ap (λ k. take k l) (sym (add-one i)))
  where
    go : (t : Bool) → cond t (count b (take i l) + 1) (count b (take i l)) ≡ count b (take i l) + cond t 1 0
    go true = refl
    go false = omega arith

-- The brackets up to place i, none of them too deep.
pub record DeepSoFar (l : List ℕ) (i opened closed : ℕ) : Type 0 where
  pub within : i ≤ length l
  pub opens : opened ≡ count 40 (take i l)
  pub closes : closed ≡ count 41 (take i l)
  pub few : opened ≤ i
  pub fewer : closed ≤ i
  pub level : opened ≤ 32 + closed
  pub clear : (q : ℕ) → q < i → TooDeep l q → ⊥

pub deep_starts : (l : List ℕ) → DeepSoFar l 0 0 0
unfolding count
deep_starts l = record {
  within = omega arith;
  opens = refl;
  closes = refl;
  few = omega arith;
  fewer = omega arith;
  level = omega arith;
  clear = λ q h deep. absurd (native.Mathlib.Nat.not-suc-le-zero h);
}

module _ (l : List ℕ) (i opened closed more less : ℕ) (so : DeepSoFar l i opened closed) (h : i < length l)
    (up : more ≡ cond (eqb (get_or l i 0) 40) (opened + 1) opened) (down : less ≡ cond (eqb (get_or l i 0) 41) (closed + 1) closed) where
  opens-now : more ≡ count 40 (take (i + 1) l)
  opens-now = up ∙ count_next 40 l i h so.opens

  closes-now : less ≡ count 41 (take (i + 1) l)
  closes-now = down ∙ count_next 41 l i h so.closes

  at_most : (t : Bool) (n : ℕ) → (n ≤ cond t (n + 1) n) × (cond t (n + 1) n ≤ n + 1)
  at_most true n = omega arith
  at_most false n = omega arith

  pub deep-found : 32 + less < more → DeepAt l i
  deep-found deep = record {
    within = so.within;
    clear = so.clear;
    deep = λ _. record { inside = h; opens = opens (eqb (get_or l i 0) 40) refl up; deep = rw (← opens-now, ← closes-now) deep };
  }
    where
      opens : (t : Bool) → eqb (get_or l i 0) 40 ≡ t → more ≡ cond t (opened + 1) opened → get_or l i 0 ≡ 40
      opens true e q = eqb-true (get_or l i 0) 40 e
      opens false e q = absurd (omega (arith, so.level, down, at_most (eqb (get_or l i 0) 41) closed))

  pub deep_goes_on : more ≤ 32 + less → DeepSoFar l (i + 1) more less
  deep_goes_on level = record {
    within = omega arith;
    opens = opens-now;
    closes = closes-now;
    few = omega (arith, so.few, up, at_most (eqb (get_or l i 0) 40) opened);
    fewer = omega (arith, so.fewer, down, at_most (eqb (get_or l i 0) 41) closed);
    level = level;
    clear = λ q p deep. go q p deep (ltb q i) refl;
  }
    where
      go : (q : ℕ) → q < i + 1 → TooDeep l q → (t : Bool) → ltb q i ≡ t → ⊥
      go q p deep true e = so.clear q (ltb-true q i e) deep
      go q p deep false e = here (omega (arith, ltb-false q i e))
        where
          here : q ≡ i → ⊥
          here same =
              let counts : 32 + count 41 (take (i + 1) l) < count 40 (take (i + 1) l) = rw (← same) deep.deep in
              omega (arith, opens-now, closes-now)

pub deep_nowhere : (l : List ℕ) (i opened closed : ℕ) → DeepSoFar l i opened closed → length l ≤ i → DeepAt l i
deep_nowhere l i opened closed so h = record { within = so.within; clear = so.clear; deep = λ p. absurd (omega arith) }
