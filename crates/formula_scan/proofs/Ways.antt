-- Each way through the readers of the cycle: from what the called readers answer to what the reader's own contract says.
use mathlib.Core.Path.{◌≡◌, refl, sym, ap, ap₂, ◌∙◌}
use mathlib.Core.Bool.{Bool, true, false, cond, ◌||◌, true≢false}
use mathlib.Core.List.{List, [], ◌∷◌, ◌++◌}
use Prim.Native.Nat.{ℕ, zero, suc, ◌+◌, ◌-◌, ◌*◌, ◌%◌, ◌^◌, ◌≤◌, ◌<◌, min}
use native.Mathlib.Nat.{sub-zero}
use native.Mathlib.Numerals.{add-one}
use native.Mathlib.Omega.{arith}
use lib.Dec.{eqb, leb, ltb}
use lib.ListN.{length, get_or, drop}
use lib.Pow.{pow_pos}
use borrow.Author.Tests.{le-leb, lt-leb, ltb-true, ltb-false, ne_eqb, eq-eqb, eqb-true, eqb-false}
use Rattle.formula_scan.specs.Fields.{Found, Left, Numeral}
use Rattle.formula.specs.Bytes.{Digit}
use Rattle.formula.specs.Tree.{Span, span, Tree, number, variable, sum, difference, product, minus, literal_power, raise, nodes, holds_x}
use Rattle.formula_scan.specs.Scan.{Byte, plus_byte, minus_byte, star_byte, caret_byte, open_byte, close_byte, x_byte, zero_byte, digit_byte, other_byte, byte_of, Piece, piece, noded, negative, raise_to, joined, PendingSum, no_sum, adding, subtracting, PendingProduct, no_product, multiplying, Level, level, Outer, bottom, in_brackets, in_exponent, fresh, State, operand, atomed, after_caret, powered, stopped, negatives, product_with, sum_with, closed, after_power, after_atom, before_operand, before_exponent, step, stops, ended, ending, run}
use Rattle.formula_scan.specs.Readers.{kept, parity, fault_code, no_fault, literal_fault, base_fault, faulted, put, wrote, wrote_minus, waiting, stopping, finding, literal_found, product_found, sum_found, found, Read, fails, gets, Anything, NoStar, NoSign, InSum, in_sum, Enclosing, brackets, exponent, opened, enclosed, SumRead, ProductRead, PowerRead, AtomRead, BracketRead, NumberRead, signs_before, MinusSigns}
use Rattle.formula_scan.proofs.Scanning.{Is, byte_is, negatives-append}
use Rattle.formula_scan.proofs.Numerals.{kept_fits}
use Rattle.formula_scan.proofs.Steps.{inside, run_byte, run_same, run_stop}
use Rattle.formula_scan.proofs.Readings.{odd_product}

-- ---- an answer taken apart
-- What a reader that got something says, with its place as in the answer.
pub record Got (width : ℕ) (C : Type 0) (from : C → State) (to : C → Piece → State) (Next : ℕ → Type 0)
    (l : List ℕ) (at n f : ℕ) (out : List ℕ) (r : Found) (now : List ℕ) : Type 0 where
  pub t : Tree
  pub is : r ≡ found width t r.at n f
  pub writes : now ≡ wrote width t n out
  pub onward : at < r.at
  pub inside : r.at ≤ length l
  pub room : at + nodes t ≤ r.at
  pub counted : r.nodes ≡ n + nodes t
  pub next : Next (get_or l r.at 0)
  pub runs : (c : C) → run (from c) at (drop at l) ≡ run (to c (piece (span at r.at) t)) r.at (drop r.at l)

module _ {width : ℕ} {C : Type 0} {from : C → State} {to : C → Piece → State} {Next : ℕ → Type 0} {l : List ℕ} {at n f : ℕ} {out : List ℕ} {r : Found} {now : List ℕ} where
  pub got : Read width C from to Next l at n f out r now → r.ok ≡ true → Got width C from to Next l at n f out r now
  got (fails e h) ok = absurd (true≢false (sym ok ∙ e))
  got (gets t p e w a b c d h) ok =
      let place : r.at ≡ p = ap (λ (x : Found). x.at) e in record {
        t = t;
        is = e ∙ ap (λ q. found width t q n f) (sym place);
        writes = w;
        onward = omega arith;
        inside = omega arith;
        room = omega arith;
        counted = ap (λ (x : Found). x.nodes) e;
        next = rw place d;
        runs = λ c. h c ∙ ap (λ q. run (to c (piece (span at q) t)) q (drop q l)) (sym place);
      }

  pub lost : Read width C from to Next l at n f out r now → r.ok ≡ false → (c : C) → run (from c) at (drop at l) ≡ stops r.at
  lost (fails e h) ok = h
  lost (gets t p e w a b c d h) ok = absurd (true≢false (sym (ap (λ (x : Found). x.ok) e) ∙ ok))

  pub regained : Got width C from to Next l at n f out r now → Read width C from to Next l at n f out r now
  regained g = gets g.t r.at g.is g.writes g.onward g.inside g.room g.next g.runs

-- ---- what is noted of a tree
pub parity_small : (t : Tree) → parity t < 2
unfolding parity
parity_small (number s p v) = omega arith
parity_small (variable s) = omega arith
parity_small (sum s a b) = omega arith
parity_small (difference s a b) = omega arith
parity_small (product s a b) = odd_product (parity a) (parity b) (parity_small a) (parity_small b)
parity_small (minus s a) = parity_small a
parity_small (literal_power s a p n) = go (eqb n 0) (parity_small a)
  where
    go : (t : Bool) → parity a < 2 → cond t 1 (parity a) < 2
    go true h = omega arith
    go false h = h
parity_small (raise s a p b) = omega arith

pub same_finding : {x y : Bool} {o u m k f g : ℕ} (p : ℕ) → x ≡ y → o ≡ u → m ≡ k → f ≡ g → finding x o p m f ≡ finding y u p k g
same_finding {x} {y} {o} {u} {m} {k} {f} {g} p a b c d =
    ap₂ (λ z w. finding z w p m f) a b ∙ ap₂ (λ z w. finding y u p z w) c d

-- The test of a number for being over, the other way round.
over-cond {ℓ} : {A : Type ℓ} (n v : ℕ) (a b : A) → cond (leb n v) a b ≡ cond (ltb v n) b a
over-cond n v a b = go (ltb v n) refl
  where
    go : (t : Bool) → ltb v n ≡ t → cond (leb n v) a b ≡ cond t b a
    go true e = ap (λ t. cond t a b) (lt-leb n v (ltb-true v n e))
    go false e = ap (λ t. cond t a b) (le-leb n v (ltb-false v n e))

-- A number that is kept decides as itself; one that is over is not 0.
kept-cond {ℓ} : {A : Type ℓ} (width n : ℕ) (test : ℕ → Bool) (a b c : A)
    → cond (leb (2 ^ width) n) c (cond (test (kept width n)) a b) ≡ cond (ltb n (2 ^ width)) (cond (test n) a b) c
kept-cond width n test a b c = over-cond (2 ^ width) n c (cond (test (kept width n)) a b) ∙ go (ltb n (2 ^ width)) refl
  where
    go : (t : Bool) → ltb n (2 ^ width) ≡ t → cond t (cond (test (kept width n)) a b) c ≡ cond t (cond (test n) a b) c
    go true e = ap (λ k. cond (test k) a b) (kept_fits width n (ltb-true n (2 ^ width) e))
    go false e = refl

literal_odd : (width n o : ℕ) → cond (leb (2 ^ width) n) o (cond (eqb (kept width n) 0) 1 o) ≡ cond (eqb n 0) 1 o
literal_odd width n o = kept-cond width n (λ k. eqb k 0) 1 o o ∙ go (ltb n (2 ^ width)) refl
  where
    go : (t : Bool) → ltb n (2 ^ width) ≡ t → cond t (cond (eqb n 0) 1 o) o ≡ cond (eqb n 0) 1 o
    go true e = refl
    go false e = sym (ap (λ t. cond t 1 o) (ne_eqb n 0 (λ z. nonzero (ltb-false n (2 ^ width) e) z)))
      where
        nonzero : 2 ^ width ≤ n → n ≡ 0 → ⊥
        nonzero h z = omega (arith, pow_pos width)

-- ---- atoms
module _ {width : ℕ} (l : List ℕ) (at n f : ℕ) (out : List ℕ) (r : Found) (now : List ℕ) where
  pub atom_x : get_or l at 0 ≡ 120 → r ≡ finding true 0 (at + 1) (n + 1) f → now ≡ put out n 1 0 (span at (at + 1)) → AtomRead width l at n f out r now
  unfolding step before_operand byte_of holds_x parity nodes faulted wrote
  atom_x e q w =
      gets (variable (span at (at + 1))) (at + 1) q w (omega arith) (omega (arith, inside l at (omega arith))) (omega arith) tt
      (λ lv. run_byte (operand lv) l at 120 e (omega arith)
      ∙ ap (λ k. run (atomed lv (noded (span at k) variable)) (at + 1) (drop (at + 1) l)) (sym (add-one at)))

  pub atom_number : (num : Numeral) → NumberRead width l at num
      → r ≡ finding false num.odd num.at (n + 1) (min f (cond num.over (fault_code 5 at) no_fault)) → now ≡ put out n 0 num.value (span at num.at)
      → AtomRead width l at n f out r now
  unfolding holds_x parity nodes faulted wrote
  atom_number num read q w =
      gets (number (span at num.at) at read.v) num.at
      (q
      ∙ ap₂ (λ o g. finding false o num.at (n + 1) (min f g)) read.value_odd
      (ap (λ t. cond t (fault_code 5 at) no_fault) read.value-over ∙ over-cond (2 ^ width) read.v (fault_code 5 at) no_fault))
      (w ∙ ap (λ k. put out n 0 k (span at num.at)) read.value-kept) read.onward read.inside (omega (arith, read.onward)) tt read.as_atom

  pub atom_bracket : get_or l at 0 ≡ 40 → BracketRead width l at n f out r now → AtomRead width l at n f out r now
  unfolding step before_operand byte_of
  atom_bracket e (fails ok h) = fails ok (λ lv. run_byte (operand lv) l at 40 e (omega arith) ∙ h (brackets lv at))
  atom_bracket e (gets t p q w a b c d h) =
      gets t p q w (omega arith) b (omega arith) tt (λ lv. run_byte (operand lv) l at 40 e (omega arith) ∙ h (brackets lv at))

  pub no_atom : (get_or l at 0 ≡ 45 → ⊥) → (get_or l at 0 ≡ 40 → ⊥) → (get_or l at 0 ≡ 120 → ⊥) → (Digit (get_or l at 0) → ⊥)
      → r ≡ stopping at → AtomRead width l at n f out r now
  unfolding step before_operand ending
  no_atom not-minus not-open not-letter not_digit q =
      fails (ap (λ (x : Found). x.ok) q)
      (λ lv. run_stop (operand lv) l at (go lv (byte_of (get_or l at 0)) (byte_is (get_or l at 0))) refl ∙ ap (λ p. stops p) (sym (ap (λ (x : Found). x.at) q)))
    where
      go : (lv : Level) (b : Byte) → Is b (get_or l at 0) → before_operand lv at b ≡ stopped at
      go lv plus_byte i = refl
      go lv minus_byte i = absurd (not-minus i)
      go lv star_byte i = refl
      go lv caret_byte i = refl
      go lv open_byte i = absurd (not-open i)
      go lv close_byte i = refl
      go lv x_byte i = absurd (not-letter i)
      go lv zero_byte i = absurd (not_digit (omega arith))
      go lv (digit_byte d) i = absurd (not_digit (omega arith))
      go lv other_byte i = refl

-- ---- powers
-- After an atom with no ^ next, the power is done.
atom_done : (l : List ℕ) (at : ℕ) (lv : Level) (x : Piece) → (get_or l at 0 ≡ 94 → ⊥)
    → run (atomed lv x) at (drop at l) ≡ run (powered lv x) at (drop at l)
unfolding step ending after_atom after_power
atom_done l at (level σ π m o) x none =
    run_same (atomed (level σ π m o) x) (powered (level σ π m o) x) l at (go (byte_of (get_or l at 0)) (byte_is (get_or l at 0))) refl
  where
    go : (b : Byte) → Is b (get_or l at 0) → after_atom (level σ π m o) x at b ≡ after_power (level σ π m o) x at b
    go plus_byte i = refl
    go minus_byte i = refl
    go star_byte i = refl
    go caret_byte i = absurd (none i)
    go open_byte i = refl
    go close_byte i = refl
    go x_byte i = refl
    go zero_byte i = refl
    go (digit_byte d) i = refl
    go other_byte i = refl

-- What was got as an atom, the base of a power perhaps.
abbrev pub Base : ℕ → List ℕ → ℕ → ℕ → ℕ → List ℕ → Found → List ℕ → Type 0
Base width = Got width Level operand atomed Anything

module _ {width : ℕ} (l : List ℕ) (at n f : ℕ) (out : List ℕ) where
  pub power-plain : (r : Found) (now : List ℕ) → Base width l at n f out r now → (get_or l r.at 0 ≡ 94 → ⊥) → PowerRead width l at n f out r now
  power-plain r now base none =
      gets base.t r.at base.is base.writes base.onward base.inside base.room tt
      (λ lv. base.runs lv ∙ atom_done l r.at lv (piece (span at r.at) base.t) none)

  module _ (b : Found) (then : List ℕ) (base : Base width l at n f out b then) (hat : get_or l b.at 0 ≡ 94) where
    abbrev basis : Piece
    basis = piece (span at b.at) base.t

    past-caret : (lv : Level) → run (operand lv) at (drop at l) ≡ run (after_caret lv basis b.at) (b.at + 1) (drop (b.at + 1) l)
    unfolding step after_atom byte_of
    past-caret lv = base.runs lv ∙ run_byte (atomed lv basis) l b.at 94 hat (omega arith)

    pub power_literal : (num : Numeral) → NumberRead width l (b.at + 1) num → (r : Found) (now : List ℕ) → r ≡ literal_found b num
        → now ≡ put then b.nodes 7 num.value (span at num.at) → PowerRead width l at n f out r now
    unfolding holds_x parity nodes faulted wrote
    power_literal num read r now q w =
        gets (literal_power (span at num.at) base.t b.at read.v) num.at
        (q
        ∙ ap₂ (λ (x : Found) (y : Numeral). literal_found x (record { at = num.at; value = y.value; over = y.over; odd = y.odd })) base.is numeral
        ∙ ap₂ (λ o g. finding (holds_x base.t) o num.at (n + nodes base.t + 1) (min (faulted width base.t f) g))
        (literal_odd width read.v (parity base.t))
        (kept-cond width read.v (λ k. leb k 64) no_fault (fault_code 6 (b.at + 1)) (fault_code 5 (b.at + 1)))
        ∙ ap (λ k. finding (holds_x base.t) (cond (eqb read.v 0) 1 (parity base.t)) num.at k (min (faulted width base.t f) (literal_fault width b.at read.v))) (omega arith))
        (w ∙ ap₂ (λ x k. put x b.nodes 7 k (span at num.at)) base.writes read.value-kept ∙ ap (λ k. put (wrote width base.t n out) k 7 (kept width read.v) (span at num.at)) base.counted)
        (omega (arith, base.onward, read.onward)) read.inside (omega (arith, base.room, read.onward)) tt
        (λ lv. past-caret lv ∙ read.as_exponent lv basis b.at)
      where
        numeral : num ≡ record { at = num.at; value = kept width read.v; over = leb (2 ^ width) read.v; odd = num.odd }
        numeral = ap₂ (λ x y. record { at = num.at; value = x; over = y; odd = num.odd }) read.value-kept read.value-over

    pub no_exponent : (get_or l (b.at + 1) 0 ≡ 40 → ⊥) → (Digit (get_or l (b.at + 1) 0) → ⊥) → (r : Found) (now : List ℕ)
        → r ≡ stopping (b.at + 1) → PowerRead width l at n f out r now
    unfolding step before_exponent ending
    no_exponent not-open not_digit r now q =
        fails (ap (λ (x : Found). x.ok) q)
        (λ lv. past-caret lv
        ∙ run_stop (after_caret lv basis b.at) l (b.at + 1) (go lv (byte_of (get_or l (b.at + 1) 0)) (byte_is (get_or l (b.at + 1) 0))) refl
        ∙ ap (λ p. stops p) (sym (ap (λ (x : Found). x.at) q)))
      where
        go : (lv : Level) (c : Byte) → Is c (get_or l (b.at + 1) 0) → before_exponent lv basis b.at (b.at + 1) c ≡ stopped (b.at + 1)
        go lv plus_byte i = refl
        go lv minus_byte i = refl
        go lv star_byte i = refl
        go lv caret_byte i = refl
        go lv open_byte i = absurd (not-open i)
        go lv close_byte i = refl
        go lv x_byte i = refl
        go lv zero_byte i = absurd (not_digit (omega arith))
        go lv (digit_byte d) i = absurd (not_digit (omega arith))
        go lv other_byte i = refl

    module _ (opens : get_or l (b.at + 1) 0 ≡ 40) (g : ℕ) (least : g ≡ min b.fault (base_fault b.variable b.odd b.at)) (e : Found) (soon : List ℕ)
        (read : BracketRead width l (b.at + 1) b.nodes g then e soon) where
      past_open : (lv : Level) → run (operand lv) at (drop at l)
          ≡ run (operand (fresh (in_exponent lv basis b.at))) (b.at + 1 + 1) (drop (b.at + 1 + 1) l)
      unfolding step before_exponent byte_of
      past_open lv = past-caret lv ∙ run_byte (after_caret lv basis b.at) l (b.at + 1) 40 opens (omega arith)

      pub raise_lost : e.ok ≡ false → PowerRead width l at n f out e soon
      raise_lost no-tree = fails no-tree (λ lv. past_open lv ∙ lost read no-tree (exponent lv basis b.at))

      pub power-raise : e.ok ≡ true → (r : Found) (now : List ℕ) → r ≡ finding (b.variable || e.variable) 1 e.at (e.nodes + 1) e.fault
          → now ≡ put soon e.nodes 8 0 (span at e.at) → PowerRead width l at n f out r now
      unfolding holds_x parity nodes faulted wrote
      power-raise some r now q w = go (got read some)
        where
          go : Got width Enclosing opened enclosed Anything l (b.at + 1 + 1) b.nodes g then e soon → PowerRead width l at n f out r now
          go x =
              let counted : e.nodes ≡ n + nodes base.t + nodes x.t = x.counted ∙ ap (λ k. k + nodes x.t) base.counted in
              gets (raise (span at e.at) base.t b.at x.t) e.at
              (q
              ∙ same_finding e.at
              (ap₂ ◌||◌ (ap (λ (y : Found). y.variable) base.is) (ap (λ (y : Found). y.variable) x.is))
              refl
              (omega arith)
              (ap (λ (y : Found). y.fault) x.is
              ∙ ap (λ h. faulted width x.t h)
              (least ∙ ap (λ (y : Found). min y.fault (base_fault y.variable y.odd b.at)) base.is)))
              (w ∙ ap₂ (λ z k. put z k 8 0 (span at e.at)) (x.writes ∙ ap₂ (λ k z. wrote width x.t k z) base.counted base.writes) counted)
              (omega (arith, base.onward, x.onward)) x.inside (omega (arith, base.room, x.room)) tt
              (λ lv. past_open lv ∙ x.runs (exponent lv basis b.at))

-- ---- factors: minus signs before a power
-- The tree t with k minus signs, side by side before place q, that end at e.
unfoldable pub negated : (q e k : ℕ) → Tree → Tree
negated q e zero t = t
negated q e (suc k) t = minus (span (q - suc k) e) (negated q e k t)

signs_negate : (q e k : ℕ) (t : Tree) → negatives (signs_before q k) (piece (span q e) t) ≡ piece (span (q - k) e) (negated q e k t)
unfolding negatives negated signs_before
signs_negate q e zero t = ap (λ p. piece (span p e) t) (sym (sub-zero q))
signs_negate q e (suc k) t =
    negatives-append (signs_before q k) ((q - suc k) ∷ []) (piece (span q e) t) ∙ ap (λ x. negative (q - suc k) x) (signs_negate q e k t)

module _ (q e : ℕ) (t : Tree) where
  negated_holds : (k : ℕ) → holds_x (negated q e k t) ≡ holds_x t
  unfolding negated holds_x
  negated_holds zero = refl
  negated_holds (suc k) = negated_holds k

  negated-parity : (k : ℕ) → parity (negated q e k t) ≡ parity t
  unfolding negated parity
  negated-parity zero = refl
  negated-parity (suc k) = negated-parity k

  negated-nodes : (k : ℕ) → nodes (negated q e k t) ≡ nodes t + k
  unfolding negated nodes
  negated-nodes zero = omega arith
  negated-nodes (suc k) = omega (arith, negated-nodes k)

  negated-faulted : (width k f : ℕ) → faulted width (negated q e k t) f ≡ faulted width t f
  unfolding negated faulted
  negated-faulted width zero f = refl
  negated-faulted width (suc k) f = negated-faulted width k f

  negated-wrote : (width k n : ℕ) (out : List ℕ) → wrote width (negated q e k t) n out ≡ wrote_minus k q e (n + nodes t) (wrote width t n out)
  unfolding negated wrote wrote_minus
  negated-wrote width zero n out = refl
  negated-wrote width (suc k) n out =
      let place : n + nodes (negated q e k t) ≡ n + nodes t + k = omega (arith, negated-nodes k) in
      ap₂ (λ l j. put l j 6 0 (span (q - suc k) e)) (negated-wrote width k n out) place

minus-fold : (l : List ℕ) (p : ℕ) (σ : PendingSum) (π : PendingProduct) (k m : List ℕ) (o : Outer) (x : Piece)
    → run (powered (level σ π (k ++ m) o) x) p (drop p l) ≡ run (powered (level σ π m o) (negatives k x)) p (drop p l)
unfolding step ending after_power ended
minus-fold l p σ π k m o x =
    run_same (powered (level σ π (k ++ m) o) x) (powered (level σ π m o) (negatives k x)) l p (go (byte_of (get_or l p 0))) (end o)
  where
    same : product_with π (negatives (k ++ m) x) ≡ product_with π (negatives m (negatives k x))
    same = ap (λ u. product_with π u) (negatives-append k m x)

    go : (b : Byte) → after_power (level σ π (k ++ m) o) x p b ≡ after_power (level σ π m o) (negatives k x) p b
    go plus_byte = ap (λ u. operand (level (adding (sum_with σ u)) no_product [] o)) same
    go minus_byte = ap (λ u. operand (level (subtracting (sum_with σ u)) no_product [] o)) same
    go star_byte = ap (λ u. operand (level σ (multiplying u) [] o)) same
    go caret_byte = refl
    go open_byte = refl
    go close_byte = ap (λ u. closed o (sum_with σ u) p) same
    go x_byte = refl
    go zero_byte = refl
    go (digit_byte d) = refl
    go other_byte = refl

    end : (o : Outer) → ended (level σ π (k ++ m) o) x p ≡ ended (level σ π m o) (negatives k x) p
    end bottom = ap (λ u. Rattle.formula_scan.specs.Scan.reads (sum_with σ u).tree) same
    end (in_brackets lv q) = refl
    end (in_exponent lv a q) = refl

module _ {width : ℕ} (l : List ℕ) (at q n f : ℕ) (out : List ℕ) (b : Found) (then : List ℕ) (signs : MinusSigns l at q) (read : PowerRead width l q n f out b then) where
  pub factor_lost : b.ok ≡ false → PowerRead width l at n f out b then
  factor_lost no-tree = fails no-tree (λ lv. go lv)
    where
      go : (lv : Level) → run (operand lv) at (drop at l) ≡ stops b.at
      go (level σ π m o) = signs.counted σ π m o ∙ lost read no-tree (level σ π (signs_before q (q - at) ++ m) o)

  pub factor_got : b.ok ≡ true → (r : Found) (now : List ℕ)
      → r ≡ finding b.variable b.odd b.at (b.nodes + (q - at)) b.fault → now ≡ wrote_minus (q - at) q b.at b.nodes then
      → PowerRead width l at n f out r now
  factor_got some r now e w = go (got read some)
    where
      go : Got width Level operand powered Anything l q n f out b then → PowerRead width l at n f out r now
      go x =
          gets whole b.at
          (e
          ∙ same_finding b.at
          (ap (λ (y : Found). y.variable) x.is ∙ sym (negated_holds q b.at x.t (q - at)))
          (ap (λ (y : Found). y.odd) x.is ∙ sym (negated-parity q b.at x.t (q - at)))
          (omega (arith, x.counted, negated-nodes q b.at x.t (q - at)))
          (ap (λ (y : Found). y.fault) x.is ∙ sym (negated-faulted q b.at x.t width (q - at) f)))
          (w ∙ ap₂ (λ k z. wrote_minus (q - at) q b.at k z) x.counted x.writes ∙ sym (negated-wrote q b.at x.t width (q - at) n out))
          (omega (arith, x.onward, signs.onward)) x.inside (omega (arith, x.room, signs.onward, negated-nodes q b.at x.t (q - at))) tt
          (λ lv. runs lv)
        where
          whole : Tree
          whole = negated q b.at (q - at) x.t

          begins : q - (q - at) ≡ at
          begins = omega (arith, signs.onward)

          runs : (lv : Level) → run (operand lv) at (drop at l) ≡ run (powered lv (piece (span at b.at) whole)) b.at (drop b.at l)
          runs (level σ π m o) =
              signs.counted σ π m o
              ∙ x.runs (level σ π (signs_before q (q - at) ++ m) o)
              ∙ minus-fold l b.at σ π (signs_before q (q - at)) m o (piece (span q b.at) x.t)
              ∙ ap (λ y. run (powered (level σ π m o) y) b.at (drop b.at l))
              (signs_negate q b.at (q - at) x.t ∙ ap (λ k. piece (span k b.at) whole) begins)

-- ---- products: factors joined by *
product-fold : (l : List ℕ) (p : ℕ) (σ : PendingSum) (o : Outer) (a x : Piece)
    → run (powered (level σ (multiplying a) [] o) x) p (drop p l) ≡ run (powered (level σ no_product [] o) (joined product a x)) p (drop p l)
unfolding step ending after_power ended product_with negatives
product-fold l p σ o a x =
    run_same (powered (level σ (multiplying a) [] o) x) (powered (level σ no_product [] o) (joined product a x)) l p (go (byte_of (get_or l p 0))) (end o)
  where
    go : (b : Byte) → after_power (level σ (multiplying a) [] o) x p b ≡ after_power (level σ no_product [] o) (joined product a x) p b
    go plus_byte = refl
    go minus_byte = refl
    go star_byte = refl
    go caret_byte = refl
    go open_byte = refl
    go close_byte = refl
    go x_byte = refl
    go zero_byte = refl
    go (digit_byte d) = refl
    go other_byte = refl

    end : (o : Outer) → ended (level σ (multiplying a) [] o) x p ≡ ended (level σ no_product [] o) (joined product a x) p
    end bottom = refl
    end (in_brackets lv q) = refl
    end (in_exponent lv b q) = refl

-- What was read before the next factor: nothing, or a product and a *.
pub data ProductSoFar (width : ℕ) (l : List ℕ) (at n f : ℕ) (out : List ℕ) (left : Found) (sign : ℕ) (now : List ℕ) : Type 0 where
  none_yet : sign ≡ 0 → left ≡ finding false 0 at n f → now ≡ out → ProductSoFar width l at n f out left sign now
  times-next : (t : Tree) (p : ℕ) → (sign ≡ 0 → ⊥) → left ≡ finding (holds_x t) (parity t) (p + 1) (n + nodes t) (faulted width t f)
      → now ≡ wrote width t n out → at < p → p + 1 ≤ length l → at + nodes t ≤ p
      → ((c : InSum) → run (operand (in_sum c)) at (drop at l) ≡ run (operand (level c.0 (multiplying (piece (span at p) t)) [] c.1)) (p + 1) (drop (p + 1) l))
      → ProductSoFar width l at n f out left sign now

-- Where the next part begins: inside the text, with no more nodes than bytes.
pub record Onward (l : List ℕ) (at n : ℕ) (left : Found) : Type 0 where
  pub after : at ≤ left.at
  pub inside : left.at ≤ length l
  pub few : n ≤ at → left.nodes ≤ left.at
  pub odd_small : left.odd < 2

pub product-onward : {width : ℕ} {l : List ℕ} {at n f : ℕ} {out : List ℕ} {left : Found} {sign : ℕ} {now : List ℕ} → at ≤ length l
    → ProductSoFar width l at n f out left sign now → Onward l at n left
product-onward {left = left} h (none_yet j e w) =
    let place : left.at ≡ _ = ap (λ (x : Found). x.at) e in
    let count : left.nodes ≡ _ = ap (λ (x : Found). x.nodes) e in
    let odd : left.odd ≡ 0 = ap (λ (x : Found). x.odd) e in
    record { after = omega arith; inside = omega arith; few = λ k. omega arith; odd_small = omega arith }
product-onward {left = left} h (times-next t p j e w a b c d) =
    let place : left.at ≡ _ = ap (λ (x : Found). x.at) e in
    let count : left.nodes ≡ _ = ap (λ (x : Found). x.nodes) e in
    let odd : left.odd ≡ parity t = ap (λ (x : Found). x.odd) e in
    record { after = omega arith; inside = omega arith; few = λ k. omega arith; odd_small = omega (arith, parity_small t) }

-- A product, with nothing said of the byte after it.
abbrev pub WholeProduct : ℕ → List ℕ → ℕ → ℕ → ℕ → List ℕ → Found → List ℕ → Type 0
WholeProduct width = Got width InSum (λ c. operand (in_sum c)) (λ c x. powered (in_sum c) x) Anything

module _ {width : ℕ} {l : List ℕ} {at n f : ℕ} {out : List ℕ} where
  module _ {left right : Found} {sign : ℕ} {now soon : List ℕ} (so : ProductSoFar width l at n f out left sign now)
      (read : PowerRead width l left.at left.nodes left.fault now right soon) where
    product-both : right.ok ≡ true → (r : Found) (then : List ℕ) → r ≡ cond (eqb sign 0) right (product_found left.variable left.odd right)
        → then ≡ cond (eqb sign 0) soon (put soon right.nodes 5 0 (span at right.at)) → WholeProduct width l at n f out r then
    unfolding holds_x parity nodes faulted wrote
    product-both some r then q v = go so (got read some)
      where
        go : ProductSoFar width l at n f out left sign now → Got width Level operand powered Anything l left.at left.nodes left.fault now right soon
            → WholeProduct width l at n f out r then
        go (none_yet j e w) x =
            let zero-sign : eqb sign 0 ≡ true = eq-eqb sign 0 j in
            let whole : r ≡ right = q ∙ ap (λ b. cond b right (product_found left.variable left.odd right)) zero-sign in
            let place : left.at ≡ at = ap (λ (y : Found). y.at) e in
            let end : r.at ≡ right.at = ap (λ (y : Found). y.at) whole in
            let count : left.nodes ≡ n = ap (λ (y : Found). y.nodes) e in
            record {
              t = x.t;
              is = whole ∙ x.is ∙ ap₂ (λ k g. found width x.t right.at k g) count (ap (λ (y : Found). y.fault) e) ∙ ap (λ k. found width x.t k n f) (sym end);
              writes = v ∙ ap (λ b. cond b soon (put soon right.nodes 5 0 (span at right.at))) zero-sign ∙ x.writes ∙ ap₂ (λ k z. wrote width x.t k z) count w;
              onward = omega (arith, x.onward);
              inside = omega (arith, x.inside);
              room = omega (arith, x.room);
              counted = ap (λ (y : Found). y.nodes) whole ∙ x.counted ∙ ap (λ k. k + nodes x.t) count;
              next = tt;
              runs = λ c. ap (λ k. run (operand (in_sum c)) k (drop k l)) (sym place) ∙ x.runs (in_sum c)
                  ∙ ap₂ (λ i k. run (powered (in_sum c) (piece (span i k) x.t)) k (drop k l)) place (sym end);
            }
        go (times-next t p j e w a b c d) x =
            let some-sign : eqb sign 0 ≡ false = ne_eqb sign 0 j in
            let whole : r ≡ product_found left.variable left.odd right = q ∙ ap (λ b. cond b right (product_found left.variable left.odd right)) some-sign in
            let place : left.at ≡ p + 1 = ap (λ (y : Found). y.at) e in
            let end : r.at ≡ right.at = ap (λ (y : Found). y.at) whole in
            let count : left.nodes ≡ n + nodes t = ap (λ (y : Found). y.nodes) e in
            let total : right.nodes ≡ n + nodes t + nodes x.t = x.counted ∙ ap (λ k. k + nodes x.t) count in
            record {
              t = product (span at right.at) t x.t;
              is = whole
                  ∙ same_finding right.at
                  (ap₂ ◌||◌ (ap (λ (y : Found). y.variable) e) (ap (λ (y : Found). y.variable) x.is))
                  (ap₂ ◌*◌ (ap (λ (y : Found). y.odd) e) (ap (λ (y : Found). y.odd) x.is))
                  (omega arith)
                  (ap (λ (y : Found). y.fault) x.is ∙ ap (λ g. faulted width x.t g) (ap (λ (y : Found). y.fault) e))
                  ∙ ap (λ k. found width (product (span at right.at) t x.t) k n f) (sym end);
              writes = v ∙ ap (λ b. cond b soon (put soon right.nodes 5 0 (span at right.at))) some-sign
                  ∙ ap₂ (λ z k. put z k 5 0 (span at right.at)) (x.writes ∙ ap₂ (λ k z. wrote width x.t k z) count w) total;
              onward = omega (arith, x.onward);
              inside = omega (arith, x.inside);
              room = omega (arith, x.room);
              counted = ap (λ (y : Found). y.nodes) whole ∙ omega arith;
              next = tt;
              runs = λ c. d c ∙ ap (λ k. run (operand (level c.0 (multiplying (piece (span at p) t)) [] c.1)) k (drop k l)) (sym place)
                  ∙ x.runs (level c.0 (multiplying (piece (span at p) t)) [] c.1)
                  ∙ product-fold l right.at c.0 c.1 (piece (span at p) t) (piece (span left.at right.at) x.t)
                  ∙ ap (λ k. run (powered (in_sum c) (piece (span at k) (product (span at right.at) t x.t))) k (drop k l)) (sym end);
            }

    -- The same by what waits on the left.
    pub product-joined : (waits : Left) → waits ≡ waiting at sign left.variable left.odd → right.ok ≡ true → (r : Found) (then : List ℕ)
        → r ≡ cond (eqb waits.sign 0) right (product_found waits.variable waits.odd right)
        → then ≡ cond (eqb waits.sign 0) soon (put soon right.nodes 5 0 (span waits.first right.at)) → WholeProduct width l at n f out r then
    product-joined waits e some r then q v =
        product-both some r then (q ∙ ap (λ (y : Left). cond (eqb y.sign 0) right (product_found y.variable y.odd right)) e)
        (v ∙ ap (λ (y : Left). cond (eqb y.sign 0) soon (put soon right.nodes 5 0 (span y.first right.at))) e)

  module _ {r : Found} {then : List ℕ} (whole : WholeProduct width l at n f out r then) where
    pub product-ends : (get_or l r.at 0 ≡ 42 → ⊥) → ProductRead width l at n f out r then
    product-ends none = gets whole.t r.at whole.is whole.writes whole.onward whole.inside whole.room none whole.runs

    pub product_goes_on : get_or l r.at 0 ≡ 42 → (left : Found) (sign : ℕ) → sign ≡ 42 → left ≡ finding r.variable r.odd (r.at + 1) r.nodes r.fault
        → ProductSoFar width l at n f out left sign then
    unfolding step after_power byte_of product_with negatives
    product_goes_on e left sign s q =
        times-next whole.t r.at (λ z. omega arith)
        (q ∙ same_finding (r.at + 1) (ap (λ (y : Found). y.variable) whole.is) (ap (λ (y : Found). y.odd) whole.is) whole.counted (ap (λ (y : Found). y.fault) whole.is))
        whole.writes whole.onward (omega (arith, inside l r.at (omega arith))) whole.room
        (λ c. whole.runs c ∙ run_byte (powered (in_sum c) (piece (span at r.at) whole.t)) l r.at 42 e (omega arith))

-- ---- sums: products joined by + or -
-- What a sign between a and x makes: a sum for +, a difference for -.
abbrev pub signed : ℕ → Piece → PendingSum
signed s a = cond (eqb s 43) (adding a) (subtracting a)

abbrev node : Bool → Span → Tree → Tree → Tree
node b k t u = cond b (sum k t u) (difference k t u)

abbrev pub signed_tree : ℕ → Span → Tree → Tree → Tree
signed_tree s k t u = node (eqb s 43) k t u

module _ (s : ℕ) (k : Span) (t u : Tree) where
  signed_holds : holds_x (signed_tree s k t u) ≡ (holds_x t || holds_x u)
  unfolding holds_x
  signed_holds = go (eqb s 43)
    where
      go : (b : Bool) → holds_x (node b k t u) ≡ (holds_x t || holds_x u)
      go true = refl
      go false = refl

  signed-parity : parity (signed_tree s k t u) ≡ (parity t + parity u) % 2
  unfolding parity
  signed-parity = go (eqb s 43)
    where
      go : (b : Bool) → parity (node b k t u) ≡ (parity t + parity u) % 2
      go true = refl
      go false = refl

  signed-nodes : nodes (signed_tree s k t u) ≡ nodes t + nodes u + 1
  unfolding nodes
  signed-nodes = go (eqb s 43)
    where
      go : (b : Bool) → nodes (node b k t u) ≡ nodes t + nodes u + 1
      go true = refl
      go false = refl

  signed-faulted : (width f : ℕ) → faulted width (signed_tree s k t u) f ≡ faulted width u (faulted width t f)
  unfolding faulted
  signed-faulted width f = go (eqb s 43)
    where
      go : (b : Bool) → faulted width (node b k t u) f ≡ faulted width u (faulted width t f)
      go true = refl
      go false = refl

  signed-wrote : (width n : ℕ) (out : List ℕ)
      → wrote width (signed_tree s k t u) n out ≡ put (wrote width u (n + nodes t) (wrote width t n out)) (n + nodes t + nodes u) (cond (eqb s 43) 3 4) 0 k
  unfolding wrote
  signed-wrote width n out = go (eqb s 43)
    where
      go : (b : Bool) → wrote width (node b k t u) n out
          ≡ put (wrote width u (n + nodes t) (wrote width t n out)) (n + nodes t + nodes u) (cond b 3 4) 0 k
      go true = refl
      go false = refl

sum-fold : (s : ℕ) (a x : Piece) (l : List ℕ) (p : ℕ) (o : Outer) → (get_or l p 0 ≡ 42 → ⊥)
    → run (powered (level (signed s a) no_product [] o) x) p (drop p l) ≡ run (powered (fresh o) (joined (signed_tree s) a x)) p (drop p l)
unfolding step ending after_power ended sum_with product_with negatives
sum-fold s a x l p o none = fold (eqb s 43)
  where
    fold : (b : Bool) → run (powered (level (cond b (adding a) (subtracting a)) no_product [] o) x) p (drop p l)
        ≡ run (powered (fresh o) (joined (node b) a x)) p (drop p l)
    fold b =
        run_same (powered (level (cond b (adding a) (subtracting a)) no_product [] o) x) (powered (fresh o) (joined (node b) a x)) l p
        (go b (byte_of (get_or l p 0)) (byte_is (get_or l p 0))) (end b o)
      where
        same : (b : Bool) → sum_with (cond b (adding a) (subtracting a)) x ≡ joined (node b) a x
        same true = refl
        same false = refl

        go : (b : Bool) (c : Byte) → Is c (get_or l p 0) → after_power (level (cond b (adding a) (subtracting a)) no_product [] o) x p c
            ≡ after_power (fresh o) (joined (node b) a x) p c
        go b plus_byte i = ap (λ z. operand (level (adding z) no_product [] o)) (same b)
        go b minus_byte i = ap (λ z. operand (level (subtracting z) no_product [] o)) (same b)
        go b star_byte i = absurd (none i)
        go b caret_byte i = refl
        go b open_byte i = refl
        go b close_byte i = ap (λ z. closed o z p) (same b)
        go b x_byte i = refl
        go b zero_byte i = refl
        go b (digit_byte d) i = refl
        go b other_byte i = refl

        end : (b : Bool) (o : Outer) → ended (level (cond b (adding a) (subtracting a)) no_product [] o) x p ≡ ended (fresh o) (joined (node b) a x) p
        end b bottom = ap (λ z. Rattle.formula_scan.specs.Scan.reads z.tree) (same b)
        end b (in_brackets lv q) = refl
        end b (in_exponent lv a q) = refl

-- What was read before the next product: nothing, or a sum and a sign.
pub data SumSoFar (width : ℕ) (l : List ℕ) (at n f : ℕ) (out : List ℕ) (left : Found) (sign : ℕ) (now : List ℕ) : Type 0 where
  none_yet : sign ≡ 0 → left ≡ finding false 0 at n f → now ≡ out → SumSoFar width l at n f out left sign now
  sign_next : (t : Tree) (p : ℕ) → (sign ≡ 0 → ⊥) → left ≡ finding (holds_x t) (parity t) (p + 1) (n + nodes t) (faulted width t f)
      → now ≡ wrote width t n out → at < p → p + 1 ≤ length l → at + nodes t ≤ p
      → ((o : Outer) → run (operand (fresh o)) at (drop at l) ≡ run (operand (level (signed sign (piece (span at p) t)) no_product [] o)) (p + 1) (drop (p + 1) l))
      → SumSoFar width l at n f out left sign now

pub sum-onward : {width : ℕ} {l : List ℕ} {at n f : ℕ} {out : List ℕ} {left : Found} {sign : ℕ} {now : List ℕ} → at ≤ length l
    → SumSoFar width l at n f out left sign now → Onward l at n left
sum-onward {left = left} h (none_yet j e w) =
    let place : left.at ≡ _ = ap (λ (x : Found). x.at) e in
    let count : left.nodes ≡ _ = ap (λ (x : Found). x.nodes) e in
    let odd : left.odd ≡ 0 = ap (λ (x : Found). x.odd) e in
    record { after = omega arith; inside = omega arith; few = λ k. omega arith; odd_small = omega arith }
sum-onward {left = left} h (sign_next t p j e w a b c d) =
    let place : left.at ≡ _ = ap (λ (x : Found). x.at) e in
    let count : left.nodes ≡ _ = ap (λ (x : Found). x.nodes) e in
    let odd : left.odd ≡ parity t = ap (λ (x : Found). x.odd) e in
    record { after = omega arith; inside = omega arith; few = λ k. omega arith; odd_small = omega (arith, parity_small t) }

-- A sum, with only * ruled out as the byte after it.
abbrev pub WholeSum : ℕ → List ℕ → ℕ → ℕ → ℕ → List ℕ → Found → List ℕ → Type 0
WholeSum width = Got width Outer (λ o. operand (fresh o)) (λ o x. powered (fresh o) x) NoStar

module _ {width : ℕ} {l : List ℕ} {at n f : ℕ} {out : List ℕ} where
  module _ {left right : Found} {sign : ℕ} {now soon : List ℕ} (so : SumSoFar width l at n f out left sign now)
      (read : ProductRead width l left.at left.nodes left.fault now right soon) where
    pub sum_lost : right.ok ≡ false → SumRead width l at n f out right soon
    sum_lost no-tree = go so
      where
        go : SumSoFar width l at n f out left sign now → SumRead width l at n f out right soon
        go (none_yet j e w) =
            fails no-tree (λ o. ap (λ q. run (operand (fresh o)) q (drop q l)) (sym (ap (λ (x : Found). x.at) e)) ∙ lost read no-tree (no_sum, o))
        go (sign_next t p j e w a b c d) =
            fails no-tree (λ o. d o ∙ ap (λ q. run (operand (level (signed sign (piece (span at p) t)) no_product [] o)) q (drop q l)) (sym (ap (λ (x : Found). x.at) e))
            ∙ lost read no-tree (signed sign (piece (span at p) t), o))

    sum_both : right.ok ≡ true → (r : Found) (then : List ℕ) → r ≡ cond (eqb sign 0) right (sum_found left.variable left.odd right)
        → then ≡ cond (eqb sign 0) soon (put soon right.nodes (cond (eqb sign 43) 3 4) 0 (span at right.at)) → WholeSum width l at n f out r then
    sum_both some r then q v = go so (got read some)
      where
        go : SumSoFar width l at n f out left sign now
            → Got width InSum (λ c. operand (in_sum c)) (λ c x. powered (in_sum c) x) NoStar l left.at left.nodes left.fault now right soon
            → WholeSum width l at n f out r then
        go (none_yet j e w) x =
            let zero-sign : eqb sign 0 ≡ true = eq-eqb sign 0 j in
            let whole : r ≡ right = q ∙ ap (λ b. cond b right (sum_found left.variable left.odd right)) zero-sign in
            let place : left.at ≡ at = ap (λ (y : Found). y.at) e in
            let end : r.at ≡ right.at = ap (λ (y : Found). y.at) whole in
            let count : left.nodes ≡ n = ap (λ (y : Found). y.nodes) e in
            record {
              t = x.t;
              is = whole ∙ x.is ∙ ap₂ (λ k g. found width x.t right.at k g) count (ap (λ (y : Found). y.fault) e) ∙ ap (λ k. found width x.t k n f) (sym end);
              writes = v ∙ ap (λ b. cond b soon (put soon right.nodes (cond (eqb sign 43) 3 4) 0 (span at right.at))) zero-sign ∙ x.writes ∙ ap₂ (λ k z. wrote width x.t k z) count w;
              onward = omega (arith, x.onward);
              inside = omega (arith, x.inside);
              room = omega (arith, x.room);
              counted = ap (λ (y : Found). y.nodes) whole ∙ x.counted ∙ ap (λ k. k + nodes x.t) count;
              next = rw end x.next;
              runs = λ o. ap (λ k. run (operand (fresh o)) k (drop k l)) (sym place) ∙ x.runs (no_sum, o)
                  ∙ ap₂ (λ i k. run (powered (fresh o) (piece (span i k) x.t)) k (drop k l)) place (sym end);
            }
        go (sign_next t p j e w a b c d) x =
            let some-sign : eqb sign 0 ≡ false = ne_eqb sign 0 j in
            let whole : r ≡ sum_found left.variable left.odd right = q ∙ ap (λ b. cond b right (sum_found left.variable left.odd right)) some-sign in
            let place : left.at ≡ p + 1 = ap (λ (y : Found). y.at) e in
            let end : r.at ≡ right.at = ap (λ (y : Found). y.at) whole in
            let count : left.nodes ≡ n + nodes t = ap (λ (y : Found). y.nodes) e in
            let total : right.nodes ≡ n + nodes t + nodes x.t = x.counted ∙ ap (λ k. k + nodes x.t) count in
            let size : nodes (signed_tree sign (span at right.at) t x.t) ≡ nodes t + nodes x.t + 1 = signed-nodes sign (span at right.at) t x.t in
            record {
              t = signed_tree sign (span at right.at) t x.t;
              is = whole
                  ∙ same_finding right.at
                  (ap₂ ◌||◌ (ap (λ (y : Found). y.variable) e) (ap (λ (y : Found). y.variable) x.is) ∙ sym (signed_holds sign (span at right.at) t x.t))
                  (ap₂ (λ y z. (y + z) % 2) (ap (λ (y : Found). y.odd) e) (ap (λ (y : Found). y.odd) x.is) ∙ sym (signed-parity sign (span at right.at) t x.t))
                  (omega arith)
                  (ap (λ (y : Found). y.fault) x.is ∙ ap (λ g. faulted width x.t g) (ap (λ (y : Found). y.fault) e) ∙ sym (signed-faulted sign (span at right.at) t x.t width f))
                  ∙ ap (λ k. found width (signed_tree sign (span at right.at) t x.t) k n f) (sym end);
              writes = v ∙ ap (λ b. cond b soon (put soon right.nodes (cond (eqb sign 43) 3 4) 0 (span at right.at))) some-sign
                  ∙ ap₂ (λ z k. put z k (cond (eqb sign 43) 3 4) 0 (span at right.at)) (x.writes ∙ ap₂ (λ k z. wrote width x.t k z) count w) total
                  ∙ sym (signed-wrote sign (span at right.at) t x.t width n out);
              onward = omega (arith, x.onward);
              inside = omega (arith, x.inside);
              room = omega (arith, x.room);
              counted = ap (λ (y : Found). y.nodes) whole ∙ omega arith;
              next = rw end x.next;
              runs = λ o. d o ∙ ap (λ k. run (operand (level (signed sign (piece (span at p) t)) no_product [] o)) k (drop k l)) (sym place)
                  ∙ x.runs (signed sign (piece (span at p) t), o)
                  ∙ sum-fold sign (piece (span at p) t) (piece (span left.at right.at) x.t) l right.at o x.next
                  ∙ ap (λ k. run (powered (fresh o) (piece (span at k) (signed_tree sign (span at right.at) t x.t))) k (drop k l)) (sym end);
            }

    -- The same by what waits on the left.
    pub sum-joined : (waits : Left) → waits ≡ waiting at sign left.variable left.odd → right.ok ≡ true → (r : Found) (then : List ℕ)
        → r ≡ cond (eqb waits.sign 0) right (sum_found waits.variable waits.odd right)
        → then ≡ cond (eqb waits.sign 0) soon (put soon right.nodes (cond (eqb waits.sign 43) 3 4) 0 (span waits.first right.at))
        → WholeSum width l at n f out r then
    sum-joined waits e some r then q v =
        sum_both some r then (q ∙ ap (λ (y : Left). cond (eqb y.sign 0) right (sum_found y.variable y.odd right)) e)
        (v ∙ ap (λ (y : Left). cond (eqb y.sign 0) soon (put soon right.nodes (cond (eqb y.sign 43) 3 4) 0 (span y.first right.at))) e)

  module _ {r : Found} {then : List ℕ} (whole : WholeSum width l at n f out r then) where
    pub sum-ends : (eqb (get_or l r.at 0) 43 || eqb (get_or l r.at 0) 45) ≡ false → SumRead width l at n f out r then
    sum-ends e =
        gets whole.t r.at whole.is whole.writes whole.onward whole.inside whole.room
        (whole.next, no_plus (eqb (get_or l r.at 0) 43) refl e, no_minus (eqb (get_or l r.at 0) 43) (eqb (get_or l r.at 0) 45) refl e) whole.runs
      where
        no_plus : (a : Bool) → eqb (get_or l r.at 0) 43 ≡ a → (a || eqb (get_or l r.at 0) 45) ≡ false → get_or l r.at 0 ≡ 43 → ⊥
        no_plus true p q = absurd (true≢false q)
        no_plus false p q = eqb-false (get_or l r.at 0) 43 p

        no_minus : (a b : Bool) → eqb (get_or l r.at 0) 45 ≡ b → (a || b) ≡ false → get_or l r.at 0 ≡ 45 → ⊥
        no_minus true b p q = absurd (true≢false q)
        no_minus false true p q = absurd (true≢false q)
        no_minus false false p q = eqb-false (get_or l r.at 0) 45 p

    pub sum_goes_on : (eqb (get_or l r.at 0) 43 || eqb (get_or l r.at 0) 45) ≡ true → (left : Found) (sign : ℕ) → sign ≡ get_or l r.at 0
        → left ≡ finding r.variable r.odd (r.at + 1) r.nodes r.fault → SumSoFar width l at n f out left sign then
    unfolding step after_power byte_of sum_with product_with negatives
    sum_goes_on e left sign s q =
        sign_next whole.t r.at (is_some (get_or l r.at 0) s e)
        (q ∙ same_finding (r.at + 1) (ap (λ (y : Found). y.variable) whole.is) (ap (λ (y : Found). y.odd) whole.is) whole.counted (ap (λ (y : Found). y.fault) whole.is))
        whole.writes whole.onward (omega (arith, inside l r.at (some_byte (get_or l r.at 0) e))) whole.room
        (λ o. whole.runs o ∙ go o (eqb (get_or l r.at 0) 43) (eqb (get_or l r.at 0) 45) refl refl e
        ∙ ap (λ c. run (operand (level (signed c (piece (span at r.at) whole.t)) no_product [] o)) (r.at + 1) (drop (r.at + 1) l)) (sym s))
      where
        some_byte : (c : ℕ) → (eqb c 43 || eqb c 45) ≡ true → 0 < c
        some_byte zero p = absurd (true≢false (sym p))
        some_byte (suc c) p = omega arith

        is_some : (c : ℕ) → sign ≡ c → (eqb c 43 || eqb c 45) ≡ true → sign ≡ 0 → ⊥
        is_some c p x z = omega (arith, some_byte c x)

        go : (o : Outer) (a b : Bool) → eqb (get_or l r.at 0) 43 ≡ a → eqb (get_or l r.at 0) 45 ≡ b → (a || b) ≡ true
            → run (powered (fresh o) (piece (span at r.at) whole.t)) r.at (drop r.at l)
            ≡ run (operand (level (signed (get_or l r.at 0) (piece (span at r.at) whole.t)) no_product [] o)) (r.at + 1) (drop (r.at + 1) l)
        go o true b p x y =
            run_byte (powered (fresh o) (piece (span at r.at) whole.t)) l r.at 43 (eqb-true (get_or l r.at 0) 43 p) (omega arith)
            ∙ ap (λ t. run (operand (level (cond t (adding (piece (span at r.at) whole.t)) (subtracting (piece (span at r.at) whole.t))) no_product [] o)) (r.at + 1) (drop (r.at + 1) l)) (sym p)
        go o false true p x y =
            run_byte (powered (fresh o) (piece (span at r.at) whole.t)) l r.at 45 (eqb-true (get_or l r.at 0) 45 x) (omega arith)
            ∙ ap (λ t. run (operand (level (cond t (adding (piece (span at r.at) whole.t)) (subtracting (piece (span at r.at) whole.t))) no_product [] o)) (r.at + 1) (drop (r.at + 1) l)) (sym p)
        go o false false p x y = absurd (true≢false (sym y))

-- ---- brackets
-- After a sum in brackets, with no ) next, the scan stops.
no_close : (l : List ℕ) (p : ℕ) (o : Outer) (x : Piece) → NoSign (get_or l p 0) → (get_or l p 0 ≡ 41 → ⊥)
    → ending (powered (fresh o) x) p ≡ stops p → run (powered (fresh o) x) p (drop p l) ≡ stops p
unfolding step after_power
no_close l p o x signs none end = run_stop (powered (fresh o) x) l p (go (byte_of (get_or l p 0)) (byte_is (get_or l p 0))) end
  where
    go : (b : Byte) → Is b (get_or l p 0) → after_power (fresh o) x p b ≡ stopped p
    go plus_byte i = absurd (signs.1 i)
    go minus_byte i = absurd (signs.2 i)
    go star_byte i = absurd (signs.0 i)
    go caret_byte i = refl
    go open_byte i = refl
    go close_byte i = absurd (none i)
    go x_byte i = refl
    go zero_byte i = refl
    go (digit_byte d) i = refl
    go other_byte i = refl

abbrev pub WholeBracket : ℕ → List ℕ → ℕ → ℕ → ℕ → List ℕ → Found → List ℕ → Type 0
WholeBracket width = Got width Outer (λ o. operand (fresh o)) (λ o x. powered (fresh o) x) NoSign

module _ {width : ℕ} (l : List ℕ) (at n f : ℕ) (out : List ℕ) (s : Found) (now : List ℕ) where
  pub bracket_open : WholeBracket width l (at + 1) n f out s now → (get_or l s.at 0 ≡ 41 → ⊥) → (r : Found) → r ≡ stopping s.at → BracketRead width l at n f out r now
  unfolding ending ended
  bracket_open whole none r q = fails (ap (λ (x : Found). x.ok) q) (λ c. go c ∙ ap (λ p. stops p) (sym (ap (λ (x : Found). x.at) q)))
    where
      inner : Piece
      inner = piece (span (at + 1) s.at) whole.t

      go : (c : Enclosing) → run (opened c) (at + 1) (drop (at + 1) l) ≡ stops s.at
      go (brackets lv q) = whole.runs (in_brackets lv q) ∙ no_close l s.at (in_brackets lv q) inner whole.next none refl
      go (exponent lv a p) = whole.runs (in_exponent lv a p) ∙ no_close l s.at (in_exponent lv a p) inner whole.next none refl

  pub bracket_closed : WholeBracket width l (at + 1) n f out s now → get_or l s.at 0 ≡ 41 → (r : Found)
      → r ≡ finding s.variable s.odd (s.at + 1) s.nodes s.fault → BracketRead width l at n f out r now
  unfolding step after_power byte_of closed sum_with product_with negatives
  bracket_closed whole e r q =
      gets whole.t (s.at + 1)
      (q ∙ same_finding (s.at + 1) (ap (λ (y : Found). y.variable) whole.is) (ap (λ (y : Found). y.odd) whole.is) whole.counted (ap (λ (y : Found). y.fault) whole.is))
      whole.writes (omega (arith, whole.onward)) (omega (arith, inside l s.at (omega arith))) (omega (arith, whole.room)) tt go
    where
      inner : Piece
      inner = piece (span (at + 1) s.at) whole.t

      go : (c : Enclosing) → run (opened c) (at + 1) (drop (at + 1) l) ≡ run (enclosed c (piece (span (at + 1) (s.at + 1)) whole.t)) (s.at + 1) (drop (s.at + 1) l)
      go (brackets lv q) =
          whole.runs (in_brackets lv q)
          ∙ run_byte (powered (fresh (in_brackets lv q)) inner) l s.at 41 e (omega arith)
          ∙ ap (λ k. run (atomed lv (piece (span q k) whole.t)) (s.at + 1) (drop (s.at + 1) l)) (sym (add-one s.at))
      go (exponent lv a p) =
          whole.runs (in_exponent lv a p)
          ∙ run_byte (powered (fresh (in_exponent lv a p)) inner) l s.at 41 e (omega arith)
          ∙ ap (λ k. run (powered lv (raise_to a p whole.t k)) (s.at + 1) (drop (s.at + 1) l)) (sym (add-one s.at))

-- ---- what the callers ask of an answer
module _ {width : ℕ} {C : Type 0} {from : C → State} {to : C → Piece → State} {Next : ℕ → Type 0} {l : List ℕ} {at n f : ℕ} {out : List ℕ} {r : Found} {now : List ℕ}
    (g : Got width C from to Next l at n f out r now) where
  pub got_odd : r.odd < 2
  got_odd = let odd : r.odd ≡ parity g.t = ap (λ (x : Found). x.odd) g.is in omega (arith, parity_small g.t)

  pub got_few : n ≤ at → r.nodes ≤ r.at
  got_few h = omega (arith, g.counted, g.room)

-- What waits on the left of the next operand: where the whole began, a sign, and what was found so far.
abbrev pub Waits : Left → ℕ → Found → Type 0
Waits left at next = left ≡ waiting at left.sign next.variable next.odd

pub waits_so : (left : Left) (p at sign : ℕ) (next : Found) → p ≡ at → left ≡ waiting p sign next.variable next.odd → Waits left at next
waits_so left p at sign next same e = e ∙ ap₂ (λ i k. waiting i k next.variable next.odd) same (sym (ap (λ (y : Left). y.sign) e))
