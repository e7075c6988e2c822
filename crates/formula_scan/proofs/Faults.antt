-- What a reader notes of a tree as one number is its first fault of 5 to 8, leftmost, as Refusals.antt says them.
-- A base is judged there by its noted parity. That is its value's unless a base inside it is bad too, and then that one stands further left.
use mathlib.Core.Path.{◌≡◌, refl, sym, subst, subst₂, ◌∙◌}
use mathlib.Core.Bool.{Bool, true, false, cond, ◌||◌}
use mathlib.Core.Logic.{◌⊎◌, inl, inr}
use mathlib.Core.List.{List}
use Prim.Native.Nat.{ℕ, suc, ◌+◌, ◌/◌, ◌%◌, ◌^◌, ◌≤◌, ◌<◌, min}
use native.Mathlib.Nat.{le_refl, le_trans, le_of_lt, lt_irrefl, lt_of_lt_of_le, min-le_left, min-le_right, min-eq_left, min-eq_right}
use native.Mathlib.Omega.{arith}
use lib.Dec.{eqb, leb, ltb}
use lib.ListN.{length}
use borrow.Author.Tests.{eqb-true, eqb-false, leb-true, leb-false, lt-leb, ltb-true, ltb-false, lt-ltb, le-ltb}
use Rattle.formula.specs.Words.{most_nodes}
use Rattle.formula.specs.Tree.{Span, Tree, number, variable, sum, difference, product, minus, literal_power, raise, nodes, holds_x}
use Rattle.formula.specs.Grammar.{Formula}
use Rattle.formula.specs.Value.{value_for}
use Rattle.formula.specs.Refusals.{TooDeep, Part, itself, sum_left, sum-right, difference-left, difference-right, product-left, product-right, under-minus, under-power, in_base, in_exponent, Fault, too_long, too_deep, not-grammar, number-over, exponent-number-over, exponent-over, too_many, x_in_base, even_base, Refused, Accepted}
use Rattle.formula_scan.specs.Readers.{parity, fault_code, no_fault, number_fault, literal_fault, base_fault, faulted, code}
use Rattle.formula_scan.proofs.GrammarScan.{unambiguous}
use Rattle.formula.proofs.Places.{number-placed, placed-inside, raise-inside, literal_inside, base_left}
use Rattle.formula_scan.proofs.Ways.{parity_small}
use Rattle.formula_scan.proofs.Parity.{parity-noted}

-- ---- parts of parts
pub part_of : {u v t : Tree} → Part u v → Part v t → Part u t
part_of k itself = k
part_of k (sum_left l) = sum_left (part_of k l)
part_of k (sum-right l) = sum-right (part_of k l)
part_of k (difference-left l) = difference-left (part_of k l)
part_of k (difference-right l) = difference-right (part_of k l)
part_of k (product-left l) = product-left (part_of k l)
part_of k (product-right l) = product-right (part_of k l)
part_of k (under-minus l) = under-minus (part_of k l)
part_of k (under-power l) = under-power (part_of k l)
part_of k (in_base l) = in_base (part_of k l)
part_of k (in_exponent l) = in_exponent (part_of k l)

-- ---- the least of the faults of the nodes
-- What is noted of one node.
abbrev own : ℕ → Tree → ℕ
own w (number s p v) = number_fault w p v
own w (variable s) = no_fault
own w (sum s a b) = no_fault
own w (difference s a b) = no_fault
own w (product s a b) = no_fault
own w (minus s a) = no_fault
own w (literal_power s a p n) = literal_fault w p n
own w (raise s a p b) = base_fault (holds_x a) (parity a) p

-- The lesser of two numbers is one of them.
lesser : (P : ℕ → Type 0) (a b : ℕ) → P a → P b → P (min a b)
lesser P a b p q = go (leb a b) refl
  where
    go : (t : Bool) → leb a b ≡ t → P (min a b)
    go true e = subst P (sym (min-eq_left (leb-true a b e))) p
    go false e = subst P (sym (min-eq_right (le_of_lt (leb-false a b e)))) q

module _ (w : ℕ) where
  -- The faults of a tree, after f, are f or what is noted of one of its nodes;
  faulted_one : (P : ℕ → Type 0) (t : Tree) (f : ℕ) → P f → ((u : Tree) → Part u t → P (own w u)) → P (faulted w t f)
  unfolding faulted
  faulted_one P (number s p v) f start each = lesser P _ _ start (each (number s p v) itself)
  faulted_one P (variable s) f start each = start
  faulted_one P (sum s a b) f start each =
      faulted_one P b _ (faulted_one P a f start (λ u k. each u (sum_left k))) (λ u k. each u (sum-right k))
  faulted_one P (difference s a b) f start each =
      faulted_one P b _ (faulted_one P a f start (λ u k. each u (difference-left k))) (λ u k. each u (difference-right k))
  faulted_one P (product s a b) f start each =
      faulted_one P b _ (faulted_one P a f start (λ u k. each u (product-left k))) (λ u k. each u (product-right k))
  faulted_one P (minus s a) f start each = faulted_one P a f start (λ u k. each u (under-minus k))
  faulted_one P (literal_power s a p n) f start each =
      lesser P _ _ (faulted_one P a f start (λ u k. each u (under-power k))) (each (literal_power s a p n) itself)
  faulted_one P (raise s a p b) f start each =
      faulted_one P b _ (lesser P _ _ (faulted_one P a f start (λ u k. each u (in_base k))) (each (raise s a p b) itself))
      (λ u k. each u (in_exponent k))

  -- and they are not above f,
  faulted_below : (t : Tree) (f : ℕ) → faulted w t f ≤ f
  unfolding faulted
  faulted_below (number s p v) f = min-le_left _ _
  faulted_below (variable s) f = le_refl f
  faulted_below (sum s a b) f = le_trans (faulted_below b _) (faulted_below a f)
  faulted_below (difference s a b) f = le_trans (faulted_below b _) (faulted_below a f)
  faulted_below (product s a b) f = le_trans (faulted_below b _) (faulted_below a f)
  faulted_below (minus s a) f = faulted_below a f
  faulted_below (literal_power s a p n) f = le_trans (min-le_left _ _) (faulted_below a f)
  faulted_below (raise s a p b) f = le_trans (faulted_below b _) (le_trans (min-le_left _ _) (faulted_below a f))

  -- nor above what is noted of any node.
  faulted-itself : (t : Tree) (f : ℕ) → f ≤ no_fault → faulted w t f ≤ own w t
  unfolding faulted
  faulted-itself (number s p v) f h = min-le_right _ _
  faulted-itself (variable s) f h = h
  faulted-itself (sum s a b) f h = le_trans (faulted_below (sum s a b) f) h
  faulted-itself (difference s a b) f h = le_trans (faulted_below (difference s a b) f) h
  faulted-itself (product s a b) f h = le_trans (faulted_below (product s a b) f) h
  faulted-itself (minus s a) f h = le_trans (faulted_below (minus s a) f) h
  faulted-itself (literal_power s a p n) f h = min-le_right _ _
  faulted-itself (raise s a p b) f h = le_trans (faulted_below b _) (min-le_right _ _)

  faulted_least : {u t : Tree} → Part u t → (f : ℕ) → f ≤ no_fault → faulted w t f ≤ own w u
  unfolding faulted
  faulted_least {u} itself f h = faulted-itself u f h
  faulted_least (sum_left {b = b} k) f h = le_trans (faulted_below b _) (faulted_least k f h)
  faulted_least (sum-right {a = a} k) f h = faulted_least k _ (le_trans (faulted_below a f) h)
  faulted_least (difference-left {b = b} k) f h = le_trans (faulted_below b _) (faulted_least k f h)
  faulted_least (difference-right {a = a} k) f h = faulted_least k _ (le_trans (faulted_below a f) h)
  faulted_least (product-left {b = b} k) f h = le_trans (faulted_below b _) (faulted_least k f h)
  faulted_least (product-right {a = a} k) f h = faulted_least k _ (le_trans (faulted_below a f) h)
  faulted_least (under-minus k) f h = faulted_least k f h
  faulted_least (under-power k) f h = le_trans (min-le_left _ _) (faulted_least k f h)
  faulted_least (in_base {b = b} k) f h = le_trans (faulted_below b _) (le_trans (min-le_left _ _) (faulted_least k f h))
  faulted_least (in_exponent {a = a} k) f h = faulted_least k _ (le_trans (min-le_left _ _) (le_trans (faulted_below a f) h))

-- ---- the code of a tree
abbrev noted : ℕ → Tree → ℕ
noted w t = faulted w t no_fault

-- A base of which no fault is noted.
good : (a : Tree) (p : ℕ) → fault_code 8 p < base_fault (holds_x a) (parity a) p → (holds_x a ≡ false) × (parity a ≡ 1)
good a p = go (holds_x a) (eqb (parity a) 0) refl refl
  where
    go : (x even : Bool) → holds_x a ≡ x → eqb (parity a) 0 ≡ even → fault_code 8 p < cond (x || even) (fault_code 8 p) no_fault
        → (holds_x a ≡ false) × (parity a ≡ 1)
    go true even i j h = absurd (lt_irrefl (fault_code 8 p) h)
    go false true i j h = absurd (lt_irrefl (fault_code 8 p) h)
    go false false i j h = (i, omega (arith, parity_small a, eqb-false (parity a) 0 j))

literal_over : (w p n : ℕ) → 64 < n → literal_fault w p n ≤ fault_code 6 (suc p)
literal_over w p n over = go (ltb n (2 ^ w))
  where
    go : (t : Bool) → cond t (cond (leb n 64) no_fault (fault_code 6 (p + 1))) (fault_code 5 (p + 1)) ≤ fault_code 6 (suc p)
    go true = rw (lt-leb n 64 over) (omega arith)
    go false = omega arith

-- A code below `no_fault` is that of a fault.
abbrev Coded : ℕ → List ℕ → ℕ → Type 0
Coded w s c = c < no_fault → (n : ℕ) × (p : ℕ) × Fault w s n p × (c ≡ fault_code n p)

nothing : (w : ℕ) (s : List ℕ) → Coded w s no_fault
nothing w s small = absurd (lt_irrefl no_fault small)

known : {w : ℕ} {s : List ℕ} {c n p : ℕ} → Fault w s n p → c ≡ fault_code n p → Coded w s c
known {n = n} {p} F e small = (n, p, F, e)

module _ (w : ℕ) (pos : 0 < w) {s : List ℕ} {t : Tree} (M : Formula s t) where
  -- Every node of the one tree that the text means is noted.
  below : {r u : Tree} → Formula s r → Part u r → noted w t ≤ own w u
  below {u = u} N k = faulted_least w (subst (Part u) (unambiguous N M) k) no_fault (le_refl no_fault)

  -- A base is judged by its value's parity where no fault further left is noted.
  base_parity : {m : Span} {a b : Tree} {p : ℕ} → Part (raise m a p b) t → fault_code 8 p ≤ noted w t → holds_x a ≡ false → value_for w 0 a % 2 ≡ parity a
  base_parity {a = a} k least none = parity-noted w 0 pos a none (λ m c d q l. (good c q (inner m c d q l)).1)
    where
      inner : (m : Span) (c d : Tree) (q : ℕ) → Part (raise m c q d) a → fault_code 8 q < base_fault (holds_x c) (parity c) q
      inner m c d q l = lt_of_lt_of_le (omega (arith, base_left M k l)) (below M (part_of (in_base l) k))

  even_noted : {m : Span} {a b : Tree} {p : ℕ} → Part (raise m a p b) t → value_for w 0 a % 2 ≡ 0 → noted w t ≤ fault_code 8 p
  even_noted {a = a} {p = p} k even = go (leb (noted w t) (fault_code 8 p)) refl
    where
      go : (h : Bool) → leb (noted w t) (fault_code 8 p) ≡ h → noted w t ≤ fault_code 8 p
      go true e = leb-true (noted w t) (fault_code 8 p) e
      go false e =
          let h = leb-false (noted w t) (fault_code 8 p) e in
          let g = good a p (lt_of_lt_of_le h (below M k)) in
          absurd (omega (arith, base_parity k (le_of_lt h) g.0, g.1))

  within : {r u : Tree} (c : ℕ) → Formula s r → Part u r → own w u ≤ c → code w t ≤ c
  within c N k h = le_trans (min-le_left (noted w t) _) (le_trans (below N k) h)

  pub code_least : {m q : ℕ} → Fault w s m q → 5 ≤ m → code w t ≤ fault_code m q
  code_least (too_long h) low = absurd (omega arith)
  code_least (too_deep h) low = absurd (omega arith)
  code_least (not-grammar h) low = absurd (omega arith)
  code_least (number-over {p = p} {v} N k h) low = within (fault_code 5 p) N k (rw (le-ltb v (2 ^ w) h) (le_refl (fault_code 5 p)))
  code_least (exponent-number-over {p = p} {n} N k h) low = within (fault_code 5 (suc p)) N k (rw (le-ltb n (2 ^ w) h) (omega arith))
  code_least (exponent-over {p = p} {n} N k h) low = within (fault_code 6 (suc p)) N k (literal_over w p n h)
  code_least (too_many N h) low =
      le_trans (min-le_right (noted w t) _) (rw (lt-ltb most_nodes (nodes t) (subst (λ u. most_nodes < nodes u) (unambiguous N M) h)) (le_refl (fault_code 7 0)))
  code_least (x_in_base {p = p} N k h) low = within (fault_code 8 p) N k (rw h (le_refl (fault_code 8 p)))
  code_least (even_base {k = m} {a = a} {b} {p} N k h) low =
      le_trans (min-le_left (noted w t) _) (even_noted (subst (Part (raise m a p b)) (unambiguous N M) k) h)

  -- What is noted of a node, and then of the tree, is a fault's code. Of a base this holds where it is the least.
  number_coded : {m : Span} {p v : ℕ} → Part (number m p v) t → Coded w s (number_fault w p v)
  number_coded {p = p} {v} k = go (ltb v (2 ^ w)) refl
    where
      go : (h : Bool) → ltb v (2 ^ w) ≡ h → Coded w s (cond h no_fault (fault_code 5 p))
      go true e = nothing w s
      go false e = known (number-over M k (ltb-false v (2 ^ w) e)) refl

  literal_coded : {m : Span} {a : Tree} {p n : ℕ} → Part (literal_power m a p n) t → Coded w s (literal_fault w p n)
  literal_coded {p = p} {n} k = go (ltb n (2 ^ w)) (leb n 64) refl refl
    where
      go : (h l : Bool) → ltb n (2 ^ w) ≡ h → leb n 64 ≡ l → Coded w s (cond h (cond l no_fault (fault_code 6 (p + 1))) (fault_code 5 (p + 1)))
      go true true e i = nothing w s
      go true false e i = known (exponent-over M k (leb-false n 64 i)) (omega arith)
      go false l e i = known (exponent-number-over M k (ltb-false n (2 ^ w) e)) (omega arith)

  base_coded : {m : Span} {a b : Tree} {p : ℕ} → Part (raise m a p b) t → noted w t ≡ base_fault (holds_x a) (parity a) p
      → Coded w s (base_fault (holds_x a) (parity a) p)
  base_coded {a = a} {p = p} k = go (holds_x a) (eqb (parity a) 0) refl refl
    where
      go : (x even : Bool) → holds_x a ≡ x → eqb (parity a) 0 ≡ even → noted w t ≡ cond (x || even) (fault_code 8 p) no_fault
          → Coded w s (cond (x || even) (fault_code 8 p) no_fault)
      go true even i j e = known (x_in_base M k i) refl
      go false true i j e = known (even_base M k (base_parity k (omega arith) i ∙ eqb-true (parity a) 0 j)) refl
      go false false i j e = nothing w s

  node_coded : (u : Tree) → Part u t → noted w t ≡ own w u → Coded w s (own w u)
  node_coded (number m p v) k e = number_coded k
  node_coded (variable m) k e = nothing w s
  node_coded (sum m a b) k e = nothing w s
  node_coded (difference m a b) k e = nothing w s
  node_coded (product m a b) k e = nothing w s
  node_coded (minus m a) k e = nothing w s
  node_coded (literal_power m a p n) k e = literal_coded k
  node_coded (raise m a p b) k e = base_coded k e

  count_coded : Coded w s (cond (ltb most_nodes (nodes t)) (fault_code 7 0) no_fault)
  count_coded = go (ltb most_nodes (nodes t)) refl
    where
      go : (h : Bool) → ltb most_nodes (nodes t) ≡ h → Coded w s (cond h (fault_code 7 0) no_fault)
      go true e = known (too_many M (ltb-true most_nodes (nodes t) e)) refl
      go false e = nothing w s

  coded : Coded w s (code w t)
  coded =
      lesser (Coded w s) (noted w t) (cond (ltb most_nodes (nodes t)) (fault_code 7 0) no_fault)
      (faulted_one w (λ c. noted w t ≡ c → Coded w s c) t no_fault (λ e. nothing w s) node_coded refl) count_coded

-- ---- refused and accepted by the code
-- In a text that is not too long, a fault's place and number are small enough for its code.
fault_small : {w : ℕ} {s : List ℕ} {m q : ℕ} → length s ≤ 1024 → Fault w s m q → (m ≤ 8) × (q ≤ 1024)
fault_small short (too_long h) = (omega arith, omega arith)
fault_small short (too_deep h) = (omega arith, omega (arith, h.inside))
fault_small short (not-grammar h) = (omega arith, omega (arith, h.within))
fault_small short (number-over M k h) = (omega arith, omega (arith, placed-inside M k number-placed))
fault_small short (exponent-number-over M k h) = (omega arith, omega (arith, literal_inside M k))
fault_small short (exponent-over M k h) = (omega arith, omega (arith, literal_inside M k))
fault_small short (too_many M h) = (omega arith, omega arith)
fault_small short (x_in_base M k h) = (omega arith, omega (arith, raise-inside M k))
fault_small short (even_base M k h) = (omega arith, omega (arith, raise-inside M k))

first_code : (c m q : ℕ) → c ≤ fault_code m q → q ≤ 1024 → (c / 2048 < m) ⊎ ((c / 2048 ≡ m) × (c % 2048 ≤ q))
first_code c m q least small = go (ltb (c / 2048) m) refl
  where
    go : (b : Bool) → ltb (c / 2048) m ≡ b → (c / 2048 < m) ⊎ ((c / 2048 ≡ m) × (c % 2048 ≤ q))
    go true e = inl (ltb-true (c / 2048) m e)
    go false e = let k = ltb-false (c / 2048) m e in inr (omega arith, omega arith)

module _ (w : ℕ) (pos : 0 < w) (s : List ℕ) (t : Tree) (M : Formula s t) (short : length s ≤ 1024) where
  pub code-applies : code w t < no_fault → Fault w s (code w t / 2048) (code w t % 2048)
  code-applies h = go (coded w pos M h)
    where
      go : (n : ℕ) × (p : ℕ) × Fault w s n p × (code w t ≡ fault_code n p) → Fault w s (code w t / 2048) (code w t % 2048)
      go (n, p, F, e) = let small = fault_small short F in subst₂ (Fault w s) (omega arith) (omega arith) F

  module _ (shallow : (p : ℕ) → TooDeep s p → ⊥) where
    -- It is 5 or more in a formula whose brackets are not too deep.
    pub late : {m q : ℕ} → Fault w s m q → 5 ≤ m
    late (too_long h) = omega arith
    late (too_deep {p} h) = absurd (shallow p h)
    late (not-grammar h) = absurd (h.outside t M)
    late (number-over N k h) = omega arith
    late (exponent-number-over N k h) = omega arith
    late (exponent-over N k h) = omega arith
    late (too_many N h) = omega arith
    late (x_in_base N k h) = omega arith
    late (even_base N k h) = omega arith

    pub tree-refused : code w t < no_fault → Refused w s (code w t / 2048) (code w t % 2048)
    tree-refused h = record {
      applies = code-applies h;
      first = λ m q F. first_code (code w t) m q (code_least w pos M F (late F)) (fault_small short F).1;
    }

    pub tree-accepted : no_fault ≤ code w t → Accepted w s t
    tree-accepted h = record {
      means = M;
      faultless = λ n p F. let small = fault_small short F in omega (arith, code_least w pos M F (late F));
    }
