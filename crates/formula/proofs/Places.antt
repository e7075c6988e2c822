-- Where the parts of a tree stand among its marks, whose places rise: inside the text, a base left of its ^, and each node has a byte.
use mathlib.Core.List.{List, [], ◌∷◌, ◌++◌}
use Prim.Native.Nat.{ℕ, suc, ◌+◌, ◌≤◌, ◌<◌}
use native.Mathlib.Nat.{le_trans}
use native.Mathlib.Omega.{arith}
use lib.ListN.{length, length-append}
use Rattle.formula.specs.Bytes.{open_bracket, close_bracket, star, plus_sign, minus_sign, caret}
use Rattle.formula.specs.Marks.{Mark, mark, marked}
use Rattle.formula.specs.Tree.{Span, Tree, number, variable, sum, difference, product, minus, literal_power, raise, nodes}
use Rattle.formula.specs.Grammar.{Number, nought, digits, Sort, an_atom, Means, one_product, joined_by_plus, joined_by_minus, one_factor, joined_by_star, only_power, leading_minus, only_atom, to_a_number, to_a_sum, a_number, an_x, bracketed_sum, Formula}
use Rattle.formula.specs.Refusals.{Part, itself, sum_left, sum-right, difference-left, difference-right, product-left, product-right, under-minus, under-power, in_base, in_exponent}
use Rattle.formula.proofs.TextMarks.{marked-length, Rising, next-mark, rising_within, rising_upto, rising_parts, marked_rises}

-- ---- nodes and bytes
join_fits : {a b : ℕ} (s r : List Mark) (c : Mark) → a ≤ length s → b ≤ length r → a + b + 1 ≤ length (s ++ c ∷ r)
join_fits s r c p q = simp length-append (omega arith)

number_fits : {ds : List ℕ} {v : ℕ} → Number ds v → 1 ≤ length ds
number_fits nought = omega arith
number_fits (digits low high rest) = omega arith

pub nodes_fit : {sort : Sort} {s : List Mark} {t : Tree} → Means sort s t → nodes t ≤ length s
unfolding nodes
nodes_fit (one_product M) = nodes_fit M
nodes_fit (joined_by_plus p {s} {r} M N) = join_fits s r (mark p plus_sign) (nodes_fit M) (nodes_fit N)
nodes_fit (joined_by_minus p {s} {r} M N) = join_fits s r (mark p minus_sign) (nodes_fit M) (nodes_fit N)
nodes_fit (one_factor M) = nodes_fit M
nodes_fit (joined_by_star p {s} {r} M N) = join_fits s r (mark p star) (nodes_fit M) (nodes_fit N)
nodes_fit (only_power M) = nodes_fit M
nodes_fit (leading_minus M) = omega (arith, nodes_fit M)
nodes_fit (only_atom M) = nodes_fit M
nodes_fit (to_a_number p first M N) = simp length-append (omega (arith, nodes_fit M))
nodes_fit (to_a_sum p opens closes M N) = simp length-append (omega (arith, nodes_fit M, nodes_fit N))
nodes_fit (a_number {p} {ds} N) = omega (arith, number_fits N, marked-length p ds)
nodes_fit an_x = omega arith
nodes_fit (bracketed_sum closes M) = simp length-append (omega (arith, nodes_fit M))

some_node : (t : Tree) → 1 ≤ nodes t
unfolding nodes
some_node (number s p v) = omega arith
some_node (variable s) = omega arith
some_node (sum s a b) = omega arith
some_node (difference s a b) = omega arith
some_node (product s a b) = omega arith
some_node (minus s a) = omega arith
some_node (literal_power s a p n) = omega arith
some_node (raise s a p b) = omega arith

pub some_byte : {sort : Sort} {s : List Mark} {t : Tree} → Means sort s t → 1 ≤ length s
some_byte {t = t} M = le_trans (some_node t) (nodes_fit M)

-- ---- `Made at end u`: u, as the grammar made it of marks whose places rise from `at` on and are below `end`
data Made (at end : ℕ) : Tree → Type 0 where
  a_number_made : {k : Span} {p v : ℕ} → at ≤ p → p < end → Made at end (number k p v)
  an_x_made : {k : Span} → Made at end (variable k)
  a_sum_made : {k : Span} {a b : Tree} → Made at end (sum k a b)
  a_difference_made : {k : Span} {a b : Tree} → Made at end (difference k a b)
  a_product_made : {k : Span} {a b : Tree} → Made at end (product k a b)
  a_minus_made : {k : Span} {a : Tree} → Made at end (minus k a)
  a_power_made : {k : Span} {p n : ℕ} {s : List Mark} {a : Tree} → Means an_atom s a → Rising at p s → suc p < end → Made at end (literal_power k a p n)
  a_raise_made : {k : Span} {p : ℕ} {s : List Mark} {a b : Tree} → Means an_atom s a → Rising at p s → suc p < end → Made at end (raise k a p b)

wider : {at from end upto : ℕ} {u : Tree} → at ≤ from → upto ≤ end → Made from upto u → Made at end u
wider low high (a_number_made p q) = a_number_made (le_trans low p) (le_trans q high)
wider low high an_x_made = an_x_made
wider low high a_sum_made = a_sum_made
wider low high a_difference_made = a_difference_made
wider low high a_product_made = a_product_made
wider low high a_minus_made = a_minus_made
wider low high (a_power_made {p = p} M R h) = a_power_made {p = p} M (rising_within low (omega arith) R) (le_trans h high)
wider low high (a_raise_made {p = p} M R h) = a_raise_made {p = p} M (rising_within low (omega arith) R) (le_trans h high)

left : {at end p : ℕ} (s : List Mark) (c : ℕ) (r : List Mark) {u : Tree} → Rising at end (s ++ mark p c ∷ r) → Made at p u → Made at end u
left s c r R m = wider (omega arith) (omega (arith, rising_upto (rising_parts s c r R).1)) m

right : {at end p : ℕ} (s : List Mark) (c : ℕ) (r : List Mark) {u : Tree} → Rising at end (s ++ mark p c ∷ r) → Made (suc p) end u → Made at end u
right s c r R m = wider (omega (arith, rising_upto (rising_parts s c r R).0)) (omega arith) m

-- A number's place is that of its first digit.
number_at : {at end p v : ℕ} {ds : List ℕ} → Number ds v → Rising at end (marked p ds) → (at ≤ p) × (p < end)
unfolding marked
number_at nought (next-mark h R) = (h, rising_upto R)
number_at (digits low high rest) (next-mark h R) = (h, rising_upto R)

-- A power's place is behind its base, and one more place is behind that.
power_at : {k : Span} {at end upto p n : ℕ} {s : List Mark} {a : Tree} → Means an_atom s a → Rising at upto s → upto ≤ p → suc p < end
    → Made at end (literal_power k a p n)
power_at {p = p} M R behind h = a_power_made {p = p} M (rising_within (omega arith) behind R) h

-- The base of a raise and its exponent, between brackets.
raise_parts : {at end p opens closes : ℕ} (s r : List Mark)
    → Rising at end (s ++ mark p caret ∷ mark opens open_bracket ∷ r ++ mark closes close_bracket ∷ [])
    → Rising at p s × Rising (suc opens) closes r × (p < opens) × (closes < end)
raise_parts {p = p} {opens} s r R =
    let (within, closing) = rising_parts (s ++ mark p caret ∷ mark opens open_bracket ∷ r) close_bracket [] R in
    let (base, behind) = rising_parts s caret (mark opens open_bracket ∷ r) within in
    let (opening, exponent) = rising_parts [] open_bracket r behind in
    (base, exponent, rising_upto opening, rising_upto closing)

stands : {sort : Sort} {at end : ℕ} {s : List Mark} {t u : Tree} → Means sort s t → Rising at end s → Part u t → Made at end u
stands (one_product M) R q = stands M R q
stands (joined_by_plus p M N) R itself = a_sum_made
stands (joined_by_plus p {s} {r} M N) R (sum_left q) = left s plus_sign r R (stands M (rising_parts s plus_sign r R).0 q)
stands (joined_by_plus p {s} {r} M N) R (sum-right q) = right s plus_sign r R (stands N (rising_parts s plus_sign r R).1 q)
stands (joined_by_minus p M N) R itself = a_difference_made
stands (joined_by_minus p {s} {r} M N) R (difference-left q) = left s minus_sign r R (stands M (rising_parts s minus_sign r R).0 q)
stands (joined_by_minus p {s} {r} M N) R (difference-right q) = right s minus_sign r R (stands N (rising_parts s minus_sign r R).1 q)
stands (one_factor M) R q = stands M R q
stands (joined_by_star p M N) R itself = a_product_made
stands (joined_by_star p {s} {r} M N) R (product-left q) = left s star r R (stands M (rising_parts s star r R).0 q)
stands (joined_by_star p {s} {r} M N) R (product-right q) = right s star r R (stands N (rising_parts s star r R).1 q)
stands (only_power M) R q = stands M R q
stands (leading_minus M) R itself = a_minus_made
stands (leading_minus {s = s} M) R (under-minus q) = right [] minus_sign s R (stands M (rising_parts [] minus_sign s R).1 q)
stands (only_atom M) R q = stands M R q
stands (to_a_number p first {s} {ds} M N) R itself =
    let (before, behind) = rising_parts s caret (marked first ds) R in
    let (from, upto) = number_at N behind in
    power_at M before (omega arith) (omega arith)
stands (to_a_number p first {s} {ds} M N) R (under-power q) =
    left s caret (marked first ds) R (stands M (rising_parts s caret (marked first ds) R).0 q)
stands (to_a_sum p opens closes {s} {r} M N) R itself =
    let (base, exponent, opening, closing) = raise_parts s r R in
    a_raise_made M base (omega (arith, rising_upto exponent))
stands (to_a_sum p opens closes {s} {r} M N) R (in_base q) =
    let (base, exponent, opening, closing) = raise_parts s r R in
    wider (omega arith) (omega (arith, rising_upto exponent)) (stands M base q)
stands (to_a_sum p opens closes {s} {r} M N) R (in_exponent q) =
    let (base, exponent, opening, closing) = raise_parts s r R in
    wider (omega (arith, rising_upto base)) (omega arith) (stands N exponent q)
stands (a_number N) R itself = let (from, upto) = number_at N R in a_number_made from upto
stands an_x R itself = an_x_made
stands (bracketed_sum {opens} closes {s} M) R q =
    let (within, closing) = rising_parts (mark opens open_bracket ∷ s) close_bracket [] R in
    let (opening, inner) = rising_parts [] open_bracket s within in
    wider (omega (arith, rising_upto opening)) (omega (arith, rising_upto closing)) (stands M inner q)

-- ---- the place that a node knows
pub data Placed : Tree → ℕ → Type 0 where
  number-placed : {k : Span} {p v : ℕ} → Placed (number k p v) p
  power-placed : {k : Span} {a : Tree} {p n : ℕ} → Placed (literal_power k a p n) p
  raise-placed : {k : Span} {a b : Tree} {p : ℕ} → Placed (raise k a p b) p

own-place : {u : Tree} {p at end : ℕ} → Placed u p → Made at end u → p < end
own-place number-placed (a_number_made low high) = high
own-place power-placed (a_power_made M R h) = omega arith
own-place raise-placed (a_raise_made M R h) = omega arith

-- The parts of a text's tree, as the grammar made them.
made : {s : List ℕ} {t u : Tree} → Formula s t → Part u t → Made 0 (length s) u
made {s} F q = stands F.as_a_sum (marked_rises 0 s (omega arith)) q

pub placed-inside : {p : ℕ} {s : List ℕ} {t u : Tree} → Formula s t → Part u t → Placed u p → p < length s
placed-inside F q k = own-place k (made F q)

pub raise-inside : {k : Span} {p : ℕ} {s : List ℕ} {t a b : Tree} → Formula s t → Part (raise k a p b) t → p < length s
raise-inside F q = placed-inside F q raise-placed

-- A literal exponent's first digit stands right after its ^.
pub literal_inside : {k : Span} {p n : ℕ} {s : List ℕ} {t a : Tree} → Formula s t → Part (literal_power k a p n) t → suc p < length s
literal_inside F q = go (made F q)
  where
    go : {k : Span} {at end p n : ℕ} {a : Tree} → Made at end (literal_power k a p n) → suc p < end
    go (a_power_made M R h) = h

-- What stands in the base of a ^ stands left of it.
pub base_placed-left : {k : Span} {s : List ℕ} {t a b u : Tree} {p q : ℕ} → Formula s t → Part (raise k a p b) t → Part u a → Placed u q → q < p
base_placed-left F k l h = go (made F k) l h
  where
    go : {k : Span} {at end p q : ℕ} {a b u : Tree} → Made at end (raise k a p b) → Part u a → Placed u q → q < p
    go (a_raise_made M R h) l k = own-place k (stands M R l)

pub base_left : {k m : Span} {s : List ℕ} {t a b c d : Tree} {p q : ℕ} → Formula s t → Part (raise k a p b) t → Part (raise m c q d) a → q < p
base_left F k l = base_placed-left F k l raise-placed
