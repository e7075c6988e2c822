-- What soundness says of numbers: the words of a row that keeps the table, and each row of a sound plan.
use mathlib.Core.Path.{◌≡◌, refl, sym, ap, ap₂, subst, ◌∙◌}
use mathlib.Core.Bool.{Bool, true, false, cond, ◌&&◌, and-false, false≢true}
use mathlib.Core.List.{List, [], ◌∷◌, ◌++◌}
use Prim.Native.Nat.{ℕ, zero, suc, ◌+◌, ◌-◌, ◌*◌, ◌≤◌, ◌<◌}
use native.Mathlib.Nat.{add-zero}
use native.Mathlib.Omega.{arith}
use lib.Dec.{leb, ltb, eqb}
use lib.ListN.{length, get_or, drop}
use lib.Seq.{drop-drop, get_or_at}
use borrow.Author.Tests.{ltb-true, leb-true, eqb-true, eqb-false, eq-eqb}
use Rattle.plan.specs.Measures.{element_count, plan_length, row_length, most_rows, row_start}
use Rattle.plan.specs.declared.Kind.{Kind}
use Rattle.plan.specs.Row.{Row, kind, word_a, word_b, costing, kind_table, kind_facts, fixed_cost, operand_count, is_chain, row_cost, between, sound_a, sound_b, keeps_table, odd_constant, sound_base, sound_span, sound_row}
use Rattle.plan.specs.Plan.{row_count, row, rows_from, first_rows, rows, sound_from, sound}
use Rattle.plan.proofs.RowLaws.{row_at, length-row, word_at, rows-add, rows_next, length-rows, sound-append}

-- ---- both of two tests
pub and_left : (a b : Bool) → (a && b) ≡ true → a ≡ true
and_left true b e = refl
and_left false b e = e

pub and_right : (a b : Bool) → (a && b) ≡ true → b ≡ true
and_right true b e = e
and_right false b e = absurd (false≢true e)

-- One of two tests holds, the one that is asked for.
pub one_of : {P : Type 0} (asked a b : Bool) → cond asked a b ≡ true → (asked ≡ true → a ≡ true → P) → (asked ≡ false → b ≡ true → P) → P
one_of true a b e first second = first refl e
one_of false a b e first second = second refl e

within : (least greatest n : ℕ) → between least greatest n ≡ true → (least ≤ n) × (n ≤ greatest)
within least greatest n e =
    (leb-true least n (and_left (leb least n) (leb n greatest) e), leb-true n greatest (and_right (leb least n) (leb n greatest) e))

-- ---- the words of a row that keeps the table
pub a_small : (r k a : ℕ) → r ≤ most_rows → sound_a r k a ≡ true → a < most_rows
a_small r k a few e =
    one_of (is_chain k) (between 1 16 a) (cond (ltb 0 (operand_count k)) (ltb a r) (eqb a 0)) e
    (λ chain e. omega (arith, within 1 16 a e))
    (λ other e.
    one_of (ltb 0 (operand_count k)) (ltb a r) (eqb a 0) e (λ operator e. omega (arith, ltb-true a r e)) (λ none e. omega (arith, eqb-true a 0 e)))

b_small : (r k b : ℕ) → r ≤ most_rows → sound_b r k b ≡ true → b < most_rows
b_small r k b few e =
    one_of (eqb k 7) (between 2 64 b) (cond (eqb (operand_count k) 2) (ltb b r) (eqb b 0)) e
    (λ power e. omega (arith, within 2 64 b e))
    (λ other e.
    one_of (eqb (operand_count k) 2) (ltb b r) (eqb b 0) e (λ operator e. omega (arith, ltb-true b r e)) (λ none e. omega (arith, eqb-true b 0 e)))

chain-lengths : (r k a : ℕ) → is_chain k ≡ true → sound_a r k a ≡ true → (1 ≤ a) × (a ≤ 16)
chain-lengths r k a chain e = within 1 16 a (sym (ap (λ b. cond b (between 1 16 a) (cond (ltb 0 (operand_count k)) (ltb a r) (eqb a 0))) chain) ∙ e)

pub chain_length : (r k a : ℕ) → is_chain k ≡ true → sound_a r k a ≡ true → a ≤ 16
chain_length r k a chain e = (chain-lengths r k a chain e).1

-- The tests of the table, one by one.
module _ (r : ℕ) (row : Row) (kept : keeps_table r row ≡ true) where
  pub kept-kind : kind row < 9
  kept-kind = ltb-true (kind row) 9 (and_left (ltb (kind row) 9) _ kept)

  pub kept_a : sound_a r (kind row) (word_a row) ≡ true
  kept_a = and_left (sound_a r (kind row) (word_a row)) _ (and_right (ltb (kind row) 9) _ kept)

  pub kept_b : sound_b r (kind row) (word_b row) ≡ true
  kept_b =
      and_left (sound_b r (kind row) (word_b row)) _
      (and_right (sound_a r (kind row) (word_a row)) _ (and_right (ltb (kind row) 9) _ kept))

  pub kept-length : is_chain (kind row) ≡ true → word_a row ≤ 16
  kept-length chain = chain_length r (kind row) (word_a row) chain kept_a

  pub kept_some : is_chain (kind row) ≡ true → 1 ≤ word_a row
  kept_some chain = (chain-lengths r (kind row) (word_a row) chain kept_a).0

  pub kept-exponent : kind row ≡ 7 → 2 ≤ word_b row
  kept-exponent e =
      one_of (eqb (kind row) 7) (between 2 64 (word_b row)) (cond (eqb (operand_count (kind row)) 2) (ltb (word_b row) r) (eqb (word_b row) 0)) kept_b
      (λ power e. (within 2 64 (word_b row) e).0)
      (λ other _. absurd (eqb-false (kind row) 7 other e))

  pub kept_base : kind row ≡ 8 → word_a row < r
  unfolding kind_facts
  kept_base e = ltb-true (word_a row) r (subst (λ k. sound_a r k (word_a row) ≡ true) e kept_a)

  module _ (few : r ≤ most_rows) where
    pub kept_a_small : word_a row < most_rows
    kept_a_small = a_small r (kind row) (word_a row) few kept_a

    pub kept_b_small : word_b row < most_rows
    kept_b_small = b_small r (kind row) (word_b row) few kept_b

-- ---- no row costs more than 128
costs_at_most : ℕ → List Kind → Bool
costs_at_most most [] = true
costs_at_most most (k ∷ more) = leb k.cost most && costs_at_most most more

cost_at_most : (most : ℕ) (table : List Kind) → costs_at_most most table ≡ true → (k : ℕ) (d : Kind) → d.cost ≤ most → (get_or table k d).cost ≤ most
unfolding costs_at_most
cost_at_most most [] e k d h = h
cost_at_most most (x ∷ more) e zero d h = leb-true x.cost most (and_left (leb x.cost most) (costs_at_most most more) e)
cost_at_most most (x ∷ more) e (suc k) d h = cost_at_most most more (and_right (leb x.cost most) (costs_at_most most more) e) k d h

fixed_cost-most : (k : ℕ) → fixed_cost k ≤ 128
unfolding kind_facts costs_at_most
fixed_cost-most k = cost_at_most 128 kind_table refl k (costing 0 0) (omega arith)

row-cost-most : (r : ℕ) (row : Row) → r ≤ 128 → keeps_table r row ≡ true → row_cost row ≤ 128
row-cost-most r row few kept = most (is_chain (kind row)) (eqb (kind row) 7)
  where
    most : (chain power : Bool) → cond chain (word_a row) (cond power (word_b row - 1) (fixed_cost (kind row))) ≤ 128
    most true power = omega (arith, kept_a_small r row kept few)
    most false true = omega (arith, kept_b_small r row kept few)
    most false false = fixed_cost-most (kind row)

-- ---- the rows of a sound plan
pub sound-count : (p : List ℕ) → sound p ≡ true → (1 ≤ row_count p) × (row_count p ≤ most_rows)
unfolding sound
sound-count p e = within 1 most_rows (row_count p) (and_left (between 1 most_rows (row_count p)) _ e)

pub sound-rows : (p : List ℕ) → sound p ≡ true → sound_from [] (rows p) ≡ true
unfolding sound
sound-rows p e = and_left (sound_from [] (rows p)) _ (and_right (between 1 most_rows (row_count p)) _ e)

-- Row r of the first n rows, and whether they are all sound.
pub rows_split : (n r : ℕ) (p : List ℕ) → r < n
    → first_rows n p ≡ first_rows r p ++ row p r ∷ rows_from (n - suc r) (drop (row_length * suc r) (drop 1 p))
unfolding rows_from
rows_split n r p h =
    ap (λ k. first_rows k p) parts
    ∙ rows-add r (suc (n - suc r)) (drop 1 p)
    ∙ ap₂ (λ x f. first_rows r p ++ x ∷ rows_from (n - suc r) f) (sym (row_at p r)) (drop-drop row_length (row_length * r) (drop 1 p) ∙ ap (λ k. drop k (drop 1 p)) next)
  where
    parts : n ≡ r + suc (n - suc r)
    parts = omega arith

    next : row_length * r + row_length ≡ row_length * suc r
    next = omega arith

pub sound_split : (n r : ℕ) (p : List ℕ) → r < n
    → sound_from [] (first_rows n p)
    ≡ (sound_from [] (first_rows r p) && (sound_row (first_rows r p) (row p r)
    && sound_from (first_rows r p ++ row p r ∷ []) (rows_from (n - suc r) (drop (row_length * suc r) (drop 1 p)))))
unfolding sound_from
sound_split n r p h = ap (λ f. sound_from [] f) (rows_split n r p h) ∙ sound-append [] (first_rows r p) _

pub sound-row : (p : List ℕ) (r : ℕ) → sound p ≡ true → r < row_count p → sound_row (first_rows r p) (row p r) ≡ true
sound-row p r e h =
    and_left _ _ (and_right (sound_from [] (first_rows r p)) _ (sym (sound_split (row_count p) r p h) ∙ sound-rows p e))

pub sound_keeps : (p : List ℕ) (r : ℕ) → sound p ≡ true → r < row_count p → keeps_table r (row p r) ≡ true
sound_keeps p r e h =
    subst (λ n. keeps_table n (row p r) ≡ true) (length-rows r (drop 1 p)) (and_left (keeps_table (length (first_rows r p)) (row p r)) _ (sound-row p r e h))

-- ---- one row after the other, as the code judges them
pub kind_at : (p : List ℕ) (r : ℕ) → kind (row p r) ≡ get_or p (row_start r) 0
kind_at p r = word_at p r 0 (omega arith) ∙ ap (λ n. get_or p n 0) (add-zero (row_start r))

-- Row i of the first r rows.
pub earlier_row : (p : List ℕ) (r i : ℕ) → i < r → get_or (first_rows r p) i [] ≡ row p i
earlier_row p r i h =
    ap (λ f. get_or f i []) (rows_split r i p h)
    ∙ get_or_at (first_rows i p) (row p i) (rows_from (r - suc i) (drop (row_length * suc i) (drop 1 p))) [] i (length-rows i (drop 1 p))

module _ (p : List ℕ) (r : ℕ) where
  row-sound : sound_row (first_rows r p) (row p r) ≡ (keeps_table r (row p r) && (sound_base (first_rows r p) (row p r) && sound_span (row p r)))
  row-sound = ap (λ n. keeps_table n (row p r) && (sound_base (first_rows r p) (row p r) && sound_span (row p r))) (length-rows r (drop 1 p))

  pub table_broken : keeps_table r (row p r) ≡ false → sound_row (first_rows r p) (row p r) ≡ false
  table_broken e = row-sound ∙ ap (λ b. b && (sound_base (first_rows r p) (row p r) && sound_span (row p r))) e

  -- The row keeps the table: its base and its span are left to judge.
  module _ (kept : keeps_table r (row p r) ≡ true) where
    judged : sound_row (first_rows r p) (row p r) ≡ (sound_base (first_rows r p) (row p r) && sound_span (row p r))
    judged = row-sound ∙ ap (λ b. b && (sound_base (first_rows r p) (row p r) && sound_span (row p r))) kept

    pub base_broken : sound_base (first_rows r p) (row p r) ≡ false → sound_row (first_rows r p) (row p r) ≡ false
    base_broken e = judged ∙ ap (λ b. b && sound_span (row p r)) e

    pub span_left : sound_base (first_rows r p) (row p r) ≡ true → sound_row (first_rows r p) (row p r) ≡ sound_span (row p r)
    span_left e = judged ∙ ap (λ b. b && sound_span (row p r)) e

  -- The row as a part x of the plan.
  module _ {x : Row} (same : x ≡ row p r) where
    base_judged : (b : Bool) → eqb (kind x) 8 ≡ b
        → sound_base (first_rows r p) (row p r) ≡ cond b (odd_constant (get_or (first_rows r p) (word_a x) [])) true
    base_judged b e =
        ap (λ y. sound_base (first_rows r p) y) (sym same) ∙ ap (λ c. cond c (odd_constant (get_or (first_rows r p) (word_a x) [])) true) e

    module _ (kept : keeps_table r (row p r) ≡ true) (raise : kind x ≡ 8) where
      pub base_earlier : word_a x < r
      base_earlier = kept_base r x (ap (λ y. keeps_table r y) same ∙ kept) raise

      pub raise-sound : sound_base (first_rows r p) (row p r) ≡ odd_constant (row p (word_a x))
      raise-sound = base_judged true (eq-eqb (kind x) 8 raise) ∙ ap (λ y. odd_constant y) (earlier_row p r (word_a x) base_earlier)

  pub sound-next : sound_from [] (first_rows r p) ≡ true → sound_row (first_rows r p) (row p r) ≡ true → sound_from [] (first_rows (r + 1) p) ≡ true
  unfolding sound_from
  sound-next before here =
      ap (λ f. sound_from [] f) (rows_next r p)
      ∙ sound-append [] (first_rows r p) (row p r ∷ [])
      ∙ ap₂ (λ a b. a && (b && true)) before here

  pub sound-not : (n : ℕ) → r < n → sound_row (first_rows r p) (row p r) ≡ false → sound_from [] (first_rows n p) ≡ false
  sound-not n h here =
      sound_split n r p h
      ∙ ap (λ b. sound_from [] (first_rows r p) && (b && sound_from (first_rows r p ++ row p r ∷ []) (rows_from (n - suc r) (drop (row_length * suc r) (drop 1 p))))) here
      ∙ and-false (sound_from [] (first_rows r p))

-- ---- row r of a sound plan, as a part of it
pub record RowFacts (x : Row) : Type 0 where
  pub words : length x ≡ row_length
  pub known : kind x < 9
  pub exponent : kind x ≡ 7 → 1 ≤ word_b x
  pub chain : is_chain (kind x) ≡ true → word_a x < element_count
  pub a_few : word_a x < most_rows
  pub b_few : word_b x < most_rows
  pub cost : row_cost x ≤ 128

pub row_facts : (p : List ℕ) (r : ℕ) → plan_length ≤ length p → sound p ≡ true → r < row_count p → {x : Row} → x ≡ row p r → RowFacts x
row_facts p r long e h same = subst RowFacts (sym same) record {
  words = length-row p r few long;
  known = kept-kind r (row p r) keeps;
  exponent = λ k. omega (arith, kept-exponent r (row p r) keeps k);
  chain = λ k. omega (arith, kept-length r (row p r) keeps k);
  a_few = kept_a_small r (row p r) keeps (omega (arith, few));
  b_few = kept_b_small r (row p r) keeps (omega (arith, few));
  cost = row-cost-most r (row p r) (omega (arith, few)) keeps;
}
  where
    few : r < most_rows
    few = omega (arith, sound-count p e)

    keeps : keeps_table r (row p r) ≡ true
    keeps = sound_keeps p r e h
