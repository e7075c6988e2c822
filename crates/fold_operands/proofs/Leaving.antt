-- What an operator leaves in the place of its operands: one row, an operand that stays or moves down, or the operator's row behind them.
use mathlib.Core.Path.{◌≡◌, refl, sym, ap, ap₂, subst, ◌∙◌}
use mathlib.Core.Bool.{true, cond}
use mathlib.Core.Logic.{◌⊎◌, inl, inr}
use mathlib.Core.List.{List, [], ◌∷◌, ◌++◌}
use Prim.Native.Nat.{ℕ, suc, ◌+◌, ◌-◌, ◌≤◌, ◌<◌}
use native.Mathlib.Omega.{arith}
use lib.Dec.{eqb}
use lib.ListN.{length, set}
use Rattle.plan.specs.Measures.{plan_length, row_start, most_rows}
use Rattle.chain.specs.Answer.{ChainAnswer}
use Rattle.chain.specs.Chain.{trimmed, row}
use Rattle.chain.specs.Answer.{answered, chain}
use Rattle.chain.proofs.Trimming.{length-trimmed_some}
use Rattle.plan.specs.Plan as Plan
use Rattle.formula.specs.Tree.{Span}
use Rattle.fold.specs.Folded.{Spans, Folded, constant, sum_row, difference_row, product_row, minus_row, power_row, raise_row, of_sum, of_product, trimmed_sum}
use Rattle.fold.specs.Folding.{is}
use Rattle.fold.specs.Layout.{row_count, row_words}
use Rattle.fold.proofs.Shape.{WellFormed}
use Rattle.fold_rows.specs.Standing.{with_row, Stands, placed, with_span, no_span, moved_down}
use Rattle.fold_rows.proofs.Stood.{sum-placed, placed_again, placed-stands, placed-over, room_left, span-placed, moved-placed}
use Rattle.fold_rows.proofs.Stood.{minus-placed, power-placed, sum-row-placed, difference-row-placed, product-row-placed, raise-row-placed}
use Rattle.fold_operands.specs.Operands.{Operand, Operands, Left}
use Rattle.fold_operands.proofs.OperandLaws.{is_the_constant, operand_some}

-- The rule says what is left.
pub left_as : {p q : List ℕ} {n end : ℕ} {f g : Folded} → f ≡ g → Left p n g end q → Left p n f end q
left_as {p} {q} {n} {end} e l = subst (λ f. Left p n f end q) (sym e) l

-- A tree that is put there is an operand.
pub placed-operand : (p : List ℕ) {q : List ℕ} {n end : ℕ} {whole : Span} {f : Folded} → row_start n ≤ length p → WellFormed 64 f → q ≡ placed p n whole f
    → end ≡ n + row_count f → Operand q n end whole f
placed-operand p {n = n} {whole = whole} {f = f} room formed words behind = record {
  stands = subst (λ q. Stands q n whole f) (sym words) (placed-stands p n whole f room);
  behind = behind;
  formed = formed;
}

-- What is left is an operand again.
pub left-operand : {p q : List ℕ} {n end : ℕ} {f : Folded} → row_start n ≤ length p → WellFormed 64 f → (l : Left p n f end q)
    → Operand q n end l.under f
left-operand {p} room formed l = placed-operand p room formed l.words l.behind

-- An operand that stays where it stands.
pub operand-left : {p : List ℕ} {first end : ℕ} {s : Span} {a : Folded} → Operand p first end s a → Left p first a end p
operand-left {p} {first = first} {s = s} {a = a} o = record {
  under = s;
  words = sym (placed_again p first s a o.stands);
  behind = o.behind;
}

-- ---- a span put into the root's row of an operand, and of what an operator leaves: it stands under that span
pub operand-spanned : {p q : List ℕ} {first end : ℕ} {s : Span} {a : Folded} → row_start first ≤ length p → Operand p first end s a → (whole : Span)
    → q ≡ with_row p (end - 1) (with_span (Plan.row p (end - 1)) whole) → Operand q first end whole a
operand-spanned {p} {first = first} {end = end} {s = s} {a = a} room o whole put =
    placed-operand p room o.formed (put ∙ span-placed p first end s whole a room o.behind o.stands) o.behind

pub left-spanned : {p q q' : List ℕ} {n end : ℕ} {f : Folded} → row_start n ≤ length p → Left p n f end q → (whole : Span)
    → q' ≡ with_row q (end - 1) (with_span (Plan.row q (end - 1)) whole) → q' ≡ placed p n whole f
left-spanned {p} {q} {n = n} {end = end} {f = f} room l whole put =
    put
    ∙ ap (λ q. with_row q (end - 1) (with_span (Plan.row q (end - 1)) whole)) l.words
    ∙ span-placed (placed p n l.under f) n end l.under whole f (room_left p n l.under f room) l.behind (placed-stands p n l.under f room)
    ∙ placed-over p n l.under f room whole f (omega arith)

-- ---- one row
one_sum-row : (t : List ℕ) → row_count (of_sum t) ≡ 1
unfolding row_count
one_sum-row [] = refl
one_sum-row (a ∷ []) = refl
one_sum-row (a ∷ b ∷ t) = refl

one_product-row : (t : List ℕ) → row_count (of_product t) ≡ 1
unfolding row_count
one_product-row [] = refl
one_product-row (a ∷ []) = refl
one_product-row (a ∷ b ∷ t) = refl

pub sum_left : {p q : List ℕ} {n : ℕ} (t : List ℕ) → q ≡ placed p n no_span (of_sum t) → Left p n (of_sum t) (n + 1) q
sum_left {n = n} t e = record { under = no_span; words = e; behind = ap (λ k. n + k) (sym (one_sum-row t)) }

pub product-left : {p q : List ℕ} {n : ℕ} (t : List ℕ) → q ≡ placed p n no_span (of_product t) → Left p n (of_product t) (n + 1) q
product-left {n = n} t e = record { under = no_span; words = e; behind = ap (λ k. n + k) (sym (one_product-row t)) }

-- The row of a constant, and that of a chain's answer.
pub constant-put : (p : List ℕ) (r c : ℕ) {e q : List ℕ} → e ≡ row 17 [] → q ≡ with_row p r (0 ∷ 0 ∷ 0 ∷ set e 0 c ++ 0 ∷ 0 ∷ [])
    → q ≡ placed p r no_span (constant c)
unfolding row
constant-put p r c he hq = hq ∙ ap (λ e. with_row p r (0 ∷ 0 ∷ 0 ∷ set e 0 c ++ 0 ∷ 0 ∷ [])) he ∙ sum-placed p r (c ∷ []) (omega arith)

pub answer-put : (p : List ℕ) (n : ℕ) (f : List ℕ) {answer : ChainAnswer} {q : List ℕ} → answer ≡ answered (chain (trimmed 0 f))
    → q ≡ with_row p n (cond (eqb answer.length 0) 0 1 ∷ answer.length ∷ 0 ∷ answer.elements ++ 0 ∷ 0 ∷ [])
    → q ≡ placed p n no_span (trimmed_sum f)
answer-put p n f ha hq =
    hq
    ∙ ap (λ (r : ChainAnswer). with_row p n (cond (eqb r.length 0) 0 1 ∷ r.length ∷ 0 ∷ r.elements ++ 0 ∷ 0 ∷ [])) ha
    ∙ sum-placed p n (trimmed 0 f) (length-trimmed_some 0 f)

-- ---- one operand: "Anything else stays a row of the plan."
module _ {p : List ℕ} {first end : ℕ} {s : Span} {a : Folded} (o : Operand p first end s a) where
  pub room_of_one : plan_length ≤ length p → end < most_rows → row_start first ≤ length p
  room_of_one long few = omega (arith, operand_some o)

  module _ (room : row_start first ≤ length p) {q : List ℕ} where
    pub minus-row-left : q ≡ with_row p end (row_words 6 (end - 1) 0 [] no_span) → Left p first (minus_row s a) (end + 1) q
    unfolding row_count
    minus-row-left put = record {
      under = no_span;
      words = put ∙ minus-placed p first end s a room o.stands o.behind no_span;
      behind = omega (arith, o.behind);
    }

    pub power-row-left : (n : ℕ) → q ≡ with_row p end (row_words 7 (end - 1) n [] no_span) → Left p first (power_row s a n) (end + 1) q
    unfolding row_count
    power-row-left n put = record {
      under = no_span;
      words = put ∙ power-placed p first end s a room o.stands o.behind no_span n;
      behind = omega (arith, o.behind);
    }

-- ---- two operands
constant-row : (n : ℕ) (a : Folded) → is n a ≡ true → row_count a ≡ 1
constant-row n a e = ap row_count (is_the_constant n a e) ∙ one_sum-row (n ∷ [])

module _ {p : List ℕ} {left middle end : ℕ} {s : Spans} {a b : Folded} (o : Operands p left middle end s a b) where
  pub room_of_both : plan_length ≤ length p → end < most_rows → row_start left ≤ length p
  room_of_both long few = omega (arith, operand_some o.first, operand_some o.second)

  -- The right one is a constant that the rule drops: the left one stays.
  pub stays : (n : ℕ) → is n b ≡ true → Left p left a (end - 1) p
  stays n e = record {
    under = s.left;
    words = sym (placed_again p left s.left a o.first.stands);
    behind = omega (arith, o.first.behind, o.second.behind, constant-row n b e);
  }

  right-stands : Stands p (left + row_count a) s.right b
  right-stands = subst (λ m. Stands p m s.right b) o.first.behind o.second.stands

  place : end ≡ left + row_count a + row_count b
  place = omega (arith, o.first.behind, o.second.behind)

  module _ (room : row_start left ≤ length p) {q : List ℕ} where
    -- The left one is a constant that the rule drops: the right one moves down, and is an operand there under its own span.
    module _ (n : ℕ) (e : is n a ≡ true) (move : q ≡ moved_down middle (end - middle) p) where
      second-row : middle ≡ suc left
      second-row = omega (arith, o.first.behind, constant-row n a e)

      moved-words : q ≡ placed p left s.right b
      moved-words =
          move
          ∙ ap₂ (λ m k. moved_down m k p) second-row count
          ∙ moved-placed p left s.right b room (subst (λ m. Stands p m s.right b) second-row o.second.stands)
        where
          count : end - middle ≡ row_count b
          count = omega (arith, o.second.behind)

      moved-end : end - 1 ≡ left + row_count b
      moved-end = omega (arith, o.second.behind, second-row)

      pub moves : Left p left b (end - 1) q
      moves = record { under = s.right; words = moved-words; behind = moved-end }

      pub moved-operand : Operand q left (end - 1) s.right b
      moved-operand = placed-operand p room o.second.formed moved-words moved-end

    -- "Anything else stays a row of the plan."
    row-left : (k : ℕ) {f : Folded} → row_count f ≡ row_count a + row_count b + 1
        → with_row p end (row_words k (left + row_count a - 1) (end - 1) [] no_span) ≡ placed p left no_span f
        → q ≡ with_row p end (row_words k (middle - 1) (end - 1) [] no_span) → Left p left f (end + 1) q
    row-left k count there put = record {
      under = no_span;
      words = put ∙ ap (λ m. with_row p end (row_words k (m - 1) (end - 1) [] no_span)) o.first.behind ∙ there;
      behind = omega (arith, place, count);
    }

    pub sum-row-left : q ≡ with_row p end (row_words 3 (middle - 1) (end - 1) [] no_span) → Left p left (sum_row s a b) (end + 1) q
    unfolding row_count
    sum-row-left = row-left 3 refl (sum-row-placed p left end s a b room o.first.stands right-stands place no_span)

    pub difference-row-left : q ≡ with_row p end (row_words 4 (middle - 1) (end - 1) [] no_span) → Left p left (difference_row s a b) (end + 1) q
    unfolding row_count
    difference-row-left = row-left 4 refl (difference-row-placed p left end s a b room o.first.stands right-stands place no_span)

    pub product-row-left : q ≡ with_row p end (row_words 5 (middle - 1) (end - 1) [] no_span) → Left p left (product_row s a b) (end + 1) q
    unfolding row_count
    product-row-left = row-left 5 refl (product-row-placed p left end s a b room o.first.stands right-stands place no_span)

    pub raise-row-left : q ≡ with_row p end (row_words 8 (middle - 1) (end - 1) [] no_span) → Left p left (raise_row s a b) (end + 1) q
    unfolding row_count
    raise-row-left = row-left 8 refl (raise-row-placed p left end s a b room o.first.stands right-stands place no_span)

-- Two ways to one place.
pub either_way : {A B C D : Type 0} → A ⊎ B → (A → C) → (B → D) → C ⊎ D
either_way (inl a) f g = inl (f a)
either_way (inr b) f g = inr (g b)
