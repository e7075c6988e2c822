-- The plan of a well_formed tree with nested spans is sound: each row keeps the table of rows, given the rows before it, and came from some text.
use mathlib.Core.Path.{◌≡◌, refl, ap, ap₂, subst, ◌∙◌}
use mathlib.Core.Bool.{true, cond, ◌&&◌}
use mathlib.Core.List.{List, [], ◌∷◌, ◌++◌}
use Prim.Native.Nat.{ℕ, zero, suc, ◌+◌, ◌-◌, ◌*◌, ◌%◌, ◌≤◌, ◌<◌}
use native.Mathlib.Nat.{not-suc-le-zero, le_of_suc-le-suc}
use native.Mathlib.Omega.{arith}
use lib.Dec.{leb, ltb}
use lib.ListN.{length, get_or, take, drop, replicate, length-append}
use lib.Seq.{drop-nil, get_or_at}
use borrow.Author.Tests.{lt-ltb, le-ltb, le-leb, eq-eqb}
use Rattle.plan.specs.Measures.{element_count, longest_text, plan_length, row_length, rows_length, most_rows}
use Rattle.chain.specs.Chain as Chain
use Rattle.formula.specs.Tree.{Span, first, end}
use Rattle.plan.specs.Row.{Row, kind_facts, between, all_zero, odd_constant, sound_span, sound_row}
use Rattle.plan.specs.Plan as Plan
use Rattle.plan.specs.Plan.{sound_from}
use Rattle.plan.proofs.RowLaws.{sound-append}
use Rattle.fold.specs.Folded.{Spans, Folded, constant, sum_chain, product_chain, sum_row, difference_row, product_row, minus_row, power_row, raise_row}
use Rattle.fold.specs.Folding.{word_of}
use Rattle.fold.specs.Layout.{row_count, row_words, root_row, behind_both, rows_from, plan_words}
use Rattle.fold.proofs.Shape.{Fits, OddBase, WellFormed}
use Rattle.fold.proofs.Tests.{shaped}
use Rattle.fold.proofs.Nesting.{Within, Beside, Nested, nested_some}
use Rattle.fold.proofs.ReadBack.{row-elements, first_back, end_back, rows_of, some_rows, length-plan, rows_back, zeros_back}

-- ---- each row is sound, given the rows before it
-- A row holds 0 past the elements of its chain.
zeros_past : (m : ℕ) (f : List ℕ) (n : ℕ) → length f ≤ n → all_zero (drop n (Chain.row m f)) ≡ true
unfolding all_zero Chain.row
zeros_past zero f n h = ap all_zero (drop-nil n)
zeros_past (suc m) [] zero h = zeros_past m [] zero h
zeros_past (suc m) [] (suc n) h = zeros_past m [] n (omega arith)
zeros_past (suc m) (a ∷ f) zero h = absurd (not-suc-le-zero h)
zeros_past (suc m) (a ∷ f) (suc n) h = zeros_past m f n (le_of_suc-le-suc h)

-- A row whose span is of some text, and ends within the longest one.
pub record Readable (whole : Span) : Type 0 where
  pub some : first whole < end whole
  pub short : end whole ≤ longest_text

module _ (whole : Span) (readable : Readable whole) where
  span-sound : (kind a b : ℕ) (f : List ℕ) → sound_span (row_words kind a b f whole) ≡ true
  span-sound kind a b f =
      ap₂ (λ x y. ltb x y && leb y longest_text) (first_back kind a b f whole) (end_back kind a b f whole)
      ∙ ap₂ ◌&&◌ (lt-ltb (first whole) (end whole) readable.some) (le-leb (end whole) longest_text readable.short)

  module _ (earlier : List Row) where
    constant-sound : (c : ℕ) → sound_row earlier (row_words 0 0 0 (c ∷ []) whole) ≡ true
    unfolding kind_facts all_zero Chain.row
    constant-sound c = span-sound 0 0 0 (c ∷ [])

    module _ (w : ℕ) (f : List ℕ) (fits : Fits w f) where
      chain_fits : (between 1 16 (length f - 1)
          && all_zero (drop (length f - 1 + 1) (take element_count (Chain.row element_count f ++ first whole ∷ end whole ∷ [])))) ≡ true
      chain_fits =
          ap₂ ◌&&◌
          (ap₂ ◌&&◌ (le-leb 1 (length f - 1) (omega (arith, fits.least))) (le-leb (length f - 1) 16 (omega (arith, fits.most))))
          (ap (λ g. all_zero (drop (length f - 1 + 1) g)) (row-elements f (first whole ∷ end whole ∷ []))
          ∙ zeros_past element_count f (length f - 1 + 1) (omega arith))

      sum-sound : sound_row earlier (row_words 1 (length f - 1) 0 f whole) ≡ true
      unfolding kind_facts
      sum-sound = ap₂ ◌&&◌ chain_fits (span-sound 1 (length f - 1) 0 f)

      product-sound : sound_row earlier (row_words 2 (length f - 1) 0 f whole) ≡ true
      unfolding kind_facts
      product-sound = ap₂ ◌&&◌ chain_fits (span-sound 2 (length f - 1) 0 f)

    module _ (a : ℕ) (before : a < length earlier) where
      minus-sound : sound_row earlier (row_words 6 a 0 [] whole) ≡ true
      unfolding kind_facts all_zero Chain.row
      minus-sound = ap₂ (λ x y. x && true && y) (lt-ltb a (length earlier) before) (span-sound 6 a 0 [])

      power-sound : (n : ℕ) → 2 ≤ n → n ≤ 64 → sound_row earlier (row_words 7 a n [] whole) ≡ true
      unfolding kind_facts all_zero Chain.row
      power-sound n least most =
          ap₂ ◌&&◌
          (ap₂ (λ x y. x && (y && true)) (lt-ltb a (length earlier) before) (ap₂ ◌&&◌ (le-leb 2 n least) (le-leb n 64 most)))
          (span-sound 7 a n [])

      module _ (b : ℕ) (also : b < length earlier) where
        both_earlier : (ltb a (length earlier) && (ltb b (length earlier) && true)) ≡ true
        both_earlier = ap₂ (λ x y. x && (y && true)) (lt-ltb a (length earlier) before) (lt-ltb b (length earlier) also)

        sum-row-sound : sound_row earlier (row_words 3 a b [] whole) ≡ true
        unfolding kind_facts all_zero Chain.row
        sum-row-sound = ap₂ ◌&&◌ both_earlier (span-sound 3 a b [])

        difference-row-sound : sound_row earlier (row_words 4 a b [] whole) ≡ true
        unfolding kind_facts all_zero Chain.row
        difference-row-sound = ap₂ ◌&&◌ both_earlier (span-sound 4 a b [])

        product-row-sound : sound_row earlier (row_words 5 a b [] whole) ≡ true
        unfolding kind_facts all_zero Chain.row
        product-row-sound = ap₂ ◌&&◌ both_earlier (span-sound 5 a b [])

        raise-row-sound : odd_constant (get_or earlier a []) ≡ true → sound_row earlier (row_words 8 a b [] whole) ≡ true
        unfolding kind_facts all_zero Chain.row
        raise-row-sound odd = ap₂ ◌&&◌ both_earlier (ap₂ ◌&&◌ odd (span-sound 8 a b []))

-- ---- the rows of a well_formed tree, behind any earlier rows
sound-joined : (earlier f g : List Row) → sound_from earlier f ≡ true → sound_from (earlier ++ f) g ≡ true → sound_from earlier (f ++ g) ≡ true
sound-joined earlier f g p q = sound-append earlier f g ∙ ap₂ ◌&&◌ p q

sound-behind : (earlier f : List Row) (row : Row) → sound_from earlier f ≡ true → sound_row (earlier ++ f) row ≡ true
    → sound_from earlier (f ++ row ∷ []) ≡ true
unfolding sound_from
sound-behind earlier f row p q = sound-joined earlier f (row ∷ []) p (ap (λ x. x && true) q)

-- The rows of operands stand before the operator's row, and a constant's one row is where it begins.
module _ (earlier : List Row) (s : Span) (a : Folded) where
  abbrev first_row : ℕ
  first_row = length earlier

  abbrev left_rows : List Row
  left_rows = rows_from first_row s a

  length-left : length (earlier ++ left_rows) ≡ first_row + row_count a
  length-left = length-append earlier left_rows ∙ ap (λ k. first_row + k) (rows_of first_row s a).count

  one_earlier : root_row first_row a < length (earlier ++ left_rows)
  one_earlier = rw length-left (omega (arith, some_rows a))

module _ (earlier : List Row) (s : Spans) (a b : Folded) where
  abbrev right_rows : List Row
  right_rows = rows_from (length earlier + row_count a) s.right b

  abbrev rows_before : List Row
  rows_before = earlier ++ (left_rows earlier s.left a ++ right_rows)

  length_before : length rows_before ≡ length earlier + (row_count a + row_count b)
  length_before =
      length-append earlier (left_rows earlier s.left a ++ right_rows)
      ∙ ap (λ k. length earlier + k)
      (length-append (left_rows earlier s.left a) right_rows
      ∙ ap₂ ◌+◌ (rows_of (length earlier) s.left a).count (rows_of (length earlier + row_count a) s.right b).count)

  left_earlier : root_row (length earlier) a < length rows_before
  left_earlier = rw length_before (omega (arith, some_rows a))

  right_earlier : root_row (length earlier + row_count a) b < length rows_before
  right_earlier = rw length_before (omega (arith, some_rows b))

  sound-both : (kind : ℕ) (whole : Span) → sound_from earlier (left_rows earlier s.left a) ≡ true
      → ((rows : List Row) → sound_from rows (rows_from (length rows) s.right b) ≡ true)
      → sound_row rows_before (row_words kind (root_row (length earlier) a) (root_row (length earlier + row_count a) b) [] whole) ≡ true
      → sound_from earlier (behind_both (length earlier) kind whole a b (left_rows earlier s.left a) right_rows) ≡ true
  sound-both kind whole p q here =
      sound-behind earlier (left_rows earlier s.left a ++ right_rows) _
      (sound-joined earlier (left_rows earlier s.left a) right_rows p
      (subst (λ k. sound_from (earlier ++ left_rows earlier s.left a) (rows_from k s.right b) ≡ true) (length-left earlier s.left a)
      (q (earlier ++ left_rows earlier s.left a))))
      here

  base_row_odd : OddBase a → odd_constant (get_or rows_before (root_row (length earlier) a) []) ≡ true
  unfolding rows_from row_count Chain.row
  base_row_odd base =
      ap (λ c. odd_constant (get_or (earlier ++ (rows_from (length earlier) s.left c ++ right_rows)) (root_row (length earlier) c) []))
      ((shaped a).constantly base.known)
      ∙ ap (λ row. odd_constant row) (get_or_at earlier (row_words 0 0 0 (word_of a ∷ []) s.left) right_rows [] (length earlier + 1 - 1) alone)
      ∙ eq-eqb (word_of a % 2) 1 base.odd
    where
      alone : length earlier ≡ length earlier + 1 - 1
      alone = omega arith

-- The span of a nested tree that ends within the longest text, and those of its operands.
readable : (whole : Span) (a : Folded) → Nested whole a → end whole ≤ longest_text → Readable whole
readable whole a h short = record { some = nested_some whole a h; short = short }

left-short : {whole : Span} (s : Spans) (b : Folded) → Beside whole s → Nested s.right b → end whole ≤ longest_text → end s.left ≤ longest_text
left-short s b h k short = omega (arith, h.apart, h.upto, nested_some s.right b k)

right-short : {whole : Span} (s : Spans) → Beside whole s → end whole ≤ longest_text → end s.right ≤ longest_text
right-short s h short = omega (arith, h.upto)

inner_short : {s whole : Span} → Within s whole → end whole ≤ longest_text → end s ≤ longest_text
inner_short h short = omega (arith, h.upto)

rows-sound : (w : ℕ) (whole : Span) (a : Folded) → WellFormed w a → Nested whole a → end whole ≤ longest_text → (earlier : List Row)
    → sound_from earlier (rows_from (length earlier) whole a) ≡ true
unfolding WellFormed Nested rows_from sound_from
rows-sound w whole (constant c) h k short earlier =
    ap (λ x. x && true) (constant-sound whole (record { some = k; short = short }) earlier c)
rows-sound w whole (sum_chain f) h k short earlier =
    ap (λ x. x && true) (sum-sound whole (record { some = k; short = short }) earlier w f h)
rows-sound w whole (product_chain f) h k short earlier =
    ap (λ x. x && true) (product-sound whole (record { some = k; short = short }) earlier w f h)
rows-sound w whole (sum_row s a b) h k short earlier =
    sound-both earlier s a b 3 whole (rows-sound w s.left a h.0 k.1 (left-short s b k.0 k.2 short) earlier)
    (rows-sound w s.right b h.1 k.2 (right-short s k.0 short))
    (sum-row-sound whole (readable whole (sum_row s a b) k short) (rows_before earlier s a b) _ (left_earlier earlier s a b) _ (right_earlier earlier s a b))
rows-sound w whole (difference_row s a b) h k short earlier =
    sound-both earlier s a b 4 whole (rows-sound w s.left a h.0 k.1 (left-short s b k.0 k.2 short) earlier)
    (rows-sound w s.right b h.1 k.2 (right-short s k.0 short))
    (difference-row-sound whole (readable whole (difference_row s a b) k short) (rows_before earlier s a b) _ (left_earlier earlier s a b) _ (right_earlier earlier s a b))
rows-sound w whole (product_row s a b) h k short earlier =
    sound-both earlier s a b 5 whole (rows-sound w s.left a h.0 k.1 (left-short s b k.0 k.2 short) earlier)
    (rows-sound w s.right b h.1 k.2 (right-short s k.0 short))
    (product-row-sound whole (readable whole (product_row s a b) k short) (rows_before earlier s a b) _ (left_earlier earlier s a b) _ (right_earlier earlier s a b))
rows-sound w whole (minus_row s a) h k short earlier =
    sound-behind earlier (left_rows earlier s a) _ (rows-sound w s a h k.1 (inner_short k.0 short) earlier)
    (minus-sound whole (readable whole (minus_row s a) k short) (earlier ++ left_rows earlier s a) _ (one_earlier earlier s a))
rows-sound w whole (power_row s a n) h k short earlier =
    sound-behind earlier (left_rows earlier s a) _ (rows-sound w s a h.2 k.1 (inner_short k.0 short) earlier)
    (power-sound whole (readable whole (power_row s a n) k short) (earlier ++ left_rows earlier s a) _ (one_earlier earlier s a) n h.0 h.1)
rows-sound w whole (raise_row s a b) h k short earlier =
    sound-both earlier s a b 8 whole (rows-sound w s.left a h.1 k.1 (left-short s b k.0 k.2 short) earlier)
    (rows-sound w s.right b h.2 k.2 (right-short s k.0 short))
    (raise-row-sound whole (readable whole (raise_row s a b) k short) (rows_before earlier s a b) _ (left_earlier earlier s a b) _ (right_earlier earlier s a b)
    (base_row_odd earlier s a b h.0))

-- ---- the whole plan, whatever follows its 2,817 words
zeros_sound : (n : ℕ) → all_zero (replicate n 0) ≡ true
unfolding all_zero
zeros_sound zero = refl
zeros_sound (suc n) = zeros_sound n

module _ (w : ℕ) (whole : Span) (a : Folded) (h : WellFormed w a) (nested : Nested whole a) (short : end whole ≤ longest_text) (few : row_count a ≤ most_rows)
    (rest : List ℕ) where
  pub plan-sound : Plan.sound (plan_words whole a ++ rest) ≡ true
  unfolding Plan.sound
  plan-sound =
      ap₂ (λ x y. x && (sound_from [] (Plan.rows (plan_words whole a ++ rest)) && all_zero y))
      (ap₂ ◌&&◌ (le-leb 1 (row_count a) (some_rows a)) (le-leb (row_count a) most_rows few)) (zeros_back whole a rest few)
      ∙ ap₂ ◌&&◌ (ap (λ f. sound_from [] f) (rows_back whole a rest) ∙ rows-sound w whole a h nested short []) (zeros_sound (rows_length - row_length * row_count a))

  pub plan-accepted : Plan.refusal (plan_words whole a ++ rest) ≡ 0
  plan-accepted =
      ap₂ (λ x y. cond x 1 (cond y 0 9)) (le-ltb (length (plan_words whole a ++ rest)) plan_length long) plan-sound
    where
      long : plan_length ≤ length (plan_words whole a ++ rest)
      long = rw (length-append (plan_words whole a) rest, length-plan whole a few) (omega arith)
