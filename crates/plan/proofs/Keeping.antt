-- Shifting keeps a plan's length, soundness, cost and refusal. None of these laws asks for a sound plan, or for a long one.
use mathlib.Core.Path.{◌≡◌, refl, sym, ap, ap₂, ◌∙◌}
use mathlib.Core.Bool.{Bool, true, false, cond, ◌&&◌, ◌||◌, true≢false}
use mathlib.Core.List.{List, [], ◌∷◌, ◌++◌, map, map-append, append_assoc}
use Prim.Native.Nat.{ℕ, zero, suc, ◌+◌, ◌-◌, ◌*◌, ◌%◌, ◌^◌, ◌≤◌, ◌<◌}
use native.Mathlib.Nat.{zero-add, suc-add, suc_inj, suc-ne-zero, add_comm}
use native.Mathlib.Omega.{arith}
use lib.Dec.{eqb, ltb, leb}
use lib.ListN.{length, get_or, take, drop, length-map, length-append, take-append-drop, get_or-map}
use lib.Seq.{slice, take-add, take-take, drop-drop, get_or-take, get_or-drop, length_front}
use borrow.Author.Tests.{eqb-true}
use Rattle.plan.specs.Measures.{elements_start, element_count, span_start, longest_text, plan_length, row_length, most_rows, row_start}
use Rattle.chain.specs.Chain.{shift, words}
use Rattle.chain.specs.SumChain.{sum_shift}
use Rattle.chain.specs.ProductChain.{product_shift}
use Rattle.chain.proofs.Shifting.{length_shift}
use Rattle.plan.specs.Row.{Row, kind, word_a, word_b, elements, first_element, is_chain, row_cost, elements_used}
use Rattle.plan.specs.Row.{between, all_zero, keeps_table, odd_constant, sound_base, sound_span, sound_row}
use Rattle.plan.specs.Plan.{row_count, row, rows_from, rows, sound_from, sound, cost_of, cost, refusal}
use Rattle.plan.specs.Points.{with_chain, chain_of, shifted_row, shifted_from, shifted_plan}
use Rattle.plan.specs.Filling.{plan_after}
use Rattle.plan.proofs.RowLaws.{part, part_put, slice-part, part-put, row-part, row_at}
use Rattle.plan.proofs.SoundLaws.{earlier_row}

-- ---- two lists as long as the parts of a third: put together they are cut at the same place
pub take_front : (n : ℕ) (l e g : List ℕ) → length e ≡ length (take n l) → length g ≡ length (drop n l) → take n (e ++ g) ≡ e
take_front zero l [] g h k = refl
take_front zero l (x ∷ e) g h k = absurd (suc-ne-zero (length e) h)
take_front (suc n) [] [] [] h k = refl
take_front (suc n) [] [] (x ∷ g) h k = absurd (suc-ne-zero (length g) k)
take_front (suc n) [] (x ∷ e) g h k = absurd (suc-ne-zero (length e) h)
take_front (suc n) (y ∷ l) [] g h k = absurd (suc-ne-zero (length (take n l)) (sym h))
take_front (suc n) (y ∷ l) (x ∷ e) g h k = ap {B = List ℕ} (λ r. x ∷ r) (take_front n l e g (suc_inj h) k)

pub drop_front : (n : ℕ) (l e g : List ℕ) → length e ≡ length (take n l) → length g ≡ length (drop n l) → drop n (e ++ g) ≡ g
drop_front zero l [] g h k = refl
drop_front zero l (x ∷ e) g h k = absurd (suc-ne-zero (length e) h)
drop_front (suc n) [] [] [] h k = refl
drop_front (suc n) [] [] (x ∷ g) h k = absurd (suc-ne-zero (length g) k)
drop_front (suc n) [] (x ∷ e) g h k = absurd (suc-ne-zero (length e) h)
drop_front (suc n) (y ∷ l) [] g h k = absurd (suc-ne-zero (length (take n l)) (sym h))
drop_front (suc n) (y ∷ l) (x ∷ e) g h k = drop_front n l e g (suc_inj h) k

-- The words after the first n, cut at a later place.
cut : (n m : ℕ) (l : List ℕ) → n ≤ m → drop n l ≡ drop n (take m l) ++ drop m l
cut zero m l h = sym (take-append-drop m l)
cut (suc n) zero l h = absurd (omega arith)
cut (suc n) (suc m) [] h = refl
cut (suc n) (suc m) (a ∷ l) h = cut n m l (omega arith)

-- ---- one row
-- The elements that a chain's row uses, as the code lends them and puts them back.
chain-end : (row : Row) → elements_start + (1 + word_a row) - elements_start ≡ 1 + word_a row
chain-end row = omega arith

chain-part : (row : Row) → word_a row < element_count → part elements_start (elements_start + (1 + word_a row)) row ≡ chain_of row
chain-part row h =
    ap (λ n. take n (drop elements_start row)) (chain-end row)
    ∙ sym (take-take (1 + word_a row) element_count (drop elements_start row) (omega arith))

chain-put : (row : Row) (f : List ℕ) → word_a row < element_count
    → part_put elements_start (elements_start + (1 + word_a row)) row f ≡ with_chain row f
chain-put row f h =
    ap (λ n. take elements_start row ++ (f ++ drop n (drop elements_start row))) (chain-end row)
    ∙ ap (λ g. take elements_start row ++ g) (ap (λ g. f ++ g) behind ∙ sym (append_assoc f _ _))
  where
    behind : drop (1 + word_a row) (drop elements_start row) ≡ drop (1 + word_a row) (elements row) ++ drop (elements_start + element_count) row
    behind =
        cut (1 + word_a row) element_count (drop elements_start row) (omega arith)
        ∙ ap (λ g. drop (1 + word_a row) (elements row) ++ g) (drop-drop element_count elements_start row)

-- A row with its chain shifted, by + or by *: what comes before the elements, after the chain and after the elements stays in its place.
module _ (◌⊙◌ : ℕ → ℕ → ℕ) (w : ℕ) (row : Row) where
  chain : List ℕ
  chain = words w (shift ◌⊙◌ (chain_of row))

  length-chain : length chain ≡ length (chain_of row)
  unfolding chain
  length-chain = length-map (shift ◌⊙◌ (chain_of row)) (λ a. a % 2 ^ w) ∙ length_shift ◌⊙◌ (chain_of row)

  new : List ℕ
  new = chain ++ drop (1 + word_a row) (elements row)

  rest : List ℕ
  rest = drop (elements_start + element_count) row

  length_new : length new ≡ length (elements row)
  unfolding new
  length_new = length_front (elements row) chain (1 + word_a row) length-chain

  rest-behind : rest ≡ drop element_count (drop elements_start row)
  unfolding rest
  rest-behind = sym (drop-drop element_count elements_start row)

  length-behind : length (new ++ rest) ≡ length (drop elements_start row)
  length-behind =
      length-append new rest
      ∙ ap₂ ◌+◌ length_new (ap length rest-behind)
      ∙ sym (length-append (elements row) (drop element_count (drop elements_start row)))
      ∙ ap length (take-append-drop element_count (drop elements_start row))

  first : take elements_start (with_chain row chain) ≡ take elements_start row
  unfolding new rest
  first = take_front elements_start row (take elements_start row) (new ++ rest) refl length-behind

  behind-first : drop elements_start (with_chain row chain) ≡ new ++ rest
  unfolding new rest
  behind-first = drop_front elements_start row (take elements_start row) (new ++ rest) refl length-behind

  later : elements (with_chain row chain) ≡ new
  later =
      ap (λ f. take element_count f) behind-first
      ∙ take_front element_count (drop elements_start row) new rest length_new (ap length rest-behind)

  -- The words of the span, and whatever else came behind the elements.
  span : drop span_start (with_chain row chain) ≡ drop span_start row
  unfolding rest
  span =
      sym (drop-drop element_count elements_start (with_chain row chain))
      ∙ ap (λ f. drop element_count f) behind-first
      ∙ drop_front element_count (drop elements_start row) new rest length_new (ap length rest-behind)

  past : drop (1 + word_a row) (elements (with_chain row chain)) ≡ drop (1 + word_a row) (elements row)
  unfolding new
  past =
      ap (λ f. drop (1 + word_a row) f) later
      ∙ drop_front (1 + word_a row) (elements row) chain (drop (1 + word_a row) (elements row)) length-chain refl

  long : length (with_chain row chain) ≡ length row
  unfolding new rest
  long =
      length-append (take elements_start row) (new ++ rest)
      ∙ ap (λ n. length (take elements_start row) + n) length-behind
      ∙ sym (length-append (take elements_start row) (drop elements_start row))
      ∙ ap length (take-append-drop elements_start row)

-- What a shift makes of a row, by its kind.
pub shifted_sum : (w : ℕ) (row : Row) → kind row ≡ 1 → shifted_row w row ≡ with_chain row (words w (sum_shift (chain_of row)))
unfolding shifted_row
shifted_sum w row e = rw e

pub shifted_product : (w : ℕ) (row : Row) → kind row ≡ 2 → shifted_row w row ≡ with_chain row (words w (product_shift (chain_of row)))
unfolding shifted_row
shifted_product w row e = rw e

-- The chain as the code shifts it, lent as a part of the row.
abbrev pub chain_end : Row → ℕ
chain_end row = elements_start + (1 + word_a row)

pub sum-put : (w : ℕ) (row : Row) {f : List ℕ} → kind row ≡ 1 → word_a row < element_count
    → f ≡ words w (sum_shift (part elements_start (chain_end row) row)) → part_put elements_start (chain_end row) row f ≡ shifted_row w row
sum-put w row {f} k h e =
    chain-put row f h ∙ ap (with_chain row) (e ∙ ap (λ g. words w (sum_shift g)) (chain-part row h)) ∙ sym (shifted_sum w row k)

pub product-put : (w : ℕ) (row : Row) {f : List ℕ} → kind row ≡ 2 → word_a row < element_count
    → f ≡ words w (product_shift (part elements_start (chain_end row) row)) → part_put elements_start (chain_end row) row f ≡ shifted_row w row
product-put w row {f} k h e =
    chain-put row f h ∙ ap (with_chain row) (e ∙ ap (λ g. words w (product_shift g)) (chain-part row h)) ∙ sym (shifted_product w row k)

pub shifted_other : (w : ℕ) (row : Row) → is_chain (kind row) ≡ false → shifted_row w row ≡ row
unfolding shifted_row
shifted_other w row e = other (eqb (kind row) 1) (eqb (kind row) 2) _ _ e
  where
    other : (b c : Bool) (x y : Row) {z : Row} → (b || c) ≡ false → cond b x (cond c y z) ≡ z
    other true c x y h = absurd (true≢false h)
    other false true x y h = absurd (true≢false h)
    other false false x y h = refl

-- What holds of both chains shifted and of the row as it stands holds of the row shifted.
by_kind : (P : Row → Type 0) (w : ℕ) (row : Row)
    → (kind row ≡ 1 → P (with_chain row (chain ◌+◌ w row))) → (kind row ≡ 2 → P (with_chain row (chain ◌*◌ w row))) → P row → P (shifted_row w row)
unfolding shifted_row chain
by_kind P w row sum product same =
    split (eqb (kind row) 1) (eqb (kind row) 2) (λ e. sum (eqb-true (kind row) 1 e)) (λ e. product (eqb-true (kind row) 2 e)) same
  where
    split : (b c : Bool) {x y z : Row} → (b ≡ true → P x) → (c ≡ true → P y) → P z → P (cond b x (cond c y z))
    split true c f g h = f refl
    split false true f g h = g refl
    split false false f g h = h

-- Length, the three words before the elements, the words past the elements used and the span stay.
pub length-shifted : (w : ℕ) (row : Row) → length (shifted_row w row) ≡ length row
length-shifted w row = by_kind (λ x. length x ≡ length row) w row (λ _. long ◌+◌ w row) (λ _. long ◌*◌ w row) refl

pub first-shifted : (w : ℕ) (row : Row) → take elements_start (shifted_row w row) ≡ take elements_start row
first-shifted w row = by_kind (λ x. take elements_start x ≡ take elements_start row) w row (λ _. first ◌+◌ w row) (λ _. first ◌*◌ w row) refl

entry_shifted : (w : ℕ) (row : Row) (i : ℕ) → i < elements_start → get_or (shifted_row w row) i 0 ≡ get_or row i 0
entry_shifted w row i h =
    sym (get_or-take elements_start (shifted_row w row) i 0 h) ∙ ap (λ f. get_or f i 0) (first-shifted w row) ∙ get_or-take elements_start row i 0 h

pub kind-shifted : (w : ℕ) (row : Row) → kind (shifted_row w row) ≡ kind row
kind-shifted w row = entry_shifted w row 0 (omega arith)

pub a_shifted : (w : ℕ) (row : Row) → word_a (shifted_row w row) ≡ word_a row
a_shifted w row = entry_shifted w row 1 (omega arith)

pub b_shifted : (w : ℕ) (row : Row) → word_b (shifted_row w row) ≡ word_b row
b_shifted w row = entry_shifted w row 2 (omega arith)

pub span-shifted : (w : ℕ) (row : Row) → drop span_start (shifted_row w row) ≡ drop span_start row
span-shifted w row = by_kind (λ x. drop span_start x ≡ drop span_start row) w row (λ _. span ◌+◌ w row) (λ _. span ◌*◌ w row) refl

-- Word j of the span.
abbrev pub span_word : ℕ → Row → ℕ
span_word j row = get_or row (span_start + j) 0

pub span-word : (w j : ℕ) (row : Row) → span_word j (shifted_row w row) ≡ span_word j row
span-word w j row =
    sym (get_or-drop span_start (shifted_row w row) j 0) ∙ ap (λ f. get_or f j 0) (span-shifted w row) ∙ get_or-drop span_start row j 0

pub past-shifted : (w : ℕ) (row : Row)
    → drop (elements_used (kind row) (word_a row)) (elements (shifted_row w row)) ≡ drop (elements_used (kind row) (word_a row)) (elements row)
past-shifted w row =
    by_kind (λ x. drop (elements_used (kind row) (word_a row)) (elements x) ≡ drop (elements_used (kind row) (word_a row)) (elements row)) w row
    (λ e. rw (e, add_comm (word_a row) 1) (past ◌+◌ w row)) (λ e. rw (e, add_comm (word_a row) 1) (past ◌*◌ w row)) refl

-- The chain of a sum chain's row, shifted.
pub chain-shifted : (w : ℕ) (row : Row) → kind row ≡ 1 → chain_of (shifted_row w row) ≡ words w (sum_shift (chain_of row))
unfolding chain new
chain-shifted w row e =
    ap₂ (λ n f. take (1 + n) f) (a_shifted w row) (ap (λ x. elements x) (shifted_sum w row e) ∙ later ◌+◌ w row)
    ∙ take_front (1 + word_a row) (elements row) (chain ◌+◌ w row) (drop (1 + word_a row) (elements row)) (length-chain ◌+◌ w row) refl

-- ---- the rows of a plan
pub length_from : (w n : ℕ) (f : List ℕ) → length (shifted_from w n f) ≡ length f
unfolding shifted_from
length_from w zero f = refl
length_from w (suc n) f =
    length-append (shifted_row w (take row_length f)) (shifted_from w n (drop row_length f))
    ∙ ap₂ ◌+◌ (length-shifted w (take row_length f)) (length_from w n (drop row_length f))
    ∙ sym (length-append (take row_length f) (drop row_length f))
    ∙ ap length (take-append-drop row_length f)

-- Row 0 of shifted rows is row 0 shifted, and after it come the later rows shifted.
row_front : (w n : ℕ) (f : List ℕ) → take row_length (shifted_from w (suc n) f) ≡ shifted_row w (take row_length f)
unfolding shifted_from
row_front w n f =
    take_front row_length f (shifted_row w (take row_length f)) (shifted_from w n (drop row_length f)) (length-shifted w (take row_length f)) (length_from w n (drop row_length f))

row_later : (w n : ℕ) (f : List ℕ) → drop row_length (shifted_from w (suc n) f) ≡ shifted_from w n (drop row_length f)
unfolding shifted_from
row_later w n f =
    drop_front row_length f (shifted_row w (take row_length f)) (shifted_from w n (drop row_length f)) (length-shifted w (take row_length f)) (length_from w n (drop row_length f))

pub rows-shifted : (w n : ℕ) (f : List ℕ) → rows_from n (shifted_from w n f) ≡ map (shifted_row w) (rows_from n f)
unfolding rows_from
rows-shifted w zero f = refl
rows-shifted w (suc n) f =
    ap₂ {C = List Row} ◌∷◌ (row_front w n f) (ap (rows_from n) (row_later w n f) ∙ rows-shifted w n (drop row_length f))

-- One row more.
turns : (n : ℕ) → row_length * suc n ≡ row_length + row_length * n
turns n = omega arith

-- The words after n rows shifted stay.
pub past-rows : (w n : ℕ) (f : List ℕ) → drop (row_length * n) (shifted_from w n f) ≡ drop (row_length * n) f
unfolding shifted_from
past-rows w zero f = refl
past-rows w (suc n) f =
    ap (λ k. drop k (shifted_from w (suc n) f)) (turns n)
    ∙ sym (drop-drop (row_length * n) row_length (shifted_from w (suc n) f))
    ∙ ap (drop (row_length * n)) (row_later w n f)
    ∙ past-rows w n (drop row_length f)
    ∙ drop-drop (row_length * n) row_length f
    ∙ ap (λ k. drop k f) (sym (turns n))

-- n rows shifted and then m more.
pub from-add : (w n m : ℕ) (f : List ℕ) → shifted_from w (n + m) f ≡ take (row_length * n) (shifted_from w n f) ++ shifted_from w m (drop (row_length * n) f)
unfolding shifted_from
from-add w zero m f = rw (zero-add m)
from-add w (suc n) m f =
    ap (λ k. shifted_from w k f) (suc-add n m)
    ∙ ap (λ g. shifted_row w (take row_length f) ++ g) (from-add w n m (drop row_length f))
    ∙ sym (append_assoc (shifted_row w (take row_length f)) (take (row_length * n) (shifted_from w n (drop row_length f))) (shifted_from w m (drop (row_length * n) (drop row_length f))))
    ∙ ap₂ ◌++◌ (sym front) (ap (shifted_from w m) (drop-drop (row_length * n) row_length f ∙ ap (λ k. drop k f) (sym (turns n))))
  where
    front : take (row_length * suc n) (shifted_from w (suc n) f) ≡ shifted_row w (take row_length f) ++ take (row_length * n) (shifted_from w n (drop row_length f))
    front =
        ap (λ k. take k (shifted_from w (suc n) f)) (turns n)
        ∙ take-add row_length (row_length * n) (shifted_from w (suc n) f)
        ∙ ap₂ (λ a b. a ++ take (row_length * n) b) (row_front w n f) (row_later w n f)

-- A loop that shifts row after row: row r is not shifted yet, and shifting it leaves r + 1 rows shifted.
pub row_waits : (w r : ℕ) (f : List ℕ) → take row_length (drop (row_length * r) (shifted_from w r f)) ≡ take row_length (drop (row_length * r) f)
row_waits w r f = ap (λ g. take row_length g) (past-rows w r f)

pub shift-step : (w r : ℕ) (f : List ℕ)
    → shifted_from w (r + 1) f
    ≡ take (row_length * r) (shifted_from w r f) ++ shifted_row w (take row_length (drop (row_length * r) (shifted_from w r f))) ++ drop (row_length * r + row_length) (shifted_from w r f)
unfolding shifted_from
shift-step w r f =
    from-add w r 1 f
    ∙ ap (λ g. take (row_length * r) (shifted_from w r f) ++ (shifted_row w (take row_length g) ++ drop row_length g)) (sym (past-rows w r f))
    ∙ seam (row_length * r) (shifted_from w r f) (shifted_row w (take row_length (drop (row_length * r) (shifted_from w r f))))
  where
    seam : (k : ℕ) (g row : List ℕ) → take k g ++ (row ++ drop row_length (drop k g)) ≡ take k g ++ row ++ drop (k + row_length) g
    seam k g row = ap (λ h. take k g ++ (row ++ h)) (drop-drop row_length k g) ∙ sym (append_assoc (take k g) row (drop (k + row_length) g))

-- ---- soundness and cost of rows
keeps_shifted : (w r : ℕ) (row : Row) → keeps_table r (shifted_row w row) ≡ keeps_table r row
keeps_shifted w r row = rw (kind-shifted w row, a_shifted w row, b_shifted w row, past-shifted w row)

odd_shifted : (w : ℕ) (row : Row) → odd_constant (shifted_row w row) ≡ odd_constant row
odd_shifted w row = rw (kind-shifted w row) (constant (eqb (kind row) 0) refl)
  where
    constant : (b : Bool) → eqb (kind row) 0 ≡ b → (b && eqb (first_element (shifted_row w row) % 2) 1) ≡ (b && eqb (first_element row % 2) 1)
    constant true e = ap (λ x. eqb (first_element x % 2) 1) (shifted_other w row (ap (λ k. is_chain k) (eqb-true (kind row) 0 e)))
    constant false e = refl

nothing : (w : ℕ) → shifted_row w [] ≡ []
unfolding shifted_row
nothing w = refl

base_shifted : (w : ℕ) (earlier : List Row) (row : Row) → sound_base (map (shifted_row w) earlier) (shifted_row w row) ≡ sound_base earlier row
base_shifted w earlier row =
    rw (kind-shifted w row, a_shifted w row) (ap (λ b. cond (eqb (kind row) 8) b true) base)
  where
    base : odd_constant (get_or (map (shifted_row w) earlier) (word_a row) []) ≡ odd_constant (get_or earlier (word_a row) [])
    base =
        ap (λ x. odd_constant (get_or (map (shifted_row w) earlier) (word_a row) x)) (sym (nothing w))
        ∙ ap (λ x. odd_constant x) (get_or-map (shifted_row w) earlier (word_a row) [])
        ∙ odd_shifted w (get_or earlier (word_a row) [])

span-sound-shifted : (w : ℕ) (row : Row) → sound_span (shifted_row w row) ≡ sound_span row
span-sound-shifted w row = ap₂ (λ first end. ltb first end && leb end longest_text) (span-word w 0 row) (span-word w 1 row)

row-sound-shifted : (w : ℕ) (earlier : List Row) (row : Row) → sound_row (map (shifted_row w) earlier) (shifted_row w row) ≡ sound_row earlier row
row-sound-shifted w earlier row =
    ap₂ ◌&&◌ (keeps_shifted w (length (map (shifted_row w) earlier)) row ∙ ap (λ r. keeps_table r row) (length-map earlier (shifted_row w)))
    (ap₂ ◌&&◌ (base_shifted w earlier row) (span-sound-shifted w row))

pub sound-rows : (w : ℕ) (earlier rows : List Row) → sound_from (map (shifted_row w) earlier) (map (shifted_row w) rows) ≡ sound_from earlier rows
unfolding sound_from
sound-rows w earlier [] = refl
sound-rows w earlier (row ∷ rows) =
    ap₂ ◌&&◌ (row-sound-shifted w earlier row)
    (ap (λ e. sound_from e (map (shifted_row w) rows)) (sym (map-append (shifted_row w) earlier (row ∷ []))) ∙ sound-rows w (earlier ++ row ∷ []) rows)

row-cost-shifted : (w : ℕ) (row : Row) → row_cost (shifted_row w row) ≡ row_cost row
row-cost-shifted w row = rw (kind-shifted w row, a_shifted w row, b_shifted w row)

pub cost-rows : (w : ℕ) (rows : List Row) → cost_of (map (shifted_row w) rows) ≡ cost_of rows
unfolding cost_of
cost-rows w [] = refl
cost-rows w (row ∷ rows) = ap₂ ◌+◌ (row-cost-shifted w row) (cost-rows w rows)

-- ---- a plan whose first r rows are shifted: what a loop over the rows leaves after r turns
unfoldable pub shifted_to : ℕ → ℕ → List ℕ → List ℕ
shifted_to w r p = take 1 p ++ shifted_from w r (drop 1 p)

pub none-shifted : (w : ℕ) (p : List ℕ) → p ≡ shifted_to w 0 p
unfolding shifted_to shifted_from
none-shifted w p = sym (take-append-drop 1 p)

pub all-shifted : (w : ℕ) (p : List ℕ) → shifted_to w (row_count p) p ≡ shifted_plan w p
unfolding shifted_to shifted_plan
all-shifted w p = refl

front_to : (w r : ℕ) (p : List ℕ) → take 1 (shifted_to w r p) ≡ take 1 p
unfolding shifted_to
front_to w r p = take_front 1 p (take 1 p) (shifted_from w r (drop 1 p)) refl (length_from w r (drop 1 p))

rows_to : (w r : ℕ) (p : List ℕ) → drop 1 (shifted_to w r p) ≡ shifted_from w r (drop 1 p)
unfolding shifted_to
rows_to w r p = drop_front 1 p (take 1 p) (shifted_from w r (drop 1 p)) refl (length_from w r (drop 1 p))

pub length_to : (w r : ℕ) (p : List ℕ) → length (shifted_to w r p) ≡ length p
unfolding shifted_to
length_to w r p =
    length-append (take 1 p) (shifted_from w r (drop 1 p))
    ∙ ap (λ n. length (take 1 p) + n) (length_from w r (drop 1 p))
    ∙ sym (length-append (take 1 p) (drop 1 p))
    ∙ ap length (take-append-drop 1 p)

pub count_to : (w r : ℕ) (p : List ℕ) → row_count (shifted_to w r p) ≡ row_count p
count_to w r p = sym (get_or-take 1 (shifted_to w r p) 0 0 (omega arith)) ∙ ap (λ f. get_or f 0 0) (front_to w r p) ∙ get_or-take 1 p 0 0 (omega arith)

-- Row r is not shifted yet, and shifting it leaves r + 1 rows shifted.
row_to : (w r : ℕ) (p : List ℕ) → row (shifted_to w r p) r ≡ row p r
row_to w r p =
    row_at (shifted_to w r p) r
    ∙ ap (λ f. take row_length (drop (row_length * r) f)) (rows_to w r p)
    ∙ row_waits w r (drop 1 p)
    ∙ sym (row_at p r)

pub waiting : (w r : ℕ) (p : List ℕ) {q : List ℕ} {at : ℕ} → q ≡ shifted_to w r p → at ≡ row_start r → part at (at + row_length) q ≡ row p r
waiting w r p {q} e place =
    ap (λ k. part k (k + row_length) q) place ∙ sym (row-part q r) ∙ ap (λ l. row l r) e ∙ row_to w r p

step_to : (w r : ℕ) (p : List ℕ)
    → shifted_to w (r + 1) p
    ≡ take (row_start r) (shifted_to w r p) ++ shifted_row w (row (shifted_to w r p) r) ++ drop (1 + row_length + row_length * r) (shifted_to w r p)
unfolding shifted_to
step_to w r p =
    ap (λ f. take 1 p ++ f) (shift-step w r (drop 1 p))
    ∙ seams (take 1 p) (take (row_length * r) (shifted_from w r (drop 1 p))) _ (drop (row_length * r + row_length) (shifted_from w r (drop 1 p)))
    ∙ sym (λ i. before i ++ shifted_row w (there i) ++ behind i)
  where
    seams : (a b c d : List ℕ) → a ++ (b ++ c ++ d) ≡ a ++ b ++ c ++ d
    seams a b c d = sym (append_assoc a (b ++ c) d) ∙ ap (λ f. f ++ d) (sym (append_assoc a b c))

    before : take (row_start r) (shifted_to w r p) ≡ take 1 p ++ take (row_length * r) (shifted_from w r (drop 1 p))
    before = take-add 1 (row_length * r) (shifted_to w r p) ∙ ap₂ (λ a f. a ++ take (row_length * r) f) (front_to w r p) (rows_to w r p)

    there : row (shifted_to w r p) r ≡ take row_length (drop (row_length * r) (shifted_from w r (drop 1 p)))
    there = row_at (shifted_to w r p) r ∙ ap (λ f. take row_length (drop (row_length * r) f)) (rows_to w r p)

    end : 1 + row_length + row_length * r ≡ 1 + (row_length * r + row_length)
    end = omega arith

    behind : drop (1 + row_length + row_length * r) (shifted_to w r p) ≡ drop (row_length * r + row_length) (shifted_from w r (drop 1 p))
    behind =
        ap (λ k. drop k (shifted_to w r p)) end
        ∙ sym (drop-drop (row_length * r + row_length) 1 (shifted_to w r p))
        ∙ ap (λ f. drop (row_length * r + row_length) f) (rows_to w r p)

pub step-put : (w r : ℕ) (p : List ℕ) {q new : List ℕ} {at : ℕ} → q ≡ shifted_to w r p → at ≡ row_start r
    → new ≡ shifted_row w (part at (at + row_length) q) → part_put at (at + row_length) q new ≡ shifted_to w (r + 1) p
step-put w r p {q} {new} e place n =
    ap (λ k. part_put k (k + row_length) q new) place
    ∙ part-put (row_start r) (row_start r + row_length) q new (omega arith)
    ∙ ap (λ x. take (row_start r) q ++ x ++ drop (row_start r + row_length) q) (n ∙ ap (shifted_row w) (waiting w r p e place ∙ sym (row_to w r p)))
    ∙ ap (λ l. take (row_start r) l ++ shifted_row w (row (shifted_to w r p) r) ++ drop (row_start r + row_length) l) e
    ∙ ap (λ k. take (row_start r) (shifted_to w r p) ++ shifted_row w (row (shifted_to w r p) r) ++ drop k (shifted_to w r p)) end
    ∙ sym (step_to w r p)
  where
    end : row_start r + row_length ≡ 1 + row_length + row_length * r
    end = omega arith

-- ---- a plan shifted once
pub length-plan : (w : ℕ) (p : List ℕ) → length (shifted_plan w p) ≡ length p
length-plan w p = ap length (sym (all-shifted w p)) ∙ length_to w (row_count p) p

pub count-shifted : (w : ℕ) (p : List ℕ) → row_count (shifted_plan w p) ≡ row_count p
count-shifted w p = ap (λ q. row_count q) (sym (all-shifted w p)) ∙ count_to w (row_count p) p

plan-rows : (w : ℕ) (p : List ℕ) → drop 1 (shifted_plan w p) ≡ shifted_from w (row_count p) (drop 1 p)
plan-rows w p = ap (λ q. drop 1 q) (sym (all-shifted w p)) ∙ rows_to w (row_count p) p

pub rows-plan : (w : ℕ) (p : List ℕ) → rows (shifted_plan w p) ≡ map (shifted_row w) (rows p)
rows-plan w p = ap₂ (λ n f. rows_from n f) (count-shifted w p) (plan-rows w p) ∙ rows-shifted w (row_count p) (drop 1 p)

-- Row r of a plan shifted is row r shifted.
pub row-shifted : (w : ℕ) (p : List ℕ) (r : ℕ) → r < row_count p → row (shifted_plan w p) r ≡ shifted_row w (row p r)
row-shifted w p r h =
    sym (earlier_row (shifted_plan w p) (row_count (shifted_plan w p)) r (rw (count-shifted w p) h))
    ∙ ap (λ f. get_or f r []) (rows-plan w p)
    ∙ ap (λ x. get_or (map (shifted_row w) (rows p)) r x) (sym (nothing w))
    ∙ get_or-map (shifted_row w) (rows p) r []
    ∙ ap (shifted_row w) (earlier_row p (row_count p) r h)

pub past-plan : (w : ℕ) (p : List ℕ) → drop (row_start (row_count p)) (shifted_plan w p) ≡ drop (row_start (row_count p)) p
past-plan w p =
    sym (drop-drop (row_length * row_count p) 1 (shifted_plan w p))
    ∙ ap (λ f. drop (row_length * row_count p) f) (plan-rows w p)
    ∙ past-rows w (row_count p) (drop 1 p)
    ∙ drop-drop (row_length * row_count p) 1 p

pub sound-shifted : (w : ℕ) (p : List ℕ) → sound (shifted_plan w p) ≡ sound p
unfolding sound
sound-shifted w p =
    ap (λ n. between 1 most_rows n && (sound_from [] (rows (shifted_plan w p)) && all_zero (slice (row_start n) plan_length (shifted_plan w p)))) (count-shifted w p)
    ∙ ap₂ (λ b f. between 1 most_rows (row_count p) && (b && all_zero f)) sound_same rest_same
  where
    sound_same : sound_from [] (rows (shifted_plan w p)) ≡ sound_from [] (rows p)
    sound_same = ap (λ l. sound_from [] l) (rows-plan w p) ∙ sound-rows w [] (rows p)

    rest_same : slice (row_start (row_count p)) plan_length (shifted_plan w p) ≡ slice (row_start (row_count p)) plan_length p
    rest_same =
        slice-part (row_start (row_count p)) plan_length (shifted_plan w p)
        ∙ ap (λ f. take (plan_length - (row_start (row_count p))) f) (past-plan w p)
        ∙ sym (slice-part (row_start (row_count p)) plan_length p)

pub cost-shifted : (w : ℕ) (p : List ℕ) → cost (shifted_plan w p) ≡ cost p
cost-shifted w p = ap cost_of (rows-plan w p) ∙ cost-rows w (rows p)

-- "1" and "9" go by length and soundness alone.
pub refusal_like : (p q : List ℕ) → length p ≡ length q → sound p ≡ sound q → refusal p ≡ refusal q
refusal_like p q e s = ap₂ (λ n b. cond (ltb n plan_length) 1 (cond b 0 9)) e s

-- ---- a plan shifted n times
pub length-after : (w n : ℕ) (p : List ℕ) → length (plan_after w n p) ≡ length p
unfolding plan_after
length-after w zero p = refl
length-after w (suc n) p = length-after w n (shifted_plan w p) ∙ length-plan w p

pub sound-after : (w n : ℕ) (p : List ℕ) → sound (plan_after w n p) ≡ sound p
unfolding plan_after
sound-after w zero p = refl
sound-after w (suc n) p = sound-after w n (shifted_plan w p) ∙ sound-shifted w p

pub cost-after : (w n : ℕ) (p : List ℕ) → cost (plan_after w n p) ≡ cost p
unfolding plan_after
cost-after w zero p = refl
cost-after w (suc n) p = cost-after w n (shifted_plan w p) ∙ cost-shifted w p

pub refusal-after : (w n : ℕ) (p : List ℕ) → refusal (plan_after w n p) ≡ refusal p
refusal-after w n p = refusal_like (plan_after w n p) p (length-after w n p) (sound-after w n p)

-- A plan that is long enough and sound stays so.
pub good_after : (w n : ℕ) (p : List ℕ) {q : List ℕ} → q ≡ plan_after w n p → plan_length ≤ length p → sound p ≡ true
    → (plan_length ≤ length q) × (sound q ≡ true)
good_after w n p e long good =
    (omega (arith, ap length e, length-after w n p, long), ap sound e ∙ sound-after w n p ∙ good)
