-- The value of a row depends on the rows before it alone.
use mathlib.Core.Path.{◌≡◌, refl, sym, ap, ap₂, ◌∙◌}
use mathlib.Core.Bool.{Bool, true, false, cond, ◌&&◌, and-eq-true_iff}
use mathlib.Core.List.{List, [], ◌∷◌, ◌++◌}
use Prim.Native.Nat.{ℕ, ◌+◌, ◌-◌, ◌*◌, ◌≤◌, ◌<◌}
use native.Mathlib.Nat.{zero-add, add-zero}
use native.Mathlib.Numerals.{add-one}
use native.Mathlib.Omega.{arith}
use lib.Dec.{eqb, ltb}
use lib.ListN.{length, get_or, take, drop, set, length-append, take-append-drop, get_or-append}
use lib.Seq.{take-length, take-take, take-append_seam, take-suc-set, length-take-le, get_or-take, get_or_at}
use borrow.Author.Tests.{eqb-true, ltb-true}
use Rattle.plan.specs.Measures.{row_length}
use Rattle.word.specs.Word as Word
use Rattle.plan.specs.Row.{Row, kind, word_a, word_b, kind_facts, elements, elements_used, all_zero, sound_a, sound_b, keeps_table}
use Rattle.plan.specs.Plan.{row_count, row, rows_from, first_rows, rows, sound}
use Rattle.plan.specs.Points.{row_value, values_from, values, root_value}
use Rattle.plan.proofs.RowLaws.{rows-add, rows_next, length-rows, values-append}
use Rattle.plan.proofs.SoundLaws.{sound_keeps}

-- ---- one row: the values that it reads are those of earlier rows
-- Two picks by one test agree if what is picked agrees.
pick : (b : Bool) {x y u v : ℕ} → (b ≡ true → x ≡ u) → y ≡ v → cond b x y ≡ cond b u v
pick true h k = h refl
pick false h k = k

pub later_rows : (w r : ℕ) (earlier later : List ℕ) (row : Row) → length earlier ≡ r → keeps_table r row ≡ true
    → row_value w (earlier ++ later) row ≡ row_value w earlier row
unfolding kind_facts
later_rows w r earlier later row e keeps =
    pick (eqb (kind row) 3) (λ t. ap₂ (λ x y. Word.sum w x y) (left 3 t (λ h. h)) (right 3 t (λ h. h)))
    (pick (eqb (kind row) 4) (λ t. ap₂ (λ x y. Word.difference w x y) (left 4 t (λ h. h)) (right 4 t (λ h. h)))
    (pick (eqb (kind row) 5) (λ t. ap₂ (λ x y. Word.product w x y) (left 5 t (λ h. h)) (right 5 t (λ h. h)))
    (pick (eqb (kind row) 6) (λ t. ap (λ x. Word.negation w x) (left 6 t (λ h. h)))
    (pick (eqb (kind row) 7) (λ t. ap (λ x. Word.power w x (word_b row)) (left 7 t (λ h. h)))
    (pick (eqb (kind row) 8) (λ t. ap₂ (λ x y. Word.power w x y) (left 8 t (λ h. h)) (right 8 t (λ h. h))) refl)))))
  where
    tail : (sound_a r (kind row) (word_a row)
        && (sound_b r (kind row) (word_b row) && all_zero (drop (elements_used (kind row) (word_a row)) (elements row)))) ≡ true
    tail = ((and-eq-true_iff (ltb (kind row) 9) _).0 keeps).1

    read : (i : ℕ) → ltb i r ≡ true → get_or (earlier ++ later) i 0 ≡ get_or earlier i 0
    read i h = get_or-append earlier later 0 i (rw e (ltb-true i r h))

    left : (k : ℕ) → eqb (kind row) k ≡ true → (sound_a r k (word_a row) ≡ true → ltb (word_a row) r ≡ true)
        → get_or (earlier ++ later) (word_a row) 0 ≡ get_or earlier (word_a row) 0
    left k t h = read (word_a row) (h (rw (eqb-true (kind row) k t) at ((and-eq-true_iff (sound_a r (kind row) (word_a row)) _).0 tail).0))

    right : (k : ℕ) → eqb (kind row) k ≡ true → (sound_b r k (word_b row) ≡ true → ltb (word_b row) r ≡ true)
        → get_or (earlier ++ later) (word_b row) 0 ≡ get_or earlier (word_b row) 0
    right k t h =
        read (word_b row) (h (rw (eqb-true (kind row) k t) at
        ((and-eq-true_iff (sound_b r (kind row) (word_b row)) _).0 ((and-eq-true_iff (sound_a r (kind row) (word_a row)) _).0 tail).1).0))

-- ---- all rows: values once found stay, whatever rows follow
pub length-values : (w : ℕ) (earlier : List ℕ) (f : List Row) → length (values_from w earlier f) ≡ length earlier + length f
unfolding values_from
length-values w earlier [] = sym (add-zero (length earlier))
length-values w earlier (row ∷ f) =
    length-values w (earlier ++ row_value w earlier row ∷ []) f
    ∙ ap (λ n. n + length f) (length-append earlier (row_value w earlier row ∷ []))
    ∙ omega arith

pub values_keep : (w : ℕ) (earlier : List ℕ) (f : List Row) → take (length earlier) (values_from w earlier f) ≡ earlier
unfolding values_from
values_keep w earlier [] = take-length earlier
values_keep w earlier (row ∷ f) = fewer (row_value w earlier row) _ (values_keep w (earlier ++ row_value w earlier row ∷ []) f)
  where
    fewer : (v : ℕ) (l : List ℕ) → take (length (earlier ++ v ∷ [])) l ≡ earlier ++ v ∷ [] → take (length earlier) l ≡ earlier
    fewer v l e =
        sym (take-take (length earlier) (length (earlier ++ v ∷ [])) l (rw (length-append earlier (v ∷ [])) (omega arith)))
        ∙ ap (λ f. take (length earlier) f) e
        ∙ take-append_seam earlier (v ∷ [])

pub values-before : (w : ℕ) (f g : List Row) → take (length f) (values_from w [] (f ++ g)) ≡ values_from w [] f
values-before w f g =
    ap (λ l. take (length f) l) (values-append w [] f g)
    ∙ ap (λ n. take n (values_from w (values_from w [] f) g)) (sym (length-values w [] f ∙ zero-add (length f)))
    ∙ values_keep w (values_from w [] f) g

-- The first values of a plan are those of its first rows, and the next is that of the next row.
pub first-values : (w r : ℕ) (p : List ℕ) → r ≤ row_count p → take r (values w p) ≡ values_from w [] (first_rows r p)
first-values w r p h =
    ap₂ (λ n l. take n (values_from w [] l)) (sym (length-rows r (drop 1 p))) cut
    ∙ values-before w (first_rows r p) (rows_from (row_count p - r) (drop (row_length * r) (drop 1 p)))
  where
    count : row_count p ≡ r + (row_count p - r)
    count = omega arith

    cut : rows p ≡ first_rows r p ++ rows_from (row_count p - r) (drop (row_length * r) (drop 1 p))
    cut = ap (λ n. rows_from n (drop 1 p)) count ∙ rows-add r (row_count p - r) (drop 1 p)

pub next-value : (w r : ℕ) (p : List ℕ)
    → values_from w [] (first_rows (r + 1) p) ≡ values_from w [] (first_rows r p) ++ row_value w (values_from w [] (first_rows r p)) (row p r) ∷ []
unfolding values_from
next-value w r p = ap (λ l. values_from w [] l) (rows_next r p) ∙ values-append w [] (first_rows r p) (row p r ∷ [])

-- Row r has a value that its own words and the first r rows give.
pub value_of : (w r : ℕ) (p : List ℕ) → r < row_count p → get_or (values w p) r 0 ≡ get_or (values_from w [] (first_rows (r + 1) p)) r 0
value_of w r p h =
    sym (get_or-take (r + 1) (values w p) r 0 (omega arith)) ∙ ap (λ l. get_or l r 0) (first-values w (r + 1) p (omega arith))

pub value-is : (w r : ℕ) (p : List ℕ) → r < row_count p → get_or (values w p) r 0 ≡ row_value w (values_from w [] (first_rows r p)) (row p r)
value-is w r p h =
    value_of w r p h
    ∙ ap (λ l. get_or l r 0) (next-value w r p)
    ∙ get_or_at (values_from w [] (first_rows r p)) (row_value w (values_from w [] (first_rows r p)) (row p r)) [] 0 r
    (length-values w [] (first_rows r p) ∙ zero-add (length (first_rows r p)) ∙ length-rows r (drop 1 p))

-- Two plans that agree in their rows up to row r agree in its value, whatever rows follow.
pub same_value : (w r : ℕ) (p q : List ℕ) → r < row_count p → r < row_count q → first_rows (r + 1) p ≡ first_rows (r + 1) q
    → get_or (values w p) r 0 ≡ get_or (values w q) r 0
same_value w r p q h k e = value_of w r p h ∙ ap (λ l. get_or (values_from w [] l) r 0) e ∙ sym (value_of w r q k)

-- ---- values stored one after the other in an array, as the code does it
-- Row r's value, worked out from an array that begins with the values of the rows before it, goes behind them.
pub values_store : (w r : ℕ) (p stored : List ℕ) {v : ℕ} → sound p ≡ true → r < row_count p → r < length stored
    → take r stored ≡ values_from w [] (first_rows r p) → v ≡ row_value w stored (row p r)
    → take (r + 1) (set stored r v) ≡ values_from w [] (first_rows (r + 1) p)
values_store w r p stored {v} s h room e q =
    ap (λ k. take k (set stored r v)) (add-one r)
    ∙ take-suc-set stored r v room
    ∙ ap₂ (λ f x. f ++ x ∷ []) e here
    ∙ sym (next-value w r p)
  where
    here : v ≡ row_value w (values_from w [] (first_rows r p)) (row p r)
    here =
        q
        ∙ ap (λ l. row_value w l (row p r)) (sym (take-append-drop r stored))
        ∙ later_rows w r (take r stored) (drop r stored) (row p r) (length-take-le r stored (omega arith)) (sound_keeps p r s h)
        ∙ ap (λ l. row_value w l (row p r)) e

pub root_stored : (w n : ℕ) (p stored : List ℕ) → 1 ≤ row_count p → n ≡ row_count p → take n stored ≡ values_from w [] (first_rows n p)
    → get_or stored (row_count p - 1) 0 ≡ root_value w p
unfolding root_value
root_stored w n p stored some e q =
    sym (get_or-take (row_count p) stored (row_count p - 1) 0 (omega arith))
    ∙ ap (λ l. get_or l (row_count p - 1) 0) (ap (λ k. take k stored) (sym e) ∙ q ∙ ap (λ k. values_from w [] (first_rows k p)) e)
