-- The rows of a plan, one after the other: where row r stands, and soundness, cost and values of rows put together.
use mathlib.Core.Path.{◌≡◌, refl, sym, ap, ap₂, ◌∙◌}
use mathlib.Core.Bool.{◌&&◌, and_assoc}
use mathlib.Core.List.{List, [], ◌∷◌, ◌++◌, append_assoc, append-nil}
use Prim.Native.Nat.{ℕ, zero, suc, ◌+◌, ◌-◌, ◌*◌, ◌≤◌, ◌<◌}
use native.Mathlib.Nat.{zero-add, add-zero, suc-add, sub-zero, zero-sub, suc-sub-suc}
use native.Mathlib.Omega.{arith}
use lib.ListN.{length, get_or, take, drop, length-drop}
use lib.Seq.{slice, take_all, drop-drop, length-slice, take-nil, get_or-drop, get_or-take}
use Rattle.plan.specs.Measures.{elements_start, element_count, plan_length, row_length, most_rows, row_start}
use Rattle.plan.specs.Row.{Row, elements, row_cost, sound_row}
use Rattle.plan.specs.Plan.{row, rows_from, first_rows, sound_from, cost_of}
use Rattle.plan.specs.Points.{row_value, values_from}

-- ---- parts, as the code lends them: the words from i up to n, and what a part leaves when it is put back
abbrev pub part : ℕ → ℕ → List ℕ → List ℕ
part i n l = take (n - i) (drop i l)

pub tail_part : (n : ℕ) (l : List ℕ) → part n (length l) l ≡ drop n l
tail_part n l = take_all (length l - n) (drop n l) (rw (length-drop n l) (omega arith))

pub slice-part : (i n : ℕ) (l : List ℕ) → slice i n l ≡ part i n l
slice-part zero n l = ap (λ k. take k l) (sym (sub-zero n))
slice-part (suc i) zero l = ap (λ k. take k (drop (suc i) l)) (sym (zero-sub (suc i)))
slice-part (suc i) (suc n) [] = sym (take-nil (suc n - suc i))
slice-part (suc i) (suc n) (a ∷ l) = slice-part i n l ∙ ap (λ k. take k (drop i l)) (sym (suc-sub-suc n i))

abbrev pub part_put : ℕ → ℕ → List ℕ → List ℕ → List ℕ
part_put i n l new = take i l ++ (new ++ drop (n - i) (drop i l))

pub part-put : (i n : ℕ) (l new : List ℕ) → i ≤ n → part_put i n l new ≡ take i l ++ new ++ drop n l
part-put i n l new h =
    ap (λ f. take i l ++ (new ++ f)) (drop-drop (n - i) i l ∙ ap (λ k. drop k l) end) ∙ sym (append_assoc (take i l) new (drop n l))
  where
    end : i + (n - i) ≡ n
    end = omega arith

-- ---- where row r stands
abbrev pub row_part : List ℕ → ℕ → List ℕ
row_part p r = part (row_start r) (row_start r + row_length) p

pub row-part : (p : List ℕ) (r : ℕ) → row p r ≡ row_part p r
row-part p r = slice-part (row_start r) (row_start r + row_length) p

pub row_at : (p : List ℕ) (r : ℕ) → row p r ≡ take row_length (drop (row_length * r) (drop 1 p))
row_at p r =
    row-part p r ∙ ap₂ (λ n f. take n f) full (sym (drop-drop (row_length * r) 1 p))
  where
    full : row_start r + row_length - (row_start r) ≡ row_length
    full = omega arith

pub length-row : (p : List ℕ) (r : ℕ) → r < most_rows → plan_length ≤ length p → length (row p r) ≡ row_length
length-row p r h long = length-slice (row_start r) (row_start r + row_length) p (omega arith) ∙ omega arith

-- The elements of a row from the n-th on, as the code lends them.
pub drop-take : (m n : ℕ) (l : List ℕ) → drop m (take (m + n) l) ≡ take n (drop m l)
drop-take zero n l = ap (λ k. take k l) (zero-add n)
drop-take (suc m) n [] = ap (λ k. drop (suc m) (take k [])) (suc-add m n) ∙ sym (take-nil n)
drop-take (suc m) n (a ∷ l) = ap (λ k. drop (suc m) (take k (a ∷ l))) (suc-add m n) ∙ drop-take m n l

pub elements-past : (row : Row) (n : ℕ) → part (elements_start + n) (elements_start + element_count) row ≡ drop n (elements row)
elements-past row n =
    sym (slice-part (elements_start + n) (elements_start + element_count) row)
    ∙ sym (drop-drop n elements_start (take (elements_start + element_count) row))
    ∙ ap (λ f. drop n f) (drop-take elements_start element_count row)

-- Word j of row r in the plan.
pub word_at : (p : List ℕ) (r j : ℕ) → j < row_length → get_or (row p r) j 0 ≡ get_or p (row_start r + j) 0
word_at p r j h =
    get_or-drop (row_start r) (take (row_start r + row_length) p) j 0 ∙ get_or-take (row_start r + row_length) p (row_start r + j) 0 (omega arith)

pub rows-add : (n m : ℕ) (f : List ℕ) → rows_from (n + m) f ≡ rows_from n f ++ rows_from m (drop (row_length * n) f)
unfolding rows_from
rows-add zero m f = rw (zero-add m)
rows-add (suc n) m f =
    rw (suc-add n m)
    (ap {B = List Row} (λ rows. take row_length f ∷ rows)
    (rows-add n m (drop row_length f) ∙ ap (λ g. rows_from n (drop row_length f) ++ rows_from m g) (drop-drop (row_length * n) row_length f ∙ ap (λ k. drop k f) turns)))
  where
    turns : row_length + row_length * n ≡ row_length * suc n
    turns = omega arith

-- Row r follows the first r rows.
pub rows_next : (r : ℕ) (p : List ℕ) → first_rows (r + 1) p ≡ first_rows r p ++ row p r ∷ []
unfolding rows_from
rows_next r p = rows-add r 1 (drop 1 p) ∙ ap (λ x. first_rows r p ++ x ∷ []) (sym (row_at p r))

pub length-rows : (n : ℕ) (f : List ℕ) → length (rows_from n f) ≡ n
unfolding rows_from
length-rows zero f = refl
length-rows (suc n) f = ap suc (length-rows n (drop row_length f))

-- ---- rows put together
pub sound-append : (earlier f g : List Row) → sound_from earlier (f ++ g) ≡ (sound_from earlier f && sound_from (earlier ++ f) g)
unfolding sound_from
sound-append earlier [] g = ap (λ e. sound_from e g) (sym (append-nil earlier))
sound-append earlier (row ∷ f) g =
    ap (λ b. sound_row earlier row && b)
    (sound-append (earlier ++ row ∷ []) f g ∙ ap (λ e. sound_from (earlier ++ row ∷ []) f && sound_from e g) (append_assoc earlier (row ∷ []) f))
    ∙ sym (and_assoc (sound_row earlier row) (sound_from (earlier ++ row ∷ []) f) (sound_from (earlier ++ row ∷ f) g))

pub cost-append : (f g : List Row) → cost_of (f ++ g) ≡ cost_of f + cost_of g
unfolding cost_of
cost-append [] g = omega arith
cost-append (row ∷ f) g = ap (λ n. row_cost row + n) (cost-append f g) ∙ omega arith

pub values-append : (w : ℕ) (earlier : List ℕ) (f g : List Row) → values_from w earlier (f ++ g) ≡ values_from w (values_from w earlier f) g
unfolding values_from
values-append w earlier [] g = refl
values-append w earlier (row ∷ f) g = values-append w (earlier ++ row_value w earlier row ∷ []) f g

pub cost-next : (r : ℕ) (p : List ℕ) → cost_of (first_rows r p) + row_cost (row p r) ≡ cost_of (first_rows (r + 1) p)
unfolding cost_of
cost-next r p =
    ap (λ n. cost_of (first_rows r p) + n) (sym (add-zero (row_cost (row p r))))
    ∙ sym (cost-append (first_rows r p) (row p r ∷ []))
    ∙ ap cost_of (sym (rows_next r p))
