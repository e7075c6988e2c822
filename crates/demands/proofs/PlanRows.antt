-- The plan of a folded tree by its rows: its words, the points that are written from it, and the words that they leave.
use mathlib.Core.Path.{◌≡◌, refl, sym, ap, ap₂, ◌∙◌}
use mathlib.Core.List.{List, ◌∷◌, ◌++◌, map, append_assoc}
use Prim.Native.Nat.{ℕ, zero, suc, ◌+◌, ◌-◌, ◌*◌, ◌/◌, min}
use native.Mathlib.Nat.{add-zero}
use native.Mathlib.Omega.{arith}
use lib.ListN.{length, take, drop, replicate, take-append-drop, length-map}
use lib.Seq.{drop-drop, drop_at}
use Rattle.plan.specs.Measures.{row_length, rows_length}
use Rattle.chain.specs.Coefficients.{tabulated}
use Rattle.plan.specs.Row.{Row}
use Rattle.plan.specs.Plan as Plan
use Rattle.plan.specs.Points.{root_value, shifted_row, shifted_from, shifted_plan}
use Rattle.plan.specs.Filling.{plan_after, point_values}
use Rattle.plan.proofs.Keeping.{rows-shifted, past-rows}
use Rattle.formula.specs.Tree.{Span}
use Rattle.fold.specs.Folded.{Folded}
use Rattle.fold.specs.Layout.{row_count, rows_from, words_of, plan_words}
use Rattle.fold.proofs.ReadBack.{rows_of, length-tree, after_rows, words_back, rows_back}
use Rattle.demands.specs.Starred.{plan_of}

-- ---- any plan
-- The points for that budget and room.
abbrev pub points_by_rows : (budget room : ℕ) → List Row → ℕ
points_by_rows budget room rows = min room (budget / (Plan.cost_of rows + 1))

-- The rows after n shifts of every chain.
unfoldable pub shifted_rows : (w n : ℕ) → List Row → List Row
shifted_rows w zero rows = rows
shifted_rows w (suc n) rows = shifted_rows w n (map (shifted_row w) rows)

length-shifted-rows : (w n : ℕ) (rows : List Row) → length (shifted_rows w n rows) ≡ length rows
unfolding shifted_rows
length-shifted-rows w zero rows = refl
length-shifted-rows w (suc n) rows = length-shifted-rows w n (map (shifted_row w) rows) ∙ length-map rows (shifted_row w)

-- Words cut into rows are put together again.
words_again : (n : ℕ) (f : List ℕ) → words_of (Plan.rows_from n f) ++ drop (row_length * n) f ≡ f
unfolding words_of Plan.rows_from
words_again zero f = refl
words_again (suc n) f =
    append_assoc (take row_length f) (words_of (Plan.rows_from n (drop row_length f))) (drop (row_length * suc n) f)
    ∙ ap (λ l. take row_length f ++ (words_of (Plan.rows_from n (drop row_length f)) ++ l)) later
    ∙ ap (λ l. take row_length f ++ l) (words_again n (drop row_length f))
    ∙ take-append-drop row_length f
  where
    row_more : row_length * suc n ≡ row_length + row_length * n
    row_more = omega arith

    later : drop (row_length * suc n) f ≡ drop (row_length * n) (drop row_length f)
    later = ap (λ k. drop k f) row_more ∙ sym (drop-drop (row_length * n) row_length f)

-- The plan after n points: its rows shifted, and the words after them.
after-rows : (w n count : ℕ) (f : List ℕ)
    → plan_after w n (count ∷ f) ≡ count ∷ words_of (shifted_rows w n (Plan.rows_from count f)) ++ drop (row_length * count) f
unfolding plan_after shifted_rows shifted_plan
after-rows w zero count f = ap {B = List ℕ} (λ l. count ∷ l) (sym (words_again count f))
after-rows w (suc n) count f =
    after-rows w n count (shifted_from w count f)
    ∙ ap₂ {C = List ℕ} (λ rows l. count ∷ words_of (shifted_rows w n rows) ++ l) (rows-shifted w count f) (past-rows w count f)

-- The points of a plan whose root's values are known, from index m on.
pub points_known : (w n m : ℕ) (p : List ℕ) (known : ℕ → ℕ) → ((i : ℕ) → root_value w (plan_after w i p) ≡ known (m + i))
    → point_values w n p ≡ tabulated known m n
unfolding plan_after point_values tabulated
points_known w zero m p known h = refl
points_known w (suc n) m p known h =
    ap₂ {C = List ℕ} ◌∷◌ (h 0 ∙ ap known (add-zero m)) (points_known w n (suc m) (shifted_plan w p) known (λ i. h (suc i) ∙ ap known (next i)))
  where
    next : (i : ℕ) → m + suc i ≡ suc m + i
    next i = omega arith

-- ---- the plan of a folded tree
module _ (whole : Span) (a : Folded) where
  pub plan_by_rows : plan_words whole a ≡ plan_of (rows_from 0 whole a)
  plan_by_rows = ap {B = List ℕ} (λ n. n ∷ words_of (rows_from 0 whole a) ++ replicate (rows_length - row_length * n) 0) (sym (rows_of 0 whole a).count)

  pub left_by_rows : (w n : ℕ) (rest : List ℕ) → plan_after w n (plan_words whole a ++ rest) ≡ plan_of (shifted_rows w n (rows_from 0 whole a)) ++ rest
  left_by_rows w n rest =
      after-rows w n (row_count a) ((words_of (rows_from 0 whole a) ++ replicate (rows_length - row_length * row_count a) 0) ++ rest)
      ∙ ap₂ {C = List ℕ} (λ rows l. row_count a ∷ words_of (shifted_rows w n rows) ++ l) (rows_back whole a rest) past
      ∙ ap {B = List ℕ} (λ k. k ∷ words_of left ++ (replicate (rows_length - row_length * k) 0 ++ rest)) (sym count)
      ∙ ap {B = List ℕ} (λ l. length left ∷ l) (sym (append_assoc (words_of left) (replicate (rows_length - row_length * length left) 0) rest))
    where
      left : List Row
      left = shifted_rows w n (rows_from 0 whole a)

      count : length left ≡ row_count a
      count = length-shifted-rows w n (rows_from 0 whole a) ∙ (rows_of 0 whole a).count

      past : drop (row_length * row_count a) ((words_of (rows_from 0 whole a) ++ replicate (rows_length - row_length * row_count a) 0) ++ rest)
          ≡ after_rows whole a rest
      past =
          ap (λ l. drop (row_length * row_count a) l) (words_back whole a rest)
          ∙ drop_at (words_of (rows_from 0 whole a)) (after_rows whole a rest) (row_length * row_count a) (length-tree 0 whole a)
