-- A plan is the first words of those that are lent: the words after them have no part in its soundness, cost and values, and stay when it is shifted.
use Rattle.std.proofs.Common.{◌≡◌, refl, sym, ap, ap₂, ◌∙◌, List, [], ◌∷◌, ◌++◌, ℕ, zero, suc, ◌+◌, ◌-◌, ◌*◌, ◌≤◌, Bool, true, false, length, get_or, take, drop, arith}
use mathlib.Core.List.{append_assoc}
use mathlib.Core.Bool.{◌&&◌, and-false}
use lib.Dec.{leb}
use lib.IntN.{◌+ℤ◌}
use lib.ListN.{take-append-drop}
use lib.Seq.{slice, take-take, drop-drop, get_or-take, length-take-le}
use borrow.Author.Tests.{leb-true, le-ltb}
use Rattle.chain.specs.Crossing.{crossing}
use Rattle.plan.specs.Measures.{plan_length, row_length, most_rows, rows_length, row_start}
use Rattle.plan.specs.Row.{Row, between, all_zero}
use Rattle.plan.specs.Plan.{row_count, row, rows_from, rows, sound_from, sound, cost_of, cost, refusal}
use Rattle.plan.specs.Points.{values_from, root_value, shifted_row, shifted_from, shifted_plan}
use Rattle.plan.specs.Filling.{plan_after, point_values}
use Rattle.plan.specs.Eras.{root_row, root_chain, eras_over, as_chain}
use Rattle.plan.proofs.RowLaws.{drop-take}
use Rattle.plan.proofs.SoundLaws.{sound-count}
use Rattle.plan.proofs.Keeping.{take_front, drop_front, length-plan, sound-shifted}

-- The words of the plan, and those after it.
abbrev pub lent_plan : List ℕ → List ℕ
lent_plan p = take plan_length p

-- ---- the rows among the first m words
past_one : (m : ℕ) (f : List ℕ) → row_length ≤ m → drop row_length (take m f) ≡ take (m - row_length) (drop row_length f)
past_one m f h = ap (λ k. drop row_length (take k f)) parts ∙ drop-take row_length (m - row_length) f
  where
    parts : m ≡ row_length + (m - row_length)
    parts = omega arith

rows_front : (n m : ℕ) (f : List ℕ) → row_length * n ≤ m → rows_from n (take m f) ≡ rows_from n f
unfolding rows_from
rows_front zero m f h = refl
rows_front (suc n) m f h =
    ap₂ {C = List Row} ◌∷◌ (take-take row_length m f (omega arith))
    (ap (rows_from n) (past_one m f (omega arith)) ∙ rows_front n (m - row_length) (drop row_length f) (omega arith))

shifted_front : (w n m : ℕ) (f : List ℕ) → row_length * n ≤ m → shifted_from w n f ≡ shifted_from w n (take m f) ++ drop m f
unfolding shifted_from
shifted_front w zero m f h = sym (take-append-drop m f)
shifted_front w (suc n) m f h =
    ap₂ (λ x g. shifted_row w x ++ g) (sym (take-take row_length m f (omega arith)))
    (shifted_front w n (m - row_length) (drop row_length f) (omega arith)
    ∙ ap₂ (λ g r. shifted_from w n g ++ r) (sym (past_one m f (omega arith))) (drop-drop (m - row_length) row_length f ∙ ap (λ k. drop k f) whole))
    ∙ sym (append_assoc (shifted_row w (take row_length (take m f))) (shifted_from w n (drop row_length (take m f))) (drop m f))
  where
    whole : row_length + (m - row_length) ≡ m
    whole = omega arith

module _ (p : List ℕ) where
  lent_count : row_count (lent_plan p) ≡ row_count p
  lent_count = get_or-take plan_length p 0 0 (omega arith)

  lent_behind : drop 1 (lent_plan p) ≡ take rows_length (drop 1 p)
  lent_behind = drop-take 1 rows_length p

  lent_rows : row_count p ≤ most_rows → rows (lent_plan p) ≡ rows p
  lent_rows few = ap₂ rows_from lent_count lent_behind ∙ rows_front (row_count p) rows_length (drop 1 p) (omega (arith, few))

  -- ---- soundness and cost
  pub lent_sound : sound (lent_plan p) ≡ sound p
  unfolding sound
  lent_sound = judged (leb (row_count p) most_rows) refl
    where
      judged : (few : Bool) → leb (row_count p) most_rows ≡ few
          → (between 1 most_rows (row_count (lent_plan p)) && (sound_from [] (rows (lent_plan p)) && all_zero (slice (row_start (row_count (lent_plan p))) plan_length (lent_plan p))))
          ≡ (between 1 most_rows (row_count p) && (sound_from [] (rows p) && all_zero (slice (row_start (row_count p)) plan_length p)))
      judged true e =
          ap₂ (λ n f. between 1 most_rows n && (sound_from [] (rows (lent_plan p)) && all_zero (slice (row_start n) plan_length f))) lent_count refl
          ∙ ap₂ (λ f g. between 1 most_rows (row_count p) && (sound_from [] f && all_zero g)) (lent_rows (leb-true (row_count p) most_rows e))
          (ap (drop (row_start (row_count p))) (take-take plan_length plan_length p (omega arith)))
      judged false e = rw (lent_count, e, and-false (leb 1 (row_count p)))

  pub lent_refusal : plan_length ≤ length p → refusal (lent_plan p) ≡ refusal p
  lent_refusal long = rw (
    le-ltb (length (lent_plan p)) plan_length (omega (arith, length-take-le plan_length p long)),
    le-ltb (length p) plan_length long,
    lent_sound,
  )

  module _ (good : sound p ≡ true) where
    few_rows : row_count p ≤ most_rows
    few_rows = (sound-count p good).1

    pub lent_cost : cost (lent_plan p) ≡ cost p
    lent_cost = ap cost_of (lent_rows few_rows)

    -- ---- one point
    pub lent_value : (w : ℕ) → root_value w (lent_plan p) ≡ root_value w p
    unfolding root_value
    lent_value w = ap₂ (λ f n. get_or (values_from w [] f) (n - 1) 0) (lent_rows few_rows) lent_count

    lent_shifted : (w : ℕ) → shifted_plan w p ≡ shifted_plan w (lent_plan p) ++ drop plan_length p
    unfolding shifted_plan
    lent_shifted w =
        ap₂ (λ a g. a ++ g) (sym (take-take 1 plan_length p (omega arith)))
        (shifted_front w (row_count p) rows_length (drop 1 p) (omega (arith, few_rows))
        ∙ ap₂ (λ g r. g ++ r) (ap₂ (shifted_from w) (sym lent_count) (sym lent_behind)) (drop-drop rows_length 1 p))
        ∙ sym (append_assoc (take 1 (lent_plan p)) (shifted_from w (row_count (lent_plan p)) (drop 1 (lent_plan p))) (drop plan_length p))

    pub shifted_lent : (w : ℕ) → lent_plan (shifted_plan w p) ≡ shifted_plan w (lent_plan p)
    shifted_lent w =
        ap (take plan_length) (lent_shifted w)
        ∙ take_front plan_length p (shifted_plan w (lent_plan p)) (drop plan_length p) (length-plan w (lent_plan p)) refl

    shifted_rest : (w : ℕ) → drop plan_length (shifted_plan w p) ≡ drop plan_length p
    shifted_rest w =
        ap (drop plan_length) (lent_shifted w)
        ∙ drop_front plan_length p (shifted_plan w (lent_plan p)) (drop plan_length p) (length-plan w (lent_plan p)) refl

    pub lent_root_row : root_row (lent_plan p) ≡ root_row p
    lent_root_row =
        ap (λ n. row (lent_plan p) (n - 1)) lent_count
        ∙ ap (drop (row_start (row_count p - 1))) (take-take (row_start (row_count p - 1) + row_length) plan_length p (omega (arith, sound-count p good)))

    pub lent_root : root_chain (lent_plan p) ≡ root_chain p
    lent_root = ap as_chain lent_root_row

-- ---- n points
pub lent_after : (w n : ℕ) (p : List ℕ) → sound p ≡ true → plan_after w n p ≡ plan_after w n (lent_plan p) ++ drop plan_length p
unfolding plan_after
lent_after w zero p good = sym (take-append-drop plan_length p)
lent_after w (suc n) p good =
    lent_after w n (shifted_plan w p) (sound-shifted w p ∙ good)
    ∙ ap₂ (λ q r. plan_after w n q ++ r) (shifted_lent p good w) (shifted_rest p good w)

pub lent_points : (w n : ℕ) (p : List ℕ) → sound p ≡ true → point_values w n (lent_plan p) ≡ point_values w n p
unfolding point_values
lent_points w zero p good = refl
lent_points w (suc n) p good =
    ap₂ {C = List ℕ} ◌∷◌ (lent_value p good w)
    (ap (point_values w n) (sym (shifted_lent p good w)) ∙ lent_points w n (shifted_plan w p) (sound-shifted w p ∙ good))

pub lent_eras : (w n : ℕ) (p : List ℕ) → sound p ≡ true → eras_over w n (lent_plan p) ≡ eras_over w n p
unfolding eras_over
lent_eras w zero p good = refl
lent_eras w (suc n) p good =
    ap₂ ◌+ℤ◌ (ap (crossing w) (lent_root p good))
    (ap (eras_over w n) (sym (shifted_lent p good w)) ∙ lent_eras w n (shifted_plan w p) (sound-shifted w p ∙ good))
