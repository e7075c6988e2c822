-- The words of a folded tree's plan: how many there are, and that they are read back as the tree's rows and zeros, whatever words follow.
use mathlib.Core.Path.{◌≡◌, refl, sym, ap, ap₂, subst, ◌∙◌}
use mathlib.Core.Bool.{true}
use mathlib.Core.List.{List, [], ◌∷◌, ◌++◌, append_assoc}
use Prim.Native.Nat.{ℕ, zero, suc, ◌+◌, ◌-◌, ◌*◌, ◌≤◌, ◌<◌}
use native.Mathlib.Nat.{not-suc-le-zero, le_of_suc-le-suc}
use native.Mathlib.Omega.{arith}
use lib.ListN.{length, get_or, take, drop, replicate, length-append, length-replicate}
use lib.Seq.{slice, take_at, drop_at, get_or-drop}
use Rattle.plan.specs.Measures.{element_count, plan_length, row_length, rows_length, most_rows, row_start}
use Rattle.chain.specs.Chain as Chain
use Rattle.chain.proofs.Trimming.{length-row}
use Rattle.formula.specs.Tree.{Span, first, end}
use Rattle.plan.specs.Row.{Row, first_byte, end_byte}
use Rattle.plan.specs.Plan as Plan
use Rattle.plan.specs.Points.{chain_of}
use Rattle.plan.proofs.SoundLaws.{earlier_row}
use Rattle.fold.specs.Folded.{Folded, constant, sum_chain, product_chain, sum_row, difference_row, product_row, minus_row, power_row, raise_row}
use Rattle.fold.specs.Folded.{is_constant, is_sum_chain, elements, of_sum}
use Rattle.fold.specs.Folding.{is_sum}
use Rattle.fold.specs.Layout.{row_count, row_words, rows_from, words_of, plan_words}
use Rattle.fold.proofs.Shape.{Fits, WellFormed}
use Rattle.fold.proofs.Tests.{either, shaped, sum-chain_again}

-- ---- rows of 22 words each
unfoldable pub FullRows : List Row → Type 0
FullRows [] = Unit {0}
FullRows (row ∷ rows) = (length row ≡ row_length) × FullRows rows

pub full_append : (f g : List Row) → FullRows f → FullRows g → FullRows (f ++ g)
unfolding FullRows
full_append [] g h k = k
full_append (row ∷ f) g h k = (h.0, full_append f g h.1 k)

pub length-words_of : (f : List Row) → FullRows f → length (words_of f) ≡ row_length * length f
unfolding FullRows words_of
length-words_of [] h = refl
length-words_of (row ∷ f) h = length-append row (words_of f) ∙ ap₂ ◌+◌ h.0 (length-words_of f h.1) ∙ next
  where
    next : row_length + row_length * length f ≡ row_length * suc (length f)
    next = omega arith

-- They are cut where they were put together.
pub first-row : (row : Row) (f rest : List ℕ) → length row ≡ row_length → take row_length (row ++ f ++ rest) ≡ row
first-row row f rest e = ap (take row_length) (append_assoc row f rest) ∙ take_at row (f ++ rest) row_length e

pub later_words : (row : Row) (f rest : List ℕ) → length row ≡ row_length → drop row_length (row ++ f ++ rest) ≡ f ++ rest
later_words row f rest e = ap (drop row_length) (append_assoc row f rest) ∙ drop_at row (f ++ rest) row_length e

pub cut_rows : (f : List Row) (rest : List ℕ) → FullRows f → Plan.rows_from (length f) (words_of f ++ rest) ≡ f
unfolding FullRows words_of Plan.rows_from
cut_rows [] rest h = refl
cut_rows (row ∷ f) rest h =
    ap₂ {C = List Row} ◌∷◌ (first-row row (words_of f) rest h.0)
    (ap (Plan.rows_from (length f)) (later_words row (words_of f) rest h.0) ∙ cut_rows f rest h.1)

-- ---- the rows of a folded tree
pub length-row-words : (kind a b : ℕ) (f : List ℕ) (whole : Span) → length (row_words kind a b f whole) ≡ row_length
length-row-words kind a b f whole =
    ap (λ n. suc (suc (suc n))) (length-append (Chain.row element_count f) (first whole ∷ end whole ∷ []) ∙ ap (λ n. n + 2) (length-row element_count f))

-- n rows of 22 words each.
pub record Rows (n : ℕ) (f : List Row) : Type 0 where
  pub count : length f ≡ n
  pub full : FullRows f

one_row : (kind a b : ℕ) (f : List ℕ) (whole : Span) → Rows 1 (row_words kind a b f whole ∷ [])
unfolding FullRows
one_row kind a b f whole = record { count = refl; full = (length-row-words kind a b f whole, tt) }

rows_together : {n m : ℕ} {f g : List Row} → Rows n f → Rows m g → Rows (n + m) (f ++ g)
rows_together {f} {g} h k = record {
  count = length-append f g ∙ ap₂ ◌+◌ h.count k.count;
  full = full_append f g h.full k.full;
}

pub rows_of : (n : ℕ) (whole : Span) (a : Folded) → Rows (row_count a) (rows_from n whole a)
unfolding rows_from row_count
rows_of n whole (constant c) = one_row _ _ _ _ whole
rows_of n whole (sum_chain f) = one_row _ _ _ _ whole
rows_of n whole (product_chain f) = one_row _ _ _ _ whole
rows_of n whole (sum_row s a b) = rows_together (rows_together (rows_of n s.left a) (rows_of (n + row_count a) s.right b)) (one_row _ _ _ _ whole)
rows_of n whole (difference_row s a b) = rows_together (rows_together (rows_of n s.left a) (rows_of (n + row_count a) s.right b)) (one_row _ _ _ _ whole)
rows_of n whole (product_row s a b) = rows_together (rows_together (rows_of n s.left a) (rows_of (n + row_count a) s.right b)) (one_row _ _ _ _ whole)
rows_of n whole (minus_row s a) = rows_together (rows_of n s a) (one_row _ _ _ _ whole)
rows_of n whole (power_row s a e) = rows_together (rows_of n s a) (one_row _ _ _ _ whole)
rows_of n whole (raise_row s a b) = rows_together (rows_together (rows_of n s.left a) (rows_of (n + row_count a) s.right b)) (one_row _ _ _ _ whole)

pub some_rows : (a : Folded) → 1 ≤ row_count a
unfolding row_count
some_rows (constant c) = omega arith
some_rows (sum_chain f) = omega arith
some_rows (product_chain f) = omega arith
some_rows (sum_row s a b) = omega arith
some_rows (difference_row s a b) = omega arith
some_rows (product_row s a b) = omega arith
some_rows (minus_row s a) = omega arith
some_rows (power_row s a n) = omega arith
some_rows (raise_row s a b) = omega arith

pub length-tree : (n : ℕ) (whole : Span) (a : Folded) → length (words_of (rows_from n whole a)) ≡ row_length * row_count a
length-tree n whole a = length-words_of (rows_from n whole a) (rows_of n whole a).full ∙ ap (λ k. row_length * k) (rows_of n whole a).count

-- ---- chains and their rows
-- The row of a chain: the chain is read from it.
abbrev pub chain_row : ℕ → List ℕ → Span → Row
chain_row kind f whole = row_words kind (length f - 1) 0 f whole

pub take_row : (n : ℕ) (f : List ℕ) → length f ≤ n → take (length f) (Chain.row n f) ≡ f
unfolding Chain.row
take_row n [] h = refl
take_row zero (a ∷ f) h = absurd (not-suc-le-zero h)
take_row (suc n) (a ∷ f) h = ap {B = List ℕ} (λ g. a ∷ g) (take_row n f (le_of_suc-le-suc h))

-- The elements of a row that is written so, and the words behind them.
pub row-elements : (f l : List ℕ) → take element_count (Chain.row element_count f ++ l) ≡ Chain.row element_count f
row-elements f l = take_at (Chain.row element_count f) l element_count (length-row element_count f)

pub row-behind : (f l : List ℕ) → drop element_count (Chain.row element_count f ++ l) ≡ l
row-behind f l = drop_at (Chain.row element_count f) l element_count (length-row element_count f)

-- The span of a row that is written so.
pub first_back : (kind a b : ℕ) (f : List ℕ) (whole : Span) → first_byte (row_words kind a b f whole) ≡ first whole
first_back kind a b f whole =
    sym (get_or-drop element_count (Chain.row element_count f ++ first whole ∷ end whole ∷ []) 0 0) ∙ ap (λ l. get_or l 0 0) (row-behind f (first whole ∷ end whole ∷ []))

pub end_back : (kind a b : ℕ) (f : List ℕ) (whole : Span) → end_byte (row_words kind a b f whole) ≡ end whole
end_back kind a b f whole =
    sym (get_or-drop element_count (Chain.row element_count f ++ first whole ∷ end whole ∷ []) 1 0) ∙ ap (λ l. get_or l 1 0) (row-behind f (first whole ∷ end whole ∷ []))

pub chain_back : (w kind : ℕ) (f : List ℕ) (whole : Span) → Fits w f → chain_of (chain_row kind f whole) ≡ f
chain_back w kind f whole fits =
    ap₂ (λ n g. take n g) count (row-elements f (first whole ∷ end whole ∷ [])) ∙ take_row element_count f fits.most
  where
    count : 1 + (length f - 1) ≡ length f
    count = omega (arith, fits.least)

-- So a constant or sum chain is read from its row.
pub sum_back : (w n : ℕ) (whole : Span) (a : Folded) → is_sum a ≡ true → WellFormed w a → of_sum (chain_of (get_or (rows_from n whole a) 0 [])) ≡ a
unfolding WellFormed rows_from Chain.row
sum_back w n whole a e =
    either (is_constant a) (is_sum_chain a) e
    (λ c. subst Back (sym ((shaped a).constantly c)) (λ h. refl))
    (λ s. subst Back (sym ((shaped a).summed s)) (λ h. ap of_sum (chain_back w 1 (elements a) whole h) ∙ sum-chain_again w (elements a) h))
  where
    Back : Folded → Type 0
    Back b = WellFormed w b → of_sum (chain_of (get_or (rows_from n whole b) 0 [])) ≡ b

-- ---- the plan
pub length-plan : (whole : Span) (a : Folded) → row_count a ≤ most_rows → length (plan_words whole a) ≡ plan_length
length-plan whole a few =
    ap suc
    (length-append (words_of (rows_from 0 whole a)) (replicate (rows_length - row_length * row_count a) 0)
    ∙ ap₂ ◌+◌ (length-tree 0 whole a) (length-replicate (rows_length - row_length * row_count a) 0))
    ∙ all
  where
    all : suc (row_length * row_count a + (rows_length - row_length * row_count a)) ≡ plan_length
    all = omega arith

module _ (whole : Span) (a : Folded) (rest : List ℕ) where
  -- What comes after the rows: the zeros that fill the plan, and what is not of the plan.
  abbrev pub after_rows : List ℕ
  after_rows = replicate (rows_length - row_length * row_count a) 0 ++ rest

  pub count_back : Plan.row_count (plan_words whole a ++ rest) ≡ row_count a
  count_back = refl

  pub words_back : drop 1 (plan_words whole a ++ rest) ≡ words_of (rows_from 0 whole a) ++ after_rows
  words_back = append_assoc (words_of (rows_from 0 whole a)) (replicate (rows_length - row_length * row_count a) 0) rest

  pub rows_back : Plan.rows (plan_words whole a ++ rest) ≡ rows_from 0 whole a
  rows_back =
      ap₂ Plan.rows_from (sym (rows_of 0 whole a).count) words_back ∙ cut_rows (rows_from 0 whole a) after_rows (rows_of 0 whole a).full

  pub row_back : (r : ℕ) → r < row_count a → Plan.row (plan_words whole a ++ rest) r ≡ get_or (rows_from 0 whole a) r []
  row_back r h = sym (earlier_row (plan_words whole a ++ rest) (row_count a) r h) ∙ ap (λ f. get_or f r []) rows_back

  pub zeros_back : row_count a ≤ most_rows → slice (row_start (row_count a)) plan_length (plan_words whole a ++ rest) ≡ replicate (rows_length - row_length * row_count a) 0
  zeros_back few =
      ap (λ f. drop (row_start (row_count a)) f) (take_at (plan_words whole a) rest plan_length (length-plan whole a few))
      ∙ drop_at (row_count a ∷ words_of (rows_from 0 whole a)) (replicate (rows_length - row_length * row_count a) 0) (row_start (row_count a)) front
    where
      front : suc (length (words_of (rows_from 0 whole a))) ≡ 1 + row_length * row_count a
      front = rw (length-tree 0 whole a) (omega arith)
