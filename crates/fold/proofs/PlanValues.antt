-- The plan of a folded tree says what the tree says: the value of its root, one shift of its chains, and so every point of a filling.
use mathlib.Core.Path.{◌≡◌, refl, sym, ap, ap₂, subst, ◌∙◌}
use mathlib.Core.Bool.{true, false}
use mathlib.Core.List.{List, [], ◌∷◌, ◌++◌, map, map-append, append_assoc}
use Prim.Native.Nat.{ℕ, zero, suc, ◌+◌, ◌-◌, ◌*◌, ◌%◌, ◌^◌, ◌≤◌, ◌<◌}
use native.Mathlib.Nat.{zero-add, add-zero, mul-one, mod-eq_of_lt, suc_inj, suc-ne-zero, not-suc-le-zero, le_of_suc-le-suc}
use native.Mathlib.Omega.{arith}
use lib.ListN.{length, get_or, drop, replicate, length-append, length-map, get_or-append}
use lib.Seq.{get_or-take, get_or_at}
use Rattle.plan.specs.Measures.{element_count, row_length, rows_length}
use Rattle.word.specs.Word as Word
use Rattle.formula.specs.Tree.{Span, first, end}
use Rattle.chain.specs.Chain as Chain
use Rattle.chain.specs.SumChain.{sum_shift}
use Rattle.chain.specs.ProductChain.{product_shift}
use Rattle.chain.proofs.Values as Values
use Rattle.chain.proofs.Rows.{entry_row}
use Rattle.chain.proofs.Trimming.{length-row}
use Rattle.chain.proofs.Shifting.{length_shift}
use Rattle.chain.proofs.SumLaws.{value-words}
use Rattle.chain.proofs.ProductLaws.{value-product-words}
use Rattle.plan.specs.Row.{Row, kind, is_chain}
use Rattle.plan.specs.Points.{operator_value, row_value, values_from, root_value, with_chain, chain_of, shifted_row, shifted_from, shifted_plan}
use Rattle.plan.specs.Plan.{refusal}
use Rattle.plan.specs.Filling.{plan_after}
use Rattle.plan.proofs.RowLaws.{values-append}
use Rattle.plan.proofs.Keeping.{shifted_sum, shifted_product, shifted_other}
use Rattle.plan.proofs.Later.{length-values, values_keep}
use Rattle.plan.proofs.Sharing.{shared, point_at}
use Rattle.plan.specs.Calls.{Call, written, points_of}
use Rattle.fold.specs.Folded.{Spans, Folded, constant, sum_chain, product_chain, sum_row, difference_row, product_row, minus_row, power_row, raise_row}
use Rattle.fold.specs.Folded.{is_constant, value_at}
use Rattle.fold.specs.Layout.{row_count, row_words, root_row, behind_both, rows_from, words_of, plan_words}
use Rattle.fold.proofs.Shape.{Fits, OddBase, WellFormed}
use Rattle.fold.proofs.Tests.{shaped}
use Rattle.fold.proofs.FoldShape.{words_below}
use Rattle.fold.proofs.ReadBack.{row-elements, row-behind, FullRows, first-row, later_words, rows_of, some_rows}
use Rattle.fold.proofs.ReadBack.{chain_row, chain_back, after_rows, words_back, rows_back}

-- ---- the value of the root
-- The value of a row behind others is the last one.
value-behind : (w : ℕ) (earlier : List ℕ) (f : List Row) (row : Row) (m : ℕ) → length earlier + length f ≡ m
    → get_or (values_from w earlier (f ++ row ∷ [])) m 0 ≡ row_value w (values_from w earlier f) row
unfolding values_from
value-behind w earlier f row m e =
    ap (λ l. get_or l m 0) (values-append w earlier f (row ∷ []))
    ∙ get_or_at (values_from w earlier f) (row_value w (values_from w earlier f) row) [] 0 m (length-values w earlier f ∙ e)

-- Values found stay.
value-kept : (w : ℕ) (earlier : List ℕ) (f : List Row) (i : ℕ) → i < length earlier → get_or (values_from w earlier f) i 0 ≡ get_or earlier i 0
value-kept w earlier f i h =
    sym (get_or-take (length earlier) (values_from w earlier f) i 0 h) ∙ ap (λ l. get_or l i 0) (values_keep w earlier f)

-- x is the value of the root of a, whatever its span, at the present point, whatever rows come before.
abbrev Root : ℕ → Folded → ℕ → Type 0
Root w a x = (s : Span) (n : ℕ) (earlier : List ℕ) → length earlier ≡ n → get_or (values_from w earlier (rows_from n s a)) (root_row n a) 0 ≡ x

module _ (w n : ℕ) (earlier : List ℕ) (e : length earlier ≡ n) (k : ℕ) (whole : Span) where
  one_operand : (s : Span) (a : Folded) (x : ℕ) → Root w a x → (b : ℕ)
      → get_or (values_from w earlier (rows_from n s a ++ row_words k (root_row n a) b [] whole ∷ [])) (n + (row_count a + 1) - 1) 0
      ≡ operator_value w (row_words k (root_row n a) b [] whole) x (get_or (values_from w earlier (rows_from n s a)) b 0)
  one_operand s a x left b =
      value-behind w earlier (rows_from n s a) (row_words k (root_row n a) b [] whole) (n + (row_count a + 1) - 1) last
      ∙ ap (λ z. operator_value w (row_words k (root_row n a) b [] whole) z (get_or (values_from w earlier (rows_from n s a)) b 0)) (left s n earlier e)
    where
      last : length earlier + length (rows_from n s a) ≡ n + (row_count a + 1) - 1
      last = rw (e, (rows_of n s a).count) (omega arith)

  two_operands : (s : Spans) (a : Folded) (x : ℕ) → Root w a x → (b : Folded) (y : ℕ) → Root w b y
      → get_or (values_from w earlier (behind_both n k whole a b (rows_from n s.left a) (rows_from (n + row_count a) s.right b)))
      (n + (row_count a + row_count b + 1) - 1) 0
      ≡ operator_value w (row_words k (root_row n a) (root_row (n + row_count a) b) [] whole) x y
  two_operands s a x left b y right =
      value-behind w earlier (rows_from n s.left a ++ rows_from (n + row_count a) s.right b) row (n + (row_count a + row_count b + 1) - 1) last
      ∙ ap (λ l. row_value w l row) (values-append w earlier (rows_from n s.left a) (rows_from (n + row_count a) s.right b))
      ∙ ap₂ (λ u v. operator_value w row u v)
      (value-kept w found (rows_from (n + row_count a) s.right b) (root_row n a) before ∙ left s.left n earlier e)
      (right s.right (n + row_count a) found count)
    where
      row : Row
      row = row_words k (root_row n a) (root_row (n + row_count a) b) [] whole

      found : List ℕ
      found = values_from w earlier (rows_from n s.left a)

      count : length found ≡ n + row_count a
      count = length-values w earlier (rows_from n s.left a) ∙ ap₂ ◌+◌ e (rows_of n s.left a).count

      before : root_row n a < length found
      before = rw count (omega (arith, some_rows a))

      last : length earlier + length (rows_from n s.left a ++ rows_from (n + row_count a) s.right b) ≡ n + (row_count a + row_count b + 1) - 1
      last =
          rw
          (length-append (rows_from n s.left a) (rows_from (n + row_count a) s.right b), e, (rows_of n s.left a).count, (rows_of (n + row_count a) s.right b).count)
          (omega arith)

-- A constant and a chain have the value of their element 0, which is a word.
no_operand : (w n : ℕ) (earlier : List ℕ) → length earlier ≡ n → (row : Row)
    → get_or (values_from w earlier (row ∷ [])) (n + 1 - 1) 0 ≡ row_value w earlier row
unfolding values_from
no_operand w n earlier e row = value-behind w earlier [] row (n + 1 - 1) (rw e (omega arith))

first_entry : (f l : List ℕ) → get_or (Chain.row element_count f ++ l) 0 0 ≡ get_or f 0 0
first_entry f l =
    get_or-append (Chain.row element_count f) l 0 0 (omega (arith, length-row element_count f)) ∙ entry_row element_count f 0 (omega arith)

first_element : (unit : ℕ) (f : List ℕ) → 0 < length f → Chain.value unit f ≡ get_or f 0 0
first_element unit [] h = absurd (not-suc-le-zero h)
first_element unit (a ∷ f) h = refl

chain-now : (◌⊙◌ : ℕ → ℕ → ℕ) (unit : ℕ) → ((a : ℕ) → ◌⊙◌ a unit ≡ a) → (w : ℕ) (f l : List ℕ) → Fits w f
    → get_or (Chain.row element_count f ++ l) 0 0 ≡ Chain.value_at ◌⊙◌ unit f 0 % 2 ^ w
chain-now ◌⊙◌ unit right-unit w f l fits =
    first_entry f l
    ∙ sym (mod-eq_of_lt (fits.words 0))
    ∙ ap (λ z. z % 2 ^ w) (sym (Values.value-now ◌⊙◌ unit right-unit f ∙ first_element unit f (omega (arith, fits.least))))

-- The root's value stands last, whatever rows come before; so in a plan.
root_of : (w : ℕ) (a : Folded) → WellFormed w a → Root w a (value_at w a 0)
unfolding WellFormed row_count rows_from value_at
root_of w (constant c) h s n earlier e = no_operand w n earlier e _ ∙ first_entry (c ∷ []) _ ∙ sym (mod-eq_of_lt h)
root_of w (sum_chain f) h s n earlier e = no_operand w n earlier e _ ∙ chain-now ◌+◌ 0 add-zero w f _ h
root_of w (product_chain f) h s n earlier e = no_operand w n earlier e _ ∙ chain-now ◌*◌ 1 mul-one w f _ h
root_of w (sum_row s a b) h whole n earlier e = two_operands w n earlier e 3 whole s a _ (root_of w a h.0) b _ (root_of w b h.1)
root_of w (difference_row s a b) h whole n earlier e = two_operands w n earlier e 4 whole s a _ (root_of w a h.0) b _ (root_of w b h.1)
root_of w (product_row s a b) h whole n earlier e = two_operands w n earlier e 5 whole s a _ (root_of w a h.0) b _ (root_of w b h.1)
root_of w (minus_row s a) h whole n earlier e = one_operand w n earlier e 6 whole s a _ (root_of w a h) 0
root_of w (power_row s a m) h whole n earlier e = one_operand w n earlier e 7 whole s a _ (root_of w a h.2) m
root_of w (raise_row s a b) h whole n earlier e = two_operands w n earlier e 8 whole s a _ (root_of w a h.1) b _ (root_of w b h.2)

root_value_lem : (w : ℕ) (whole : Span) (a : Folded) (rest : List ℕ) → WellFormed w a → root_value w (plan_words whole a ++ rest) ≡ value_at w a 0
unfolding root_value
root_value_lem w whole a rest h =
    ap (λ f. get_or (values_from w [] f) (row_count a - 1) 0) (rows_back whole a rest)
    ∙ ap (λ k. get_or (values_from w [] (rows_from 0 whole a)) (k - 1) 0) (sym (zero-add (row_count a)))
    ∙ root_of w a h whole 0 [] refl

-- ---- one shift
-- The tree whose chains are all shifted once.
unfoldable shifted_folded : ℕ → Folded → Folded
shifted_folded w (constant c) = constant c
shifted_folded w (sum_chain f) = sum_chain (Chain.words w (sum_shift f))
shifted_folded w (product_chain f) = product_chain (Chain.words w (product_shift f))
shifted_folded w (sum_row s a b) = sum_row s (shifted_folded w a) (shifted_folded w b)
shifted_folded w (difference_row s a b) = difference_row s (shifted_folded w a) (shifted_folded w b)
shifted_folded w (product_row s a b) = product_row s (shifted_folded w a) (shifted_folded w b)
shifted_folded w (minus_row s a) = minus_row s (shifted_folded w a)
shifted_folded w (power_row s a n) = power_row s (shifted_folded w a) n
shifted_folded w (raise_row s a b) = raise_row s (shifted_folded w a) (shifted_folded w b)

-- It has as many rows, has at each index the value that the tree has at the next one, and is well_formed.
count-shifted : (w : ℕ) (a : Folded) → row_count (shifted_folded w a) ≡ row_count a
unfolding shifted_folded row_count
count-shifted w (constant c) = refl
count-shifted w (sum_chain f) = refl
count-shifted w (product_chain f) = refl
count-shifted w (sum_row s a b) = ap₂ (λ n m. n + m + 1) (count-shifted w a) (count-shifted w b)
count-shifted w (difference_row s a b) = ap₂ (λ n m. n + m + 1) (count-shifted w a) (count-shifted w b)
count-shifted w (product_row s a b) = ap₂ (λ n m. n + m + 1) (count-shifted w a) (count-shifted w b)
count-shifted w (minus_row s a) = ap (λ n. n + 1) (count-shifted w a)
count-shifted w (power_row s a n) = ap (λ n. n + 1) (count-shifted w a)
count-shifted w (raise_row s a b) = ap₂ (λ n m. n + m + 1) (count-shifted w a) (count-shifted w b)

value_shifted : (w : ℕ) (a : Folded) (i : ℕ) → value_at w (shifted_folded w a) i ≡ value_at w a (suc i)
unfolding shifted_folded value_at
value_shifted w (constant c) i = refl
value_shifted w (sum_chain f) i = value-words w (sum_shift f) i ∙ ap (λ z. z % 2 ^ w) (Values.value-shift ◌+◌ 0 add-zero f i)
value_shifted w (product_chain f) i = value-product-words w (product_shift f) i ∙ ap (λ z. z % 2 ^ w) (Values.value-shift ◌*◌ 1 mul-one f i)
value_shifted w (sum_row s a b) i = ap₂ (λ x y. Word.sum w x y) (value_shifted w a i) (value_shifted w b i)
value_shifted w (difference_row s a b) i = ap₂ (λ x y. Word.difference w x y) (value_shifted w a i) (value_shifted w b i)
value_shifted w (product_row s a b) i = ap₂ (λ x y. Word.product w x y) (value_shifted w a i) (value_shifted w b i)
value_shifted w (minus_row s a) i = ap (λ x. Word.negation w x) (value_shifted w a i)
value_shifted w (power_row s a n) i = ap (λ x. Word.power w x n) (value_shifted w a i)
value_shifted w (raise_row s a b) i = ap₂ (λ x y. Word.power w x y) (value_shifted w a i) (value_shifted w b i)

length-shifted : (◌⊙◌ : ℕ → ℕ → ℕ) (w : ℕ) (f : List ℕ) → length (Chain.words w (Chain.shift ◌⊙◌ f)) ≡ length f
length-shifted ◌⊙◌ w f = length-map (Chain.shift ◌⊙◌ f) (λ a. a % 2 ^ w) ∙ length_shift ◌⊙◌ f

fits_shifted : (◌⊙◌ : ℕ → ℕ → ℕ) (w : ℕ) (f : List ℕ) → Fits w f → Fits w (Chain.words w (Chain.shift ◌⊙◌ f))
fits_shifted ◌⊙◌ w f h = record {
  least = rw (length-shifted ◌⊙◌ w f) h.least;
  most = rw (length-shifted ◌⊙◌ w f) h.most;
  words = words_below w (Chain.shift ◌⊙◌ f);
}

constant-shifted : (w : ℕ) (a : Folded) → is_constant a ≡ true → shifted_folded w a ≡ a
unfolding shifted_folded
constant-shifted w a e = subst (λ b. shifted_folded w b ≡ b) (sym ((shaped a).constantly e)) refl

well_shifted : (w : ℕ) (a : Folded) → WellFormed w a → WellFormed w (shifted_folded w a)
unfolding shifted_folded WellFormed
well_shifted w (constant c) h = h
well_shifted w (sum_chain f) h = fits_shifted ◌+◌ w f h
well_shifted w (product_chain f) h = fits_shifted ◌*◌ w f h
well_shifted w (sum_row s a b) h = (well_shifted w a h.0, well_shifted w b h.1)
well_shifted w (difference_row s a b) h = (well_shifted w a h.0, well_shifted w b h.1)
well_shifted w (product_row s a b) h = (well_shifted w a h.0, well_shifted w b h.1)
well_shifted w (minus_row s a) h = well_shifted w a h
well_shifted w (power_row s a n) h = (h.0, h.1, well_shifted w a h.2)
well_shifted w (raise_row s a b) h =
    (subst OddBase (sym (constant-shifted w a h.0.known)) h.0, well_shifted w a h.1, well_shifted w b h.2)

-- ---- the rows of the shifted tree
-- A chain of the same length written over a chain in its row.
written_over : (n : ℕ) (f g : List ℕ) → length f ≤ n → length g ≡ length f → g ++ drop (length f) (Chain.row n f) ≡ Chain.row n g
unfolding Chain.row
written_over n [] [] h e = refl
written_over n [] (b ∷ g) h e = absurd (suc-ne-zero (length g) e)
written_over n (a ∷ f) [] h e = absurd (suc-ne-zero (length f) (sym e))
written_over zero (a ∷ f) (b ∷ g) h e = absurd (not-suc-le-zero h)
written_over (suc n) (a ∷ f) (b ∷ g) h e = ap {B = List ℕ} (λ l. b ∷ l) (written_over n f g (le_of_suc-le-suc h) (suc_inj e))

-- Another chain is put into the row of a chain, and so it is shifted; the span stays.
module _ (w k : ℕ) (f : List ℕ) (whole : Span) (fits : Fits w f) where
  chain-put : (g : List ℕ) → length g ≡ length f → with_chain (chain_row k f whole) g ≡ chain_row k g whole
  chain-put g e =
      ap {B = Row} (λ l. k ∷ (length f - 1) ∷ 0 ∷ l) (ap₂ (λ n h. (g ++ drop n h) ++ drop element_count (Chain.row element_count f ++ span)) count (row-elements f span))
      ∙ ap₂ {B = List ℕ} {C = Row} (λ n l. k ∷ (n - 1) ∷ 0 ∷ l) (sym e) (ap₂ ◌++◌ (written_over element_count f g fits.most e) (row-behind f span))
    where
      span : List ℕ
      span = first whole ∷ end whole ∷ []

      count : 1 + (length f - 1) ≡ length f
      count = omega (arith, fits.least)

  chain-shifted : (◌⊙◌ : ℕ → ℕ → ℕ)
      → with_chain (chain_row k f whole) (Chain.words w (Chain.shift ◌⊙◌ (chain_of (chain_row k f whole)))) ≡ chain_row k (Chain.words w (Chain.shift ◌⊙◌ f)) whole
  chain-shifted ◌⊙◌ =
      ap (λ g. with_chain (chain_row k f whole) (Chain.words w (Chain.shift ◌⊙◌ g))) (chain_back w k f whole fits)
      ∙ chain-put (Chain.words w (Chain.shift ◌⊙◌ f)) (length-shifted ◌⊙◌ w f)

-- The row of a constant or an operator stays.
behind-shifted : (w : ℕ) (f g : List Row) (row : Row) → is_chain (kind row) ≡ false → g ≡ map (shifted_row w) f
    → g ++ row ∷ [] ≡ map (shifted_row w) (f ++ row ∷ [])
behind-shifted w f g row other e =
    ap₂ (λ l x. l ++ x ∷ []) e (sym (shifted_other w row other)) ∙ sym (map-append (shifted_row w) f (row ∷ []))

-- The rows of a tree shifted are those of the shifted tree, under the same span.
abbrev RowsShift : ℕ → ℕ → Span → Folded → Type 0
RowsShift w n s a = rows_from n s (shifted_folded w a) ≡ map (shifted_row w) (rows_from n s a)

module _ (w n k : ℕ) (other : is_chain k ≡ false) (whole : Span) where
  one_shifted : (s : Span) (a : Folded) → RowsShift w n s a → (b : ℕ)
      → rows_from n s (shifted_folded w a) ++ row_words k (root_row n (shifted_folded w a)) b [] whole ∷ []
      ≡ map (shifted_row w) (rows_from n s a ++ row_words k (root_row n a) b [] whole ∷ [])
  one_shifted s a left b =
      ap (λ m. rows_from n s (shifted_folded w a) ++ row_words k (n + m - 1) b [] whole ∷ []) (count-shifted w a)
      ∙ behind-shifted w (rows_from n s a) (rows_from n s (shifted_folded w a)) (row_words k (root_row n a) b [] whole) other left

  two_shifted : (s : Spans) (a : Folded) → RowsShift w n s.left a → (b : Folded) → RowsShift w (n + row_count a) s.right b
      → behind_both n k whole (shifted_folded w a) (shifted_folded w b)
      (rows_from n s.left (shifted_folded w a)) (rows_from (n + row_count (shifted_folded w a)) s.right (shifted_folded w b))
      ≡ map (shifted_row w) (behind_both n k whole a b (rows_from n s.left a) (rows_from (n + row_count a) s.right b))
  two_shifted s a left b right =
      ap₂
      (λ m l. rows_from n s.left (shifted_folded w a) ++ rows_from (n + m) s.right (shifted_folded w b) ++ row_words k (n + m - 1) (n + m + l - 1) [] whole ∷ [])
      (count-shifted w a) (count-shifted w b)
      ∙ behind-shifted w (rows_from n s.left a ++ rows_from (n + row_count a) s.right b) _
      (row_words k (root_row n a) (root_row (n + row_count a) b) [] whole) other
      (ap₂ ◌++◌ left right ∙ sym (map-append (shifted_row w) (rows_from n s.left a) (rows_from (n + row_count a) s.right b)))

rows-shifted : (w n : ℕ) (whole : Span) (a : Folded) → WellFormed w a → RowsShift w n whole a
unfolding shifted_folded WellFormed rows_from
rows-shifted w n whole (constant c) h = behind-shifted w [] [] (row_words 0 0 0 (c ∷ []) whole) refl refl
rows-shifted w n whole (sum_chain f) h =
    ap {B = List Row} (λ row. row ∷ []) (sym (shifted_sum w (chain_row 1 f whole) refl ∙ chain-shifted w 1 f whole h ◌+◌))
rows-shifted w n whole (product_chain f) h =
    ap {B = List Row} (λ row. row ∷ []) (sym (shifted_product w (chain_row 2 f whole) refl ∙ chain-shifted w 2 f whole h ◌*◌))
rows-shifted w n whole (sum_row s a b) h =
    two_shifted w n 3 refl whole s a (rows-shifted w n s.left a h.0) b (rows-shifted w (n + row_count a) s.right b h.1)
rows-shifted w n whole (difference_row s a b) h =
    two_shifted w n 4 refl whole s a (rows-shifted w n s.left a h.0) b (rows-shifted w (n + row_count a) s.right b h.1)
rows-shifted w n whole (product_row s a b) h =
    two_shifted w n 5 refl whole s a (rows-shifted w n s.left a h.0) b (rows-shifted w (n + row_count a) s.right b h.1)
rows-shifted w n whole (minus_row s a) h = one_shifted w n 6 refl whole s a (rows-shifted w n s a h) 0
rows-shifted w n whole (power_row s a m) h = one_shifted w n 7 refl whole s a (rows-shifted w n s a h.2) m
rows-shifted w n whole (raise_row s a b) h =
    two_shifted w n 8 refl whole s a (rows-shifted w n s.left a h.1) b (rows-shifted w (n + row_count a) s.right b h.2)

-- ---- the plan shifted once
-- A shift of the words of rows is the words of the shifted rows.
words-shifted : (w : ℕ) (f : List Row) (rest : List ℕ) → FullRows f
    → shifted_from w (length f) (words_of f ++ rest) ≡ words_of (map (shifted_row w) f) ++ rest
unfolding FullRows words_of shifted_from
words-shifted w [] rest h = refl
words-shifted w (row ∷ f) rest h =
    ap₂ (λ x l. shifted_row w x ++ shifted_from w (length f) l) (first-row row (words_of f) rest h.0) (later_words row (words_of f) rest h.0)
    ∙ ap (λ l. shifted_row w row ++ l) (words-shifted w f rest h.1)
    ∙ sym (append_assoc (shifted_row w row) (words_of (map (shifted_row w) f)) rest)

plan-shifted : (w : ℕ) (whole : Span) (a : Folded) (rest : List ℕ) → WellFormed w a
    → shifted_plan w (plan_words whole a ++ rest) ≡ plan_words whole (shifted_folded w a) ++ rest
unfolding shifted_plan
plan-shifted w whole a rest h =
    ap₂ {C = List ℕ} (λ n l. row_count a ∷ shifted_from w n l) (sym (rows_of 0 whole a).count) (words_back whole a rest)
    ∙ ap₂ {C = List ℕ} ◌∷◌ (sym (count-shifted w a)) (words-shifted w (rows_from 0 whole a) (after_rows whole a rest) (rows_of 0 whole a).full)
    ∙ ap₂ {C = List ℕ} (λ f n. row_count (shifted_folded w a) ∷ words_of f ++ (replicate (rows_length - row_length * n) 0 ++ rest))
    (sym (rows-shifted w 0 whole a h)) (sym (count-shifted w a))
    ∙ ap {B = List ℕ} (λ l. row_count (shifted_folded w a) ∷ l) (sym (words_back whole (shifted_folded w a) rest))

-- ---- the plan at point i
-- The tree whose chains are all shifted i times.
unfoldable folded_after : ℕ → ℕ → Folded → Folded
folded_after w zero a = a
folded_after w (suc i) a = folded_after w i (shifted_folded w a)

well_after : (w i : ℕ) (a : Folded) → WellFormed w a → WellFormed w (folded_after w i a)
unfolding folded_after
well_after w zero a h = h
well_after w (suc i) a h = well_after w i (shifted_folded w a) (well_shifted w a h)

value_after : (w i : ℕ) (a : Folded) → value_at w (folded_after w i a) 0 ≡ value_at w a i
unfolding folded_after
value_after w zero a = refl
value_after w (suc i) a = value_after w i (shifted_folded w a) ∙ value_shifted w a i

plan_after_lem : (w i : ℕ) (whole : Span) (a : Folded) (rest : List ℕ) → WellFormed w a
    → plan_after w i (plan_words whole a ++ rest) ≡ plan_words whole (folded_after w i a) ++ rest
unfolding folded_after plan_after
plan_after_lem w zero whole a rest h = refl
plan_after_lem w (suc i) whole a rest h =
    ap (plan_after w i) (plan-shifted w whole a rest h) ∙ plan_after_lem w i whole (shifted_folded w a) rest (well_shifted w a h)

-- The value of the plan after i points is the tree's value at index i.
pub plan-value : (w i : ℕ) (whole : Span) (a : Folded) (rest : List ℕ) → WellFormed w a → root_value w (plan_after w i (plan_words whole a ++ rest)) ≡ value_at w a i
plan-value w i whole a rest h =
    ap (root_value w) (plan_after_lem w i whole a rest h) ∙ root_value_lem w whole (folded_after w i a) rest (well_after w i a h) ∙ value_after w i a

-- ---- the filling
-- Whatever calls are made on the plan, point i of what they write is the tree's value at index i.
pub points-written : (w : ℕ) (whole : Span) (a : Folded) (rest : List ℕ) (calls : List Call) (i : ℕ) → WellFormed w a → refusal (plan_words whole a ++ rest) ≡ 0
    → i < points_of w (plan_words whole a ++ rest) calls → get_or (written w (plan_words whole a ++ rest) calls) i 0 ≡ value_at w a i
points-written w whole a rest calls i h accepted within =
    ap (λ l. get_or l i 0) (shared w (plan_words whole a ++ rest) calls accepted).0
    ∙ point_at w (points_of w (plan_words whole a ++ rest) calls) (plan_words whole a ++ rest) i within
    ∙ plan-value w i whole a rest h
