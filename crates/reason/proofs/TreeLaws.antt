-- The trees of a plan's rows, one row after the other, and what the rules see of a row's tree: its own words tell it.
use mathlib.Core.Path.{◌≡◌, refl, sym, ap, subst, ◌∙◌}
use mathlib.Core.Bool.{Bool, true, false, cond, true≢false}
use mathlib.Core.List.{List, [], ◌∷◌, ◌++◌}
use Prim.Native.Nat.{ℕ, zero, suc, ◌+◌, ◌-◌, ◌≤◌, ◌<◌}
use native.Mathlib.Nat.{not-suc-le-zero}
use native.Mathlib.Numerals.{add-one}
use native.Mathlib.Omega.{arith}
use lib.Dec.{eqb, ltb}
use lib.ListN.{length, get_or, drop, length-append, length-take, length-drop, get_or-append}
use lib.Seq.{get_or_at, get_or-take, get_or-drop}
use borrow.Author.Tests.{ltb-true, ltb-false, eqb-true, eqb-false, ne_eqb}
use Rattle.chain.specs.Chain.{value, rest, without_trailing, trimmed}
use Rattle.plan.specs.Measures.{elements_start, element_count, row_length}
use Rattle.plan.specs.Row.{Row, kind, word_a, word_b, elements, first_element}
use Rattle.plan.specs.Points.{chain_of}
use Rattle.fold.specs.Folded.{Spans, Folded, constant, is_constant, of_sum, of_product, trimmed_sum, trimmed_product}
use Rattle.fold.proofs.Rules.{picked}
use Rattle.fold.proofs.Origins.{kind_of}
use Rattle.reason.specs.declared.Seen.{Seen}
use Rattle.reason.specs.RowTrees.{operator_over, tree_over, trees, row_tree}
use Rattle.reason.proofs.Numbers.{seen}
use Rattle.reason.proofs.Staying.{passed}

-- ---- row after row
length-trees : (p : List ℕ) (r : ℕ) → length (trees p r) ≡ r
unfolding trees
length-trees p zero = refl
length-trees p (suc r) = length-append (trees p r) _ ∙ ap (λ n. n + 1) (length-trees p r) ∙ add-one r

pub earlier_tree : (p : List ℕ) (r i : ℕ) → i < r → get_or (trees p r) i (constant 0) ≡ row_tree p i
unfolding trees
earlier_tree p zero i h = absurd (not-suc-le-zero h)
earlier_tree p (suc r) i h = go (ltb i r) refl (earlier_tree p r i)
  where
    go : (t : Bool) → ltb i r ≡ t → (i < r → get_or (trees p r) i (constant 0) ≡ row_tree p i)
        → get_or (trees p r ++ row_tree p r ∷ []) i (constant 0) ≡ row_tree p i
    go true e before =
        get_or-append (trees p r) (row_tree p r ∷ []) (constant 0) i (rw (length-trees p r) (ltb-true i r e)) ∙ before (ltb-true i r e)
    go false e before = get_or_at (trees p r) (row_tree p r) [] (constant 0) i (length-trees p r ∙ sym last) ∙ ap (λ n. row_tree p n) (sym last)
      where
        last : i ≡ r
        last = omega (arith, ltb-false i r e)

-- ---- the kinds 3 to 8
pub test : {R : Type 0} (k n : ℕ) → (k ≡ n → R) → ((k ≡ n → ⊥) → R) → R
test {R} k n same other = go (eqb k n) refl
  where
    go : (t : Bool) → eqb k n ≡ t → R
    go true e = same (eqb-true k n e)
    go false e = other (eqb-false k n e)

pub each_operator : (P : ℕ → Type 0) (k : ℕ) → 3 ≤ k → k < 9 → P 3 → P 4 → P 5 → P 6 → P 7 → P 8 → P k
each_operator P k least most p₃ p₄ p₅ p₆ p₇ p₈ =
    test k 3 (λ e. subst P (sym e) p₃) (λ n₃. test k 4 (λ e. subst P (sym e) p₄) (λ n₄. test k 5 (λ e. subst P (sym e) p₅)
    (λ n₅. test k 6 (λ e. subst P (sym e) p₆) (λ n₆. test k 7 (λ e. subst P (sym e) p₇) (λ n₇. subst P (last n₃ n₄ n₅ n₆ n₇) p₈)))))
  where
    last : (k ≡ 3 → ⊥) → (k ≡ 4 → ⊥) → (k ≡ 5 → ⊥) → (k ≡ 6 → ⊥) → (k ≡ 7 → ⊥) → 8 ≡ k
    last n₃ n₄ n₅ n₆ n₇ = omega arith

-- ---- what is seen of a row
-- What one test picks of two things agrees if they do, each where it is picked.
picked_both : {A B : Type 0} (P : A → B → Type 0) (t : Bool) {x y : A} {u v : B} → (t ≡ true → P x u) → (t ≡ false → P y v)
    → P (cond t x y) (cond t u v)
picked_both P true first second = first refl
picked_both P false first second = second refl

abbrev constant_seen : ℕ → Seen
constant_seen c = record { kind = 0; length = 0; first = c }

abbrev operator_seen : ℕ → Seen
operator_seen k = record { kind = k; length = 0; first = 0 }

-- A chain of length 0 is a constant.
abbrev pub chain_seen : ℕ → ℕ → ℕ → Seen
chain_seen k n c = cond (eqb n 0) (constant_seen c) (record { kind = k; length = n; first = c })

abbrev pub seen_in : Row → Seen
seen_in x =
    cond (eqb (kind x) 0) (constant_seen (first_element x))
    (cond (eqb (kind x) 1) (chain_seen 1 (length (trimmed 0 (chain_of x)) - 1) (first_element x))
    (cond (eqb (kind x) 2) (cond (eqb (first_element x) 0) (constant_seen 0) (chain_seen 2 (length (trimmed 1 (chain_of x)) - 1) (first_element x)))
    (operator_seen (kind x))))

pub chain-seen : (k n c : ℕ) → 0 < n → record { kind = k; length = n; first = c } ≡ chain_seen k n c
chain-seen k n c some = ap (λ t. cond t (constant_seen c) (record { kind = k; length = n; first = c })) (sym (ne_eqb n 0 (λ e. omega arith)))

-- Trimmed chains.
sum-seen : (f : List ℕ) → seen (trimmed_sum f) ≡ chain_seen 1 (length (trimmed 0 f) - 1) (value 0 f)
unfolding trimmed kind_of
sum-seen f = go (value 0 f) (without_trailing 0 (rest f))
  where
    go : (a : ℕ) (g : List ℕ) → seen (of_sum (a ∷ g)) ≡ chain_seen 1 (length (a ∷ g) - 1) a
    go a [] = refl
    go a (b ∷ g) = chain-seen 1 (length (a ∷ b ∷ g) - 1) a (omega arith)

product-seen : (f : List ℕ) → seen (trimmed_product f)
    ≡ cond (eqb (value 1 f) 0) (constant_seen 0) (chain_seen 2 (length (trimmed 1 f) - 1) (value 1 f))
unfolding trimmed kind_of
product-seen f = go (value 1 f) (without_trailing 1 (rest f)) (eqb (value 1 f) 0)
  where
    go : (a : ℕ) (g : List ℕ) (t : Bool)
        → seen (of_product (cond t (0 ∷ []) (a ∷ g))) ≡ cond t (constant_seen 0) (chain_seen 2 (length (a ∷ g) - 1) a)
    go a g true = refl
    go a [] false = refl
    go a (b ∷ g) false = chain-seen 2 (length (a ∷ b ∷ g) - 1) a (omega arith)

-- The first element of a row's chain.
first_in_chain : (unit : ℕ) (x : Row) → length x ≡ row_length → value unit (chain_of x) ≡ first_element x
first_in_chain unit x long =
    first (chain_of x) (simp (length-take, length-drop) (omega arith))
    ∙ get_or-take (1 + word_a x) (elements x) 0 0 (omega arith)
    ∙ get_or-take element_count (drop elements_start x) 0 0 (omega arith)
    ∙ get_or-drop elements_start x 0 0
  where
    first : (f : List ℕ) → 0 < length f → value unit f ≡ get_or f 0 0
    first [] h = absurd (not-suc-le-zero h)
    first (a ∷ f) h = refl

module _ (s : Spans) (left right : Folded) (x : Row) where
  pub constant-tree : eqb (kind x) 0 ≡ true → is_constant (tree_over s left right x) ≡ true
  unfolding tree_over
  constant-tree e = picked (λ t. is_constant t ≡ true) (eqb (kind x) 0) (λ _. refl) (λ other. absurd (true≢false (sym e ∙ other)))

  -- "a product chain with first element 0 counts as a constant".
  pub zero-tree : length x ≡ row_length → kind x ≡ 2 → first_element x ≡ 0 → tree_over s left right x ≡ constant 0
  unfolding tree_over
  zero-tree long product none =
      rw product (ap (λ c. of_product (cond (eqb c 0) (0 ∷ []) (trimmed 1 (chain_of x)))) (first_in_chain 1 x long ∙ none))

  -- A row of kinds 3 to 8.
  module _ (least : 3 ≤ kind x) where
    pub operator-tree : tree_over s left right x ≡ operator_over (kind x) (word_b x) s left right
    unfolding tree_over
    operator-tree =
        passed (eqb (kind x) 0) _ (ne_eqb (kind x) 0 (λ e. omega arith))
        (passed (eqb (kind x) 1) _ (ne_eqb (kind x) 1 (λ e. omega arith)) (passed (eqb (kind x) 2) _ (ne_eqb (kind x) 2 (λ e. omega arith)) refl))

  -- What is seen of the tree is what its row's words tell.
  pub seen_in_row : length x ≡ row_length → kind x < 9 → seen (tree_over s left right x) ≡ seen_in x
  unfolding operator_over tree_over kind_of
  seen_in_row long known =
      picked_both Agree (eqb (kind x) 0) (λ e. refl)
      (λ n₀. picked_both Agree (eqb (kind x) 1)
      (λ e. sum-seen (chain_of x) ∙ ap (chain_seen 1 (length (trimmed 0 (chain_of x)) - 1)) (first_in_chain 0 x long))
      (λ n₁. picked_both Agree (eqb (kind x) 2)
      (λ e. product-seen (chain_of x)
      ∙ ap (λ c. cond (eqb c 0) (constant_seen 0) (chain_seen 2 (length (trimmed 1 (chain_of x)) - 1) c)) (first_in_chain 1 x long))
      (λ n₂. operators (least (eqb-false (kind x) 0 n₀) (eqb-false (kind x) 1 n₁) (eqb-false (kind x) 2 n₂)))))
    where
      Agree : Folded → Seen → Type 0
      Agree t c = seen t ≡ c

      least : (kind x ≡ 0 → ⊥) → (kind x ≡ 1 → ⊥) → (kind x ≡ 2 → ⊥) → 3 ≤ kind x
      least n₀ n₁ n₂ = omega arith

      operators : 3 ≤ kind x → seen (operator_over (kind x) (word_b x) s left right) ≡ operator_seen (kind x)
      operators least =
          each_operator (λ k. seen (operator_over k (word_b x) s left right) ≡ operator_seen k) (kind x) least known refl refl refl refl refl refl
