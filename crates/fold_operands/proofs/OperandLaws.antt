-- Operands that stand in a plan: where their roots are, what the roots' words are, and what the code's tests on them say.
use mathlib.Core.Path.{◌≡◌, refl, sym, ap, ap₂, ◌∙◌}
use mathlib.Core.Bool.{Bool, true, false, ◌&&◌, and-eq-true_iff}
use mathlib.Core.List.{List, [], ◌∷◌}
use Prim.Native.Nat.{ℕ, ◌+◌, ◌-◌, ◌≤◌, ◌<◌}
use native.Mathlib.Omega.{arith}
use lib.Dec.{eqb}
use lib.ListN.{length, take}
use borrow.Author.Tests.{eqb-true, eqb-false}
use Rattle.chain.specs.Chain.{row}
use Rattle.plan.specs.Row.{Row, kind, word_a, elements, first_element}
use Rattle.plan.specs.Plan as Plan
use Rattle.formula.specs.Tree as Tree
use Rattle.formula.specs.Tree.{Span}
use Rattle.fold.specs.Folded as Folded
use Rattle.fold.specs.Folded.{Spans, Folded, constant, sum_chain, product_chain, sum_row, difference_row, product_row, minus_row, power_row, raise_row}
use Rattle.fold.specs.Folded.{is_constant}
use Rattle.fold.specs.Folding.{word_of, is, length_of}
use Rattle.fold.specs.Layout.{row_words}
use Rattle.fold.proofs.Shape.{WellFormed}
use Rattle.fold.proofs.ReadBack.{row-elements, some_rows, take_row}
use Rattle.fold.proofs.Tests.{shaped}
use Rattle.fold.proofs.Origins.{kind_of}
use Rattle.fold_rows.proofs.Stood.{root_kind, chain-stands, is_test, is_none}
use Rattle.fold_operands.specs.Operands.{Operand, Operands}

-- ---- chains that fit a row
pub record Chain (f : List ℕ) : Type 0 where
  pub some : 0 < length f
  pub most : length f ≤ 17

-- A row's elements up to its length are the chain.
pub row-taken : (f : List ℕ) → Chain f → take (length f - 1 + 1) (row 17 f) ≡ f
row-taken f h = ap (λ k. take k (row 17 f)) count ∙ take_row 17 f h.most
  where
    count : length f - 1 + 1 ≡ length f
    count = omega (arith, h.some)

pub chain-operand : (a : Folded) → kind_of a ≤ 2 → WellFormed 64 a → Chain (Folded.elements a)
unfolding kind_of WellFormed
chain-operand (constant c) h w = record { some = omega arith; most = omega arith }
chain-operand (sum_chain f) h w = record { some = omega (arith, w.least); most = w.most }
chain-operand (product_chain f) h w = record { some = omega (arith, w.least); most = w.most }
chain-operand (sum_row s a b) h w = absurd (omega arith)
chain-operand (difference_row s a b) h w = absurd (omega arith)
chain-operand (product_row s a b) h w = absurd (omega arith)
chain-operand (minus_row s a) h w = absurd (omega arith)
chain-operand (power_row s a n) h w = absurd (omega arith)
chain-operand (raise_row s a b) h w = absurd (omega arith)

-- ---- a constant or a sum chain: "C standing as f0"
pub data Sum : Folded → Type 0 where
  one : (c : ℕ) → Sum (constant c)
  several : (f : List ℕ) → Sum (sum_chain f)

pub sum-operand : (a : Folded) → kind_of a < 2 → Sum a
unfolding kind_of
sum-operand (constant c) h = one c
sum-operand (sum_chain f) h = several f
sum-operand (product_chain f) h = absurd (omega arith)
sum-operand (sum_row s a b) h = absurd (omega arith)
sum-operand (difference_row s a b) h = absurd (omega arith)
sum-operand (product_row s a b) h = absurd (omega arith)
sum-operand (minus_row s a) h = absurd (omega arith)
sum-operand (power_row s a n) h = absurd (omega arith)
sum-operand (raise_row s a b) h = absurd (omega arith)

-- ---- the constant n
pub is_the_constant : (n : ℕ) (a : Folded) → is n a ≡ true → a ≡ constant n
is_the_constant n a e =
    let (c, same) = (and-eq-true_iff (is_constant a) (eqb (word_of a) n)).0 e in
    (shaped a).constantly c ∙ ap constant (eqb-true (word_of a) n same)

-- The code's test for it, on row r.
abbrev pub constant_at : List ℕ → ℕ → ℕ → Bool
constant_at p r n = eqb (kind (Plan.row p r)) 0 && eqb (first_element (Plan.row p r)) n

-- ---- one operand
module _ {p : List ℕ} {first end : ℕ} {s : Span} {a : Folded} (o : Operand p first end s a) where
  pub operand_some : first < end
  operand_some = omega (arith, o.behind, some_rows a)

  pub operand-kind : kind (Plan.row p (end - 1)) ≡ kind_of a
  operand-kind = ap (λ e. kind (Plan.row p (e - 1))) o.behind ∙ root_kind p first s a o.stands

  -- A constant or a chain is one row.
  module _ (few : kind_of a ≤ 2) where
    operand_row : Plan.row p (end - 1) ≡ row_words (kind_of a) (length_of a) 0 (Folded.elements a) s
    operand_row = ap (λ e. Plan.row p (e - 1)) o.behind ∙ chain-stands p first s a o.stands few

    pub operand-last : word_a (Plan.row p (end - 1)) ≡ length_of a
    operand-last = ap (λ (row : Row). word_a row) operand_row

    pub operand-elements : elements (Plan.row p (end - 1)) ≡ row 17 (Folded.elements a)
    operand-elements = ap (λ (row : Row). elements row) operand_row ∙ row-elements (Folded.elements a) (Tree.first s ∷ Tree.end s ∷ [])

    pub operand-word : first_element (Plan.row p (end - 1)) ≡ word_of a
    unfolding row
    operand-word = ap (λ (row : Row). first_element row) operand_row

    pub operand-chain : Chain (Folded.elements a)
    operand-chain = chain-operand a few o.formed

    -- What the code reads of it is the chain.
    pub operand-taken : {f : List ℕ} {k : ℕ} → f ≡ elements (Plan.row p (end - 1)) → k ≡ word_a (Plan.row p (end - 1))
        → take (k + 1) f ≡ Folded.elements a
    operand-taken ef ek =
        ap₂ (λ k f. take (k + 1) f) (ek ∙ operand-last) (ef ∙ operand-elements) ∙ row-taken (Folded.elements a) operand-chain

  pub operand_short : {k : ℕ} → kind (Plan.row p (end - 1)) ≤ 2 → k ≡ word_a (Plan.row p (end - 1)) → k ≤ 16
  operand_short small ek = omega (arith, ek, operand-last few, (operand-chain few).most)
    where
      few : kind_of a ≤ 2
      few = omega (arith, operand-kind)

  -- The code's test for the constant n.
  pub operand-is : (n : ℕ) → constant_at p (end - 1) n ≡ is n a
  operand-is n = ap (λ k. eqb k 0 && eqb (first_element (Plan.row p (end - 1))) n) operand-kind ∙ go (eqb (kind_of a) 0) refl
    where
      go : (t : Bool) → eqb (kind_of a) 0 ≡ t → (eqb (kind_of a) 0 && eqb (first_element (Plan.row p (end - 1))) n) ≡ is n a
      go true e =
          ap₂ (λ x y. x && eqb y n) e (operand-word (few (eqb-true (kind_of a) 0 e))) ∙ sym (is_test a n (eqb-true (kind_of a) 0 e))
        where
          few : kind_of a ≡ 0 → kind_of a ≤ 2
          few z = omega (arith, z)
      go false e =
          ap (λ x. x && eqb (first_element (Plan.row p (end - 1))) n) e ∙ sym (is_none a n (eqb-false (kind_of a) 0 e))

-- ---- two operands
pub operands_some : {p : List ℕ} {left middle end : ℕ} {s : Spans} {a b : Folded} → Operands p left middle end s a b → (left < middle) × (middle < end)
operands_some o = (operand_some o.first, operand_some o.second)
