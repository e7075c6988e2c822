-- The spans of a folded tree: each is of some text, and those of operands lie within their operator's, left before right, without overlap.
-- Each operator's rules keep it so.
use mathlib.Core.List.{List, [], ◌∷◌}
use Prim.Native.Nat.{ℕ, ◌≤◌, ◌<◌}
use native.Mathlib.Nat.{le_refl}
use native.Mathlib.Omega.{arith}
use Rattle.formula.specs.Tree.{Span, first, end, Tree, span_of}
use Rattle.formula.specs.Refusals.{Part, itself, sum_left, sum-right, difference-left, difference-right, product-left, product-right}
use Rattle.formula.specs.Refusals.{under-minus, under-power, in_base, in_exponent}
use Rattle.chain.specs.Chain.{rest, words, trimmed}
use Rattle.word.specs.Word as Word
use Rattle.chain.specs.ProductChain as ProductChain
use Rattle.fold.specs.Folded.{Spans, Folded, constant, sum_chain, product_chain, sum_row, difference_row, product_row, minus_row, power_row, raise_row}
use Rattle.fold.specs.Folded.{elements, of_sum, of_product, trimmed_sum, trimmed_product}
use Rattle.fold.specs.Folding.{word_of, fold_sum, fold_minus, fold_difference, fold_product, fold_power, fold_raise, operands, fold}
use Rattle.fold.proofs.Rules.{sum-rules, minus-rules, difference-rules, product-rules, power-rules, raise-rules}

pub record Within (inner outer : Span) : Type 0 where
  pub from : first outer ≤ first inner
  pub upto : end inner ≤ end outer

pub record Beside (whole : Span) (s : Spans) : Type 0 where
  pub from : first whole ≤ first s.left
  pub apart : end s.left ≤ first s.right
  pub upto : end s.right ≤ end whole

unfoldable pub Nested : Span → Folded → Type 0
Nested whole (constant c) = first whole < end whole
Nested whole (sum_chain f) = first whole < end whole
Nested whole (product_chain f) = first whole < end whole
Nested whole (sum_row s a b) = Beside whole s × Nested s.left a × Nested s.right b
Nested whole (difference_row s a b) = Beside whole s × Nested s.left a × Nested s.right b
Nested whole (product_row s a b) = Beside whole s × Nested s.left a × Nested s.right b
Nested whole (minus_row s a) = Within s whole × Nested s a
Nested whole (power_row s a n) = Within s whole × Nested s a
Nested whole (raise_row s a b) = Beside whole s × Nested s.left a × Nested s.right b

-- ---- a span is of some text, and of no less if the tree is given a wider one
some_between : {whole : Span} {s : Spans} → Beside whole s → first s.left < end s.left → first s.right < end s.right → first whole < end whole
some_between h p q = omega (arith, h.from, h.apart, h.upto)

some_around : {s whole : Span} → Within s whole → first s < end s → first whole < end whole
some_around h p = omega (arith, h.from, h.upto)

pub nested_some : (whole : Span) (a : Folded) → Nested whole a → first whole < end whole
unfolding Nested
nested_some whole (constant c) h = h
nested_some whole (sum_chain f) h = h
nested_some whole (product_chain f) h = h
nested_some whole (sum_row s a b) h = some_between h.0 (nested_some s.left a h.1) (nested_some s.right b h.2)
nested_some whole (difference_row s a b) h = some_between h.0 (nested_some s.left a h.1) (nested_some s.right b h.2)
nested_some whole (product_row s a b) h = some_between h.0 (nested_some s.left a h.1) (nested_some s.right b h.2)
nested_some whole (minus_row s a) h = some_around h.0 (nested_some s a h.1)
nested_some whole (power_row s a n) h = some_around h.0 (nested_some s a h.1)
nested_some whole (raise_row s a b) h = some_between h.0 (nested_some s.left a h.1) (nested_some s.right b h.2)

wider : {s inner outer : Span} → Within inner outer → Within s inner → Within s outer
wider k h = record { from = omega (arith, k.from, h.from); upto = omega (arith, k.upto, h.upto) }

wider_both : {inner outer : Span} {s : Spans} → Within inner outer → Beside inner s → Beside outer s
wider_both k h = record { from = omega (arith, k.from, h.from); apart = h.apart; upto = omega (arith, k.upto, h.upto) }

-- "An operand passed through unchanged, as in 1*A, takes the whole span": its own operands stay as they are.
pub nested_wider : {inner outer : Span} → Within inner outer → (a : Folded) → Nested inner a → Nested outer a
unfolding Nested
nested_wider k (constant c) h = some_around k h
nested_wider k (sum_chain f) h = some_around k h
nested_wider k (product_chain f) h = some_around k h
nested_wider k (sum_row s a b) h = (wider_both k h.0, h.1, h.2)
nested_wider k (difference_row s a b) h = (wider_both k h.0, h.1, h.2)
nested_wider k (product_row s a b) h = (wider_both k h.0, h.1, h.2)
nested_wider k (minus_row s a) h = (wider k h.0, h.1)
nested_wider k (power_row s a n) h = (wider k h.0, h.1)
nested_wider k (raise_row s a b) h = (wider_both k h.0, h.1, h.2)

-- ---- each operator
module _ (w : ℕ) (whole : Span) where
  -- A constant or a chain has no operands.
  module _ (some : first whole < end whole) where
    constant_nested : (c : ℕ) → Nested whole (constant c)
    unfolding Nested
    constant_nested c = some

    of_sum_nested : (f : List ℕ) → Nested whole (of_sum f)
    unfolding Nested
    of_sum_nested [] = some
    of_sum_nested (a ∷ []) = some
    of_sum_nested (a ∷ b ∷ f) = some

    of_product_nested : (f : List ℕ) → Nested whole (of_product f)
    unfolding Nested
    of_product_nested [] = some
    of_product_nested (a ∷ []) = some
    of_product_nested (a ∷ b ∷ f) = some

    sum_nests : (f : List ℕ) → Nested whole (trimmed_sum f)
    sum_nests f = of_sum_nested (trimmed 0 f)

    product_nests : (f : List ℕ) → Nested whole (trimmed_product f)
    product_nests f = of_product_nested (ProductChain.trimmed_product f)

  module _ (s : Span) (a : Folded) (around : Within s whole) (h : Nested s a) where
    alone_some : first whole < end whole
    alone_some = some_around around (nested_some s a h)

    minus_nested : Nested whole (fold_minus w s a)
    unfolding Nested
    minus_nested =
        minus-rules (Nested whole) w s a (λ e. alone_some) (λ e. sum_nests alone_some _)
        (λ e. product_nests alone_some (Word.negation w (word_of a) ∷ rest (elements a))) (around, h)

    power_nested : (n : ℕ) → Nested whole (fold_power w s a n)
    unfolding Nested
    power_nested n =
        power-rules (Nested whole) w s a n (λ e. alone_some) (λ e. alone_some) (λ e. nested_wider around a h)
        (λ e. sum_nests alone_some _) (λ e. product_nests alone_some (words w (ProductChain.power_of_each (elements a) n))) (λ some more. (around, h))

  module _ (s : Spans) (a b : Folded) (around : Beside whole s) (h : Nested s.left a) (k : Nested s.right b) where
    both_some : first whole < end whole
    both_some = some_between around (nested_some s.left a h) (nested_some s.right b k)

    within-left : Within s.left whole
    within-left = record { from = around.from; upto = omega (arith, around.apart, around.upto, nested_some s.right b k) }

    within-right : Within s.right whole
    within-right = record { from = omega (arith, around.apart, around.from, nested_some s.left a h); upto = around.upto }

    left_passed : Nested whole a
    left_passed = nested_wider within-left a h

    right_passed : Nested whole b
    right_passed = nested_wider within-right b k

    sum_nested : Nested whole (fold_sum w s a b)
    unfolding Nested
    sum_nested =
        sum-rules (Nested whole) w s a b (λ e. both_some) (λ e. sum_nests both_some _) (λ e. left_passed) (λ e. right_passed) (around, h, k)

    -- "0-A: as minus A": the operator is minus then, over the right operand.
    difference_nested : Nested whole (fold_difference w s a b)
    unfolding Nested
    difference_nested =
        difference-rules (Nested whole) w s a b (λ e. both_some) (λ e. sum_nests both_some _) (λ e. left_passed)
        (λ e. minus_nested s.right b within-right k) (around, h, k)

    product_nested : Nested whole (fold_product w s a b)
    unfolding Nested
    product_nested =
        product-rules (Nested whole) w s a b (λ e. both_some) (λ e. right_passed) (λ e. left_passed) (λ e. both_some)
        (λ e. sum_nests both_some _) (λ e. sum_nests both_some _)
        (λ e. product_nests both_some (words w (ProductChain.scaled_first (word_of a) (elements b))))
        (λ e. product_nests both_some (words w (ProductChain.scaled_first (word_of b) (elements a))))
        (λ e. product_nests both_some (words w (ProductChain.joint_product (elements a) (elements b))))
        (λ e. sum_nests both_some _) (around, h, k)

    raise_nested : Nested whole (fold_raise w s a b)
    unfolding Nested
    raise_nested =
        raise-rules (Nested whole) w s a b (λ e. both_some)
        (λ e. product_nests both_some (words w (ProductChain.raised (word_of a) (elements b)))) (around, h, k)

-- ---- the folded tree of a formula's tree whose spans are so
unfoldable pub Spanned : Tree → Type 0
Spanned (Tree.number s p v) = first s < end s
Spanned (Tree.variable s) = first s < end s
Spanned (Tree.sum s a b) = Beside s (operands a b) × Spanned a × Spanned b
Spanned (Tree.difference s a b) = Beside s (operands a b) × Spanned a × Spanned b
Spanned (Tree.product s a b) = Beside s (operands a b) × Spanned a × Spanned b
Spanned (Tree.minus s a) = Within (span_of a) s × Spanned a
Spanned (Tree.literal_power s a p n) = Within (span_of a) s × Spanned a
Spanned (Tree.raise s a p b) = Beside s (operands a b) × Spanned a × Spanned b

pub fold_nested : (w start step : ℕ) (t : Tree) → Spanned t → Nested (span_of t) (fold w start step t)
unfolding fold Spanned
fold_nested w start step (Tree.number s p v) h = constant_nested w s h _
fold_nested w start step (Tree.variable s) h = sum_nests w s h _
fold_nested w start step (Tree.sum s a b) h =
    sum_nested w s (operands a b) _ _ h.0 (fold_nested w start step a h.1) (fold_nested w start step b h.2)
fold_nested w start step (Tree.difference s a b) h =
    difference_nested w s (operands a b) _ _ h.0 (fold_nested w start step a h.1) (fold_nested w start step b h.2)
fold_nested w start step (Tree.product s a b) h =
    product_nested w s (operands a b) _ _ h.0 (fold_nested w start step a h.1) (fold_nested w start step b h.2)
fold_nested w start step (Tree.minus s a) h = minus_nested w s (span_of a) _ h.0 (fold_nested w start step a h.1)
fold_nested w start step (Tree.literal_power s a p n) h = power_nested w s (span_of a) _ h.0 (fold_nested w start step a h.1) n
fold_nested w start step (Tree.raise s a p b) h =
    raise_nested w s (operands a b) _ _ h.0 (fold_nested w start step a h.1) (fold_nested w start step b h.2)

-- ---- each part of such a tree lies within it
pub spanned_some : (t : Tree) → Spanned t → first (span_of t) < end (span_of t)
unfolding Spanned
spanned_some (Tree.number s p v) h = h
spanned_some (Tree.variable s) h = h
spanned_some (Tree.sum s a b) h = some_between h.0 (spanned_some a h.1) (spanned_some b h.2)
spanned_some (Tree.difference s a b) h = some_between h.0 (spanned_some a h.1) (spanned_some b h.2)
spanned_some (Tree.product s a b) h = some_between h.0 (spanned_some a h.1) (spanned_some b h.2)
spanned_some (Tree.minus s a) h = some_around h.0 (spanned_some a h.1)
spanned_some (Tree.literal_power s a p n) h = some_around h.0 (spanned_some a h.1)
spanned_some (Tree.raise s a p b) h = some_between h.0 (spanned_some a h.1) (spanned_some b h.2)

module _ (whole : Span) (a b : Tree) (h : Beside whole (operands a b)) (left : Spanned a) (right : Spanned b) where
  left-within : {s : Span} → Within s (span_of a) → Within s whole
  left-within k = wider (record { from = h.from; upto = omega (arith, h.apart, h.upto, spanned_some b right) }) k

  right-within : {s : Span} → Within s (span_of b) → Within s whole
  right-within k = wider (record { from = omega (arith, h.apart, h.from, spanned_some a left); upto = h.upto }) k

pub part-within : {u t : Tree} → Part u t → Spanned t → Within (span_of u) (span_of t)
unfolding Spanned
part-within {u} itself h = record { from = le_refl (first (span_of u)); upto = le_refl (end (span_of u)) }
part-within (sum_left {s} {u} {a} {b} k) h = left-within s a b h.0 h.1 h.2 (part-within k h.1)
part-within (sum-right {s} {u} {a} {b} k) h = right-within s a b h.0 h.1 h.2 (part-within k h.2)
part-within (difference-left {s} {u} {a} {b} k) h = left-within s a b h.0 h.1 h.2 (part-within k h.1)
part-within (difference-right {s} {u} {a} {b} k) h = right-within s a b h.0 h.1 h.2 (part-within k h.2)
part-within (product-left {s} {u} {a} {b} k) h = left-within s a b h.0 h.1 h.2 (part-within k h.1)
part-within (product-right {s} {u} {a} {b} k) h = right-within s a b h.0 h.1 h.2 (part-within k h.2)
part-within (under-minus k) h = wider h.0 (part-within k h.1)
part-within (under-power k) h = wider h.0 (part-within k h.1)
part-within (in_base {s} {u} {a} {b} k) h = left-within s a b h.0 h.1 h.2 (part-within k h.1)
part-within (in_exponent {s} {u} {a} {b} k) h = right-within s a b h.0 h.1 h.2 (part-within k h.2)
