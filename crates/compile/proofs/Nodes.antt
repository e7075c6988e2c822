-- One node folded: the finished operands that it takes, its span put on the root row of its tree, and that the machine is then at the next node.
use mathlib.Core.Path.{◌≡◌, refl, sym, ap, ap₂, subst, ◌∙◌}
use mathlib.Core.Bool.{Bool, true, false}
use mathlib.Core.List.{List, [], ◌∷◌}
use Prim.Native.Nat.{ℕ, ◌+◌, ◌-◌, ◌%◌, ◌^◌, ◌≤◌, ◌<◌}
use native.Mathlib.Nat.{mod-eq_of_lt}
use native.Mathlib.Omega.{arith}
use lib.Dec.{eqb}
use lib.ListN.{length, drop}
use borrow.Author.Tests.{eqb-true, eqb-false}
use Rattle.plan.specs.Measures.{plan_length, row_start, most_rows}
use Rattle.plan.specs.Plan as Plan
use Rattle.chain.specs.Chain.{trimmed, without_trailing, with_last, words}
use Rattle.formula.specs.Tree.{Span, span, Tree, span_of}
use Rattle.fold.specs.Folded.{Folded, constant, of_sum, trimmed_sum}
use Rattle.fold.specs.Folding.{operands, fold, fold_minus, fold_power}
use Rattle.fold.specs.Layout.{row_count}
use Rattle.fold.proofs.Shape.{WellFormed}
use Rattle.fold.proofs.FoldShape.{minus-rows, power-rows, sum_rows, difference-rows, product-rows, raise-rows}
use Rattle.fold.proofs.ReadBack.{some_rows}
use Rattle.fold_rows.specs.Standing.{with_row, with_span, placed, no_span}
use Rattle.fold_rows.proofs.Stood.{room_left, placed-over, span-placed}
use Rattle.fold_operands.specs.Operands.{Operand, Operands, One, Two, Left, Folds, FoldsBoth}
use Rattle.compile.specs.Machine.{Finishes, Stack, Ends, FirstRow, Compilable, Working, Grown, fold_both}
use Rattle.compile.proofs.Finishing.{top_part, nodes-left, node-kind}
use Rattle.compile.proofs.Finishing.{view_number, view_variable, view_minus, view_power, view_sum, view_difference, view_product, view_raise}
use Rattle.compile.proofs.Stacking.{left_behind, left-end_one, left-end-both, left-stands}
use Rattle.compile.proofs.Stacking.{stack_rows, stack_ends, stack_one, stack_both, stack_put}

-- A number is its own chain, and x that of the grid.
pair_number : (v : ℕ) → v < 2 ^ 64 → trimmed_sum (v ∷ 0 ∷ []) ≡ constant (v % 2 ^ 64)
unfolding trimmed without_trailing with_last
pair_number v fits = ap constant (sym (mod-eq_of_lt fits))

pair_words : (a b : ℕ) → a < 2 ^ 64 → b < 2 ^ 64 → trimmed_sum (a ∷ b ∷ []) ≡ trimmed_sum (words 64 (a ∷ b ∷ []))
pair_words a b ha hb = ap₂ (λ x y. trimmed_sum (x ∷ y ∷ [])) (sym (mod-eq_of_lt ha)) (sym (mod-eq_of_lt hb))

past_four : (k : ℕ) → (k ≡ 0 → ⊥) → (k ≡ 1 → ⊥) → (k ≡ 2 → ⊥) → (k ≡ 3 → ⊥) → 4 ≤ k
past_four k n0 n1 n2 n3 = omega arith

only_eight : (k : ℕ) → 4 ≤ k → k < 9 → (k ≡ 4 → ⊥) → (k ≡ 5 → ⊥) → (k ≡ 6 → ⊥) → (k ≡ 7 → ⊥) → k ≡ 8
only_eight k low high n4 n5 n6 n7 = omega arith

one_row : (f : List ℕ) → row_count (of_sum f) ≡ 1
unfolding row_count
one_row [] = refl
one_row (a ∷ []) = refl
one_row (a ∷ b ∷ f) = refl

module _ (start step : ℕ) (p : List ℕ) (end : ℕ) (long : plan_length ≤ length p) where
  module _ {t : Tree} {more : List ℕ} {k v first_byte end_byte : ℕ} (comp : Compilable start step t)
      (work : Working t start step p end (k ∷ v ∷ first_byte ∷ end_byte ∷ more)) where
    -- There is room for one row more.
    pub few-rows : end < most_rows
    few-rows = omega (arith, stack_rows start step p work.done end work.stands, nodes-left work.finishes, comp.few)

    abbrev whole : Span
    whole = span first_byte end_byte

    abbrev Next : List ℕ → ℕ → Type 0
    Next q r = Grown t start step p end whole more q r

    -- ---- what the node leaves behind the trees that stay
    next : {q : List ℕ} {n r : ℕ} (u : Tree) (rest : List Tree) (f : Folded) → span_of u ≡ whole → Stack start step p rest n → Finishes t (u ∷ rest) more
        → fold 64 start step u ≡ f → Left p n f r q → r ≤ end + 1 → Next q r
    next {q} {n} {r} u rest f own stays fin same left most = record {
      done = rest;
      tree = u;
      first = n;
      own = own;
      stays = stays;
      finishes = fin;
      left = subst (λ f. Left p n f r q) (sym same) left;
      most = most;
      few = few-rows;
    }

    -- ---- a number or x
    pushed : {q : List ℕ} (u : Tree) (f : Folded) → span_of u ≡ whole → fold 64 start step u ≡ f → row_count f ≡ 1 → Finishes t (u ∷ work.done) more
        → q ≡ placed p end no_span f → Next q (end + 1)
    pushed u f own same one fin put =
        next u work.done f own work.stands fin same (record { under = no_span; words = put; behind = omega (arith, one) }) (omega arith)

    pub number_pushed : {q : List ℕ} → k ≡ 0 → q ≡ placed p end no_span (trimmed_sum (v ∷ 0 ∷ [])) → Next q (end + 1)
    unfolding fold
    number_pushed e put =
        let seen = view_number work.finishes e in
        pushed (Tree.number whole seen.0 v) (trimmed_sum (v ∷ 0 ∷ [])) refl
        (sym (pair_number v (comp.numbers whole seen.0 v (top_part seen.1)))) (one_row (trimmed 0 (v ∷ 0 ∷ []))) seen.1 put

    pub variable_pushed : {q : List ℕ} → k ≡ 1 → start < 2 ^ 64 → step < 2 ^ 64 → q ≡ placed p end no_span (trimmed_sum (start ∷ step ∷ [])) → Next q (end + 1)
    unfolding fold
    variable_pushed e hs ht put =
        pushed (Tree.variable whole) (trimmed_sum (start ∷ step ∷ [])) refl (sym (pair_words start step hs ht))
        (one_row (trimmed 0 (start ∷ step ∷ []))) (view_variable work.finishes e) put

    -- ---- an operator of one operand, which begins at row `top`
    module _ {top : ℕ} (found : FirstRow p end top) where
      abbrev OnTop : Tree → List Tree → Type 0
      OnTop a rest = Operand p top end (span_of a) (fold 64 start step a) × Stack start step p rest top

      on_top : (a : Tree) (rest : List Tree) → work.done ≡ a ∷ rest → OnTop a rest
      on_top a rest is = stack_one start step p a rest top end found (subst (λ done. Stack start step p done end) is work.stands)

      one_folded : {q : List ℕ} {r : ℕ} (a u : Tree) (rest : List Tree) (operator : Span → Folded → Folded) → work.done ≡ a ∷ rest
          → span_of u ≡ whole → fold 64 start step u ≡ operator (span_of a) (fold 64 start step a)
          → row_count (operator (span_of a) (fold 64 start step a)) ≤ row_count (fold 64 start step a) + 1
          → Finishes t (u ∷ rest) more → Folds operator p top end r q → Next q r
      one_folded a u rest operator is own same rows fin folds =
          let (operand, stays) = on_top a rest is in
          let left = folds (span_of a) (fold 64 start step a) operand in
          next u rest (operator (span_of a) (fold 64 start step a)) own stays fin same left (left-end_one left operand rows)

      pub minus-folded : {q : List ℕ} {r : ℕ} → k ≡ 6 → Folds (fold_minus 64) p top end r q → Next q r
      unfolding fold
      minus-folded e folds =
          let (a, rest, is, fin) = view_minus work.finishes e in
          one_folded a (Tree.minus whole a) rest (fold_minus 64) is refl refl (minus-rows 64 (span_of a) (fold 64 start step a)) fin folds

      pub power-folded : {q : List ℕ} {r : ℕ} → k ≡ 7 → Folds (λ s a. fold_power 64 s a v) p top end r q → Next q r
      unfolding fold
      power-folded e folds =
          let (place, a, rest, is, fin) = view_power work.finishes e in
          one_folded a (Tree.literal_power whole a place v) rest (λ s a. fold_power 64 s a v) is refl refl
          (power-rows 64 (span_of a) (fold 64 start step a) v) fin folds

      -- What these operators ask for.
      pub minus_asked : k ≡ 6 → One p top end
      minus_asked e =
          let (a, rest, is, fin) = view_minus work.finishes e in
          (span_of a, fold 64 start step a, (on_top a rest is).0)

      pub power_asked : k ≡ 7 → One p top end × (v ≤ 64)
      power_asked e =
          let (place, a, rest, is, fin) = view_power work.finishes e in
          ((span_of a, fold 64 start step a, (on_top a rest is).0), comp.exponents whole a place v (top_part fin))

    -- ---- an operator of two operands
    abbrev folded : ℕ → Tree → Tree → Folded
    folded k a b = fold_both k (operands a b) (fold 64 start step a) (fold 64 start step b)

    -- A node that is none of the others has two operands.
    Both : Type 0
    Both = (a : Tree) × (b : Tree) × (u : Tree) × (rest : List Tree) × (work.done ≡ b ∷ a ∷ rest) × (span_of u ≡ whole)
        × (fold 64 start step u ≡ folded k a b) × (row_count (folded k a b) ≤ row_count (fold 64 start step a) + row_count (fold 64 start step b) + 1)
        × Finishes t (u ∷ rest) more

    -- The node of kind j makes the tree u of its two operands.
    as_both : {j : ℕ} → k ≡ j → (a b u : Tree) (rest : List Tree) → work.done ≡ b ∷ a ∷ rest → span_of u ≡ whole
        → fold 64 start step u ≡ folded j a b
        → row_count (folded j a b) ≤ row_count (fold 64 start step a) + row_count (fold 64 start step b) + 1
        → Finishes t (u ∷ rest) more → Both
    unfolding Both
    as_both e a b u rest is own same rows fin = (
      a,
      b,
      u,
      rest,
      is,
      own,
      same ∙ ap (λ k. folded k a b) (sym e),
      subst (λ k. row_count (folded k a b) ≤ row_count (fold 64 start step a) + row_count (fold 64 start step b) + 1) (sym e) rows,
      fin,
    )

    as_sum : k ≡ 3 → Both
    unfolding fold
    as_sum e =
        let (a, b, rest, is, fin) = view_sum work.finishes e in
        as_both e a b (Tree.sum whole a b) rest is refl refl (sum_rows 64 (operands a b) (fold 64 start step a) (fold 64 start step b)) fin

    as_difference : k ≡ 4 → Both
    unfolding fold
    as_difference e =
        let (a, b, rest, is, fin) = view_difference work.finishes e in
        as_both e a b (Tree.difference whole a b) rest is refl refl (difference-rows 64 (operands a b) (fold 64 start step a) (fold 64 start step b)) fin

    as_product : k ≡ 5 → Both
    unfolding fold
    as_product e =
        let (a, b, rest, is, fin) = view_product work.finishes e in
        as_both e a b (Tree.product whole a b) rest is refl refl (product-rows 64 (operands a b) (fold 64 start step a) (fold 64 start step b)) fin

    as_raise : k ≡ 8 → Both
    unfolding fold
    as_raise e =
        let (place, a, b, rest, is, fin) = view_raise work.finishes e in
        as_both e a b (Tree.raise whole a place b) rest is refl refl (raise-rows 64 (operands a b) (fold 64 start step a) (fold 64 start step b)) fin

    two_operands : (k ≡ 0 → ⊥) → (k ≡ 1 → ⊥) → (k ≡ 6 → ⊥) → (k ≡ 7 → ⊥) → Both
    two_operands no0 no1 no6 no7 = among (eqb k 3) (eqb k 4) (eqb k 5) refl refl refl
      where
        among : (sum difference product : Bool) → eqb k 3 ≡ sum → eqb k 4 ≡ difference → eqb k 5 ≡ product → Both
        among true difference product e3 e4 e5 = as_sum (eqb-true k 3 e3)
        among false true product e3 e4 e5 = as_difference (eqb-true k 4 e4)
        among false false true e3 e4 e5 = as_product (eqb-true k 5 e5)
        among false false false e3 e4 e5 =
            as_raise (only_eight k (past_four k no0 no1 (node-kind work.finishes).1 (eqb-false k 3 e3)) (node-kind work.finishes).0
            (eqb-false k 4 e4) (eqb-false k 5 e5) no6 no7)

    module _ {top : ℕ} (found : FirstRow p end top) (no0 : k ≡ 0 → ⊥) (no1 : k ≡ 1 → ⊥) (no6 : k ≡ 6 → ⊥) (no7 : k ≡ 7 → ⊥) where
      -- The left operand ends where the right one begins.
      pub below_asked : (top ≤ most_rows) × Ends p top
      unfolding Both
      below_asked =
          let b = two_operands no0 no1 no6 no7 in
          let (operand, stays) = on_top found b.1 (b.0 ∷ b.3) b.4 in
          (omega (arith, operand.behind, few-rows), stack_ends start step p b.0 b.3 top stays)

      module _ {below : ℕ} (found_below : FirstRow p top below) where
        both : (a b : Tree) (rest : List Tree) → work.done ≡ b ∷ a ∷ rest
            → Operands p below top end (operands a b) (fold 64 start step a) (fold 64 start step b) × Stack start step p rest below
        both a b rest is =
            stack_both start step p a b rest below top end found found_below (subst (λ done. Stack start step p done end) is work.stands)

        pub both_asked : Two p below top end
        unfolding Both
        both_asked =
            let b = two_operands no0 no1 no6 no7 in
            (operands b.0 b.1, fold 64 start step b.0, fold 64 start step b.1, (both b.0 b.1 b.3 b.4).0)

        pub both-folded : {q : List ℕ} {r : ℕ} → FoldsBoth (fold_both k) p below top end r q → Next q r
        unfolding Both
        both-folded folds =
            let (a, b, u, rest, is, own, same, rows, fin) = two_operands no0 no1 no6 no7 in
            let (stand, stays) = both a b rest is in
            let left = folds (operands a b) (fold 64 start step a) (fold 64 start step b) stand in
            next u rest (folded k a b) own stays fin same left (left-end-both left stand rows)

    -- Whatever operator it is, an operand stands.
    pub top_asked : (k ≡ 0 → ⊥) → (k ≡ 1 → ⊥) → Ends p end
    unfolding Both
    top_asked no0 no1 = among (eqb k 6) (eqb k 7) refl refl
      where
        ends : (a : Tree) (rest : List Tree) → work.done ≡ a ∷ rest → Ends p end
        ends a rest is = stack_ends start step p a rest end (subst (λ done. Stack start step p done end) is work.stands)

        among : (minus power : Bool) → eqb k 6 ≡ minus → eqb k 7 ≡ power → Ends p end
        among true power e6 e7 = let seen = view_minus work.finishes (eqb-true k 6 e6) in ends seen.0 seen.1 seen.2
        among false true e6 e7 = let seen = view_power work.finishes (eqb-true k 7 e7) in ends seen.1 seen.2 seen.3
        among false false e6 e7 =
            let b = two_operands no0 no1 (eqb-false k 6 e6) (eqb-false k 7 e7) in
            ends b.1 (b.0 ∷ b.3) b.4

  -- ---- the node's span, put on the root row of its tree
  module _ {t : Tree} {more q : List ℕ} {whole : Span} {r : ℕ} (grown : Grown t start step p end whole more q r) where
    some : 1 ≤ row_count (fold 64 start step grown.tree)
    some = some_rows (fold 64 start step grown.tree)

    pub root_row : (1 ≤ r) × (r ≤ most_rows)
    root_row = (omega (arith, grown.left.behind, some), omega (arith, grown.most, grown.few))

    room : row_start grown.first ≤ length p
    room = omega (arith, grown.most, grown.few, grown.left.behind, some)

    formed : Compilable start step t → WellFormed 64 (fold 64 start step grown.tree)
    formed comp = comp.formed grown.tree (top_part grown.finishes)

    put : {q' : List ℕ} → Compilable start step t → q' ≡ with_row q (r - 1) (with_span (Plan.row q (r - 1)) whole)
        → Left p grown.first (fold 64 start step grown.tree) r q'
    put comp e =
        let n = grown.first in
        let f = fold 64 start step grown.tree in
        let left = grown.left in
        let still = subst (λ l. row_start n ≤ length l) (sym left.words) (room_left p n left.under f room) in
        record {
          under = whole;
          words =
              e
              ∙ span-placed q n r left.under whole f still left.behind (left-stands left room (formed comp)).stands
              ∙ ap (λ q. placed q n whole f) left.words
              ∙ placed-over p n left.under f room whole f (omega arith);
          behind = left.behind;
        }

    pub spanned : {q' : List ℕ} → Compilable start step t → q' ≡ with_row q (r - 1) (with_span (Plan.row q (r - 1)) whole)
        → Working t start step q' r more × ((i : ℕ) → row_start (end + 1) ≤ i → drop i q' ≡ drop i p)
    unfolding put
    spanned {q'} comp e = (
      record {
        done = grown.tree ∷ grown.done;
        stands = stack_put start step p q' grown.tree grown.done grown.first r (put comp e) (sym grown.own) grown.stays room (formed comp);
        finishes = grown.finishes;
      },
      λ i h. left_behind (put comp e) room i (omega (arith, grown.most)),
    )
