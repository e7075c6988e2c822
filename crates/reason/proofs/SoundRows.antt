-- The rows of a sound plan: the trees of their operands, and the reason of each row of kinds 3 to 8, by the words of the rows.
use mathlib.Core.Path.{◌≡◌, refl, sym, ap, ap₂, subst, ◌∙◌}
use mathlib.Core.Bool.{true, cond}
use mathlib.Core.List.{List}
use Prim.Native.Nat.{ℕ, ◌≤◌, ◌<◌}
use native.Mathlib.Omega.{arith}
use lib.Dec.{eqb, ltb}
use lib.ListN.{length, get_or}
use borrow.Author.Tests.{ltb-true, lt-ltb, le-ltb}
use Rattle.plan.specs.Measures.{plan_length, most_rows}
use Rattle.plan.specs.Row.{Row, kind, word_a, word_b, kind_facts, keeps_table, sound_a, sound_b, odd_constant, sound_base}
use Rattle.plan.specs.Plan.{row_count, row, first_rows, sound}
use Rattle.plan.proofs.RowLaws.{length-row}
use Rattle.plan.proofs.SoundLaws.{and_left, and_right, sound-count, sound-row, sound_keeps, raise-sound}
use Rattle.plan.proofs.SoundLaws.{kept-kind, kept_a, kept_b, kept_b_small, kept-exponent}
use Rattle.fold.specs.Folded.{Folded, constant, is_constant}
use Rattle.reason.specs.declared.Seen.{Seen}
use Rattle.reason.specs.RowTrees.{operand_spans, operator_over, trees, row_tree}
use Rattle.reason.specs.Reasons.{is_operator, Reason}
use Rattle.reason.proofs.Numbers.{seen, sum_number, product_number, minus_number, power_number, raise_number, reason_of}
use Rattle.reason.proofs.Deciding.{Kept, has_reason}
use Rattle.reason.proofs.TreeLaws.{earlier_tree, test, each_operator, seen_in, constant-tree, operator-tree, seen_in_row}

-- The number for a row that is counted: 0 for kinds 0 to 2.
unfoldable pub row_reason : List ℕ → ℕ → ℕ
row_reason p r = cond (ltb (kind (row p r)) 3) 0 (reason_of (row_tree p r))

-- What the words x of row r say of its operands' rows and of its number.
pub record RowExplained (p : List ℕ) (r : ℕ) (x : Row) : Type 0 where
  pub none : kind x < 3 → row_reason p r ≡ 0
  pub known : kind x < 9
  pub left : 3 ≤ kind x → word_a x < row_count p
  pub right : 3 ≤ kind x → (kind x ≡ 6 → ⊥) → (kind x ≡ 7 → ⊥) → word_b x < row_count p
  pub exponent : word_b x < most_rows
  pub sum : 3 ≤ kind x → kind x ≤ 4 → row_reason p r ≡ sum_number (seen_in (row p (word_a x))) (seen_in (row p (word_b x)))
  pub product : kind x ≡ 5 → row_reason p r ≡ product_number (seen_in (row p (word_a x))) (seen_in (row p (word_b x)))
  pub minus : kind x ≡ 6 → row_reason p r ≡ minus_number (seen_in (row p (word_a x)))
  pub power : kind x ≡ 7 → row_reason p r ≡ power_number (seen_in (row p (word_a x))) (word_b x)
  pub raise : kind x ≡ 8 → row_reason p r ≡ raise_number (seen_in (row p (word_b x)))

module _ (p : List ℕ) (long : plan_length ≤ length p) (s : sound p ≡ true) where
  -- What is seen of a row's tree.
  pub row_seen : (i : ℕ) → i < row_count p → seen (row_tree p i) ≡ seen_in (row p i)
  row_seen i h =
      seen_in_row _ _ _ (row p i) (length-row p i (omega (arith, sound-count p s)) long) (kept-kind i (row p i) (sound_keeps p i s h))

  module _ (r : ℕ) (within : r < row_count p) where
    abbrev own : Row
    own = row p r

    kept : keeps_table r own ≡ true
    kept = sound_keeps p r s within

    -- ---- a row of kinds 3 to 8
    module _ (operator : 3 ≤ kind own) where
      known : kind own < 9
      known = kept-kind r own kept

      -- "every operand row is earlier".
      pub left_earlier : word_a own < r
      unfolding kind_facts
      left_earlier =
          each_operator (λ k. sound_a r k (word_a own) ≡ true → word_a own < r) (kind own) operator known before before before before before before
          (kept_a r own kept)
        where
          before : ltb (word_a own) r ≡ true → word_a own < r
          before = ltb-true (word_a own) r

      pub right_earlier : (kind own ≡ 6 → ⊥) → (kind own ≡ 7 → ⊥) → word_b own < r
      unfolding kind_facts
      right_earlier no_minus no_power =
          each_operator (λ k. (k ≡ 6 → ⊥) → (k ≡ 7 → ⊥) → sound_b r k (word_b own) ≡ true → word_b own < r) (kind own) operator known
          (λ _ _. before) (λ _ _. before) (λ _ _. before) (λ none _. absurd (none refl)) (λ _ none. absurd (none refl)) (λ _ _. before)
          no_minus no_power (kept_b r own kept)
        where
          before : ltb (word_b own) r ≡ true → word_b own < r
          before = ltb-true (word_b own) r

      -- Its operands' trees, and what is seen of them.
      abbrev left_tree : Folded
      left_tree = get_or (trees p r) (word_a own) (constant 0)

      abbrev right_tree : Folded
      right_tree = get_or (trees p r) (word_b own) (constant 0)

      left-seen : seen left_tree ≡ seen_in (row p (word_a own))
      left-seen = ap (λ t. seen t) (earlier_tree p r (word_a own) left_earlier) ∙ row_seen (word_a own) (omega (arith, left_earlier))

      right-seen : (kind own ≡ 6 → ⊥) → (kind own ≡ 7 → ⊥) → seen right_tree ≡ seen_in (row p (word_b own))
      right-seen no_minus no_power =
          ap (λ t. seen t) (earlier_tree p r (word_b own) (right_earlier no_minus no_power))
          ∙ row_seen (word_b own) (omega (arith, right_earlier no_minus no_power))

      -- The row's own tree, by its kind.
      abbrev over : ℕ → Folded → Folded → Folded
      over k left right = operator_over k (word_b own) (operand_spans p own) left right

      abbrev tree_by : ℕ → Folded
      tree_by k = over k left_tree right_tree

      own-tree : row_tree p r ≡ tree_by (kind own)
      own-tree = operator-tree (operand_spans p own) left_tree right_tree own operator

      -- Its operands are the trees of the rows that it names.
      pub tree-over-rows : row_tree p r ≡ operator_over (kind own) (word_b own) (operand_spans p own) (row_tree p (word_a own)) (row_tree p (word_b own))
      unfolding operator_over
      tree-over-rows =
          own-tree ∙ ap (λ t. over (kind own) t right_tree) (earlier_tree p r (word_a own) left_earlier)
          ∙ right_named (row_tree p (word_a own)) (row_tree p (word_b own)) (λ no_minus no_power. earlier_tree p r (word_b own) (right_earlier no_minus no_power))
        where
          -- Minus and literal power have no right operand.
          right_named : (left named : Folded) → ((kind own ≡ 6 → ⊥) → (kind own ≡ 7 → ⊥) → right_tree ≡ named) → over (kind own) left right_tree ≡ over (kind own) left named
          right_named left named =
              each_operator (λ k. ((k ≡ 6 → ⊥) → (k ≡ 7 → ⊥) → right_tree ≡ named) → over k left right_tree ≡ over k left named) (kind own) operator known
              (λ same. ap (over 3 left) (same (λ e. omega (arith, e)) (λ e. omega (arith, e))))
              (λ same. ap (over 4 left) (same (λ e. omega (arith, e)) (λ e. omega (arith, e))))
              (λ same. ap (over 5 left) (same (λ e. omega (arith, e)) (λ e. omega (arith, e))))
              (λ _. refl) (λ _. refl)
              (λ same. ap (over 8 left) (same (λ e. omega (arith, e)) (λ e. omega (arith, e))))

      pub tree-operates : is_operator (row_tree p r) ≡ true
      unfolding operator_over
      tree-operates =
          ap (λ t. is_operator t) own-tree
          ∙ each_operator (λ k. is_operator (tree_by k) ≡ true) (kind own) operator known refl refl refl refl refl refl

      -- "8: raise: constant row, odd".
      base_constant : kind own ≡ 8 → is_constant left_tree ≡ true
      base_constant e =
          ap (λ t. is_constant t) (earlier_tree p r (word_a own) left_earlier)
          ∙ constant-tree _ _ _ (row p (word_a own)) (and_left (eqb (kind (row p (word_a own))) 0) _ odd)
        where
          odd : odd_constant (row p (word_a own)) ≡ true
          odd =
              sym (raise-sound p r refl kept e)
              ∙ and_left (sound_base (first_rows r p) own) _ (and_right (keeps_table (length (first_rows r p)) own) _ (sound-row p r s within))

      tree-kept : Kept (row_tree p r)
      unfolding operator_over Kept
      tree-kept =
          subst Kept (sym own-tree)
          (each_operator (λ k. (k ≡ 7 → 2 ≤ word_b own) → (k ≡ 8 → is_constant left_tree ≡ true) → Kept (tree_by k)) (kind own) operator known
          (λ _ _. tt) (λ _ _. tt) (λ _ _. tt) (λ _ _. tt) (λ exponent _. exponent refl) (λ _ base. base refl) (kept-exponent r own kept) base_constant)

      -- It has the reason that is worked out.
      pub row_has_reason : (w : ℕ) → Reason w (row_tree p r) (reason_of (row_tree p r))
      row_has_reason w = has_reason w (row_tree p r) tree-operates tree-kept

      -- The number, by what is seen of the operands' rows.
      number_by : (k : ℕ) → kind own ≡ k → row_reason p r ≡ reason_of (tree_by k)
      unfolding row_reason
      number_by k e =
          ap (λ t. cond t 0 (reason_of (row_tree p r))) (le-ltb (kind own) 3 operator) ∙ ap reason_of own-tree ∙ ap (λ k. reason_of (tree_by k)) e

      abbrev left_seen : Seen
      left_seen = seen_in (row p (word_a own))

      abbrev right_seen : Seen
      right_seen = seen_in (row p (word_b own))

      sum_number_lem : kind own ≤ 4 → row_reason p r ≡ sum_number left_seen right_seen
      unfolding operator_over reason_of
      sum_number_lem most =
          test (kind own) 3 (λ e. number_by 3 e) (λ other. number_by 4 (fourth other))
          ∙ ap₂ sum_number left-seen (right-seen (λ e. omega arith) (λ e. omega arith))
        where
          fourth : (kind own ≡ 3 → ⊥) → kind own ≡ 4
          fourth other = omega arith

      product-number : kind own ≡ 5 → row_reason p r ≡ product_number left_seen right_seen
      unfolding operator_over reason_of
      product-number e = number_by 5 e ∙ ap₂ product_number left-seen (right-seen (λ z. omega arith) (λ z. omega arith))

      minus_number_lem : kind own ≡ 6 → row_reason p r ≡ minus_number left_seen
      unfolding operator_over reason_of
      minus_number_lem e = number_by 6 e ∙ ap minus_number left-seen

      power-number : kind own ≡ 7 → row_reason p r ≡ power_number left_seen (word_b own)
      unfolding operator_over reason_of
      power-number e = number_by 7 e ∙ ap (λ a. power_number a (word_b own)) left-seen

      raise-number : kind own ≡ 8 → row_reason p r ≡ raise_number right_seen
      unfolding operator_over reason_of
      raise-number e = number_by 8 e ∙ ap raise_number (right-seen (λ z. omega arith) (λ z. omega arith))

    -- ---- row r as a part x of the plan
    none : kind own < 3 → row_reason p r ≡ 0
    unfolding row_reason
    none few = ap (λ t. cond t 0 (reason_of (row_tree p r))) (lt-ltb (kind own) 3 few)

    pub row-explained : {x : Row} → x ≡ own → RowExplained p r x
    row-explained same = subst (RowExplained p r) (sym same) record {
      none = none;
      known = kept-kind r own kept;
      left = λ operator. omega (arith, left_earlier operator);
      right = λ operator no_minus no_power. omega (arith, right_earlier operator no_minus no_power);
      exponent = kept_b_small r own kept (omega (arith, sound-count p s));
      sum = sum_number_lem;
      product = λ e. product-number (omega arith) e;
      minus = λ e. minus_number_lem (omega arith) e;
      power = λ e. power-number (omega arith) e;
      raise = λ e. raise-number (omega arith) e;
    }
