-- The plan is put together: the number of rows in front, the rows, and zeros behind them. And what reading into the last words of a plan leaves.
use mathlib.Core.Path.{◌≡◌, refl, sym, ap, ap₂, subst, ◌∙◌}
use mathlib.Core.List.{List, [], ◌∷◌, ◌++◌, append-nil}
use Prim.Native.Nat.{ℕ, suc, ◌-◌, ◌*◌, ◌≤◌}
use native.Mathlib.Omega.{arith}
use lib.ListN.{length, take, drop, set, replicate, length-append, length-drop, length-replicate, take-append-drop, drop_of_length-le}
use lib.Seq.{take_at, drop_at, length-take-le}
use Rattle.plan.specs.Measures.{plan_length, row_length, rows_length, row_start}
use Rattle.plan.proofs.RowLaws.{part, part_put, part-put}
use Rattle.formula.specs.Tree.{Tree, span_of, nodes}
use Rattle.formula.specs.Words.{most_nodes}
use Rattle.formula.specs.Refusals.{Accepted}
use Rattle.formula.specs.Answer.{ReadAnswer}
use Rattle.formula_scan.specs.Readers.{spanned_tree, spanned_words, ReadOver, refused_over, accepted-over}
use Rattle.formula_scan.proofs.Answers.{accepted_fits}
use Rattle.formula_scan.proofs.Judging.{fault_number}
use Rattle.formula_scan.proofs.Written.{spanned-length}
use Rattle.fold.specs.Folding.{fold}
use Rattle.fold.specs.Layout.{row_count, rows_from, words_of, plan_words}
use Rattle.fold.proofs.FoldShape.{accepted_foldable, foldable_part, fold-formed}
use Rattle.fold.specs.Compiling.{Compiling, refused, accepted}
use Rattle.compile.specs.Machine.{Compilable, Written, FoldedAt, tree_start}
use Rattle.compile.proofs.Finishing.{part-part}

-- ---- parts of a plan that is long enough
length_part : (i n : ℕ) (l : List ℕ) → i ≤ n → n ≤ length l → length (part i n l) ≡ n - i
length_part i n l h long = length-take-le (n - i) (drop i l) (rw (length-drop i l) (omega arith))

-- ---- the whole plan
behind-rows : (start step : ℕ) (p q : List ℕ) (t : Tree) (rows : ℕ) → plan_length ≤ length p → length q ≡ length p → FoldedAt start step p t q rows
    → {cleared : List ℕ} → cleared ≡ replicate (length (part (row_start rows) plan_length (set q 0 rows))) 0
    → part_put (row_start rows) plan_length (set q 0 rows) cleared ≡ plan_words (span_of t) (fold 64 start step t) ++ drop plan_length p
behind-rows start step p [] t rows long same folded e = absurd (omega arith)
behind-rows start step p (a ∷ q) t rows long same folded {cleared} e =
    part-put (row_start rows) plan_length (rows ∷ q) cleared (omega (arith, folded.few))
    ∙ ap₂ ◌++◌ (ap₂ ◌++◌ front (e ∙ ap (λ n. replicate n 0) count)) folded.behind
  where
    front : take (row_start rows) (rows ∷ q) ≡ row_count (fold 64 start step t) ∷ words_of (rows_from 0 (span_of t) (fold 64 start step t))
    front = ap (λ n. take n (rows ∷ q)) next ∙ ap₂ {C = List ℕ} ◌∷◌ folded.rows folded.stands
      where
        next : row_start rows ≡ suc (row_length * rows)
        next = omega arith

    count : length (part (row_start rows) plan_length (rows ∷ q)) ≡ rows_length - row_length * row_count (fold 64 start step t)
    count =
        length_part (row_start rows) plan_length (rows ∷ q) (omega (arith, folded.few)) (omega arith)
        ∙ omega (arith, folded.rows)

pub assembled : (start step : ℕ) (p q : List ℕ) (t : Tree) (rows : ℕ) → length p ≡ plan_length → length q ≡ plan_length → FoldedAt start step p t q rows
    → {at : ℕ} {cleared : List ℕ} → at ≡ row_start rows → cleared ≡ replicate (length (part at plan_length (set q 0 rows))) 0
    → part_put at plan_length (set q 0 rows) cleared ≡ plan_words (span_of t) (fold 64 start step t)
assembled start step p q t rows long same folded {at} {cleared} place e =
    ap (λ k. part_put k plan_length (set q 0 rows) cleared) place
    ∙ behind-rows start step p q t rows (omega (arith, long)) (same ∙ sym long) folded
    (e ∙ ap (λ k. replicate (length (part k plan_length (set q 0 rows))) 0) place)
    ∙ ap (λ l. plan_words (span_of t) (fold 64 start step t) ++ l) (drop_of_length-le p {i = plan_length} (omega (arith, long)))
    ∙ append-nil (plan_words (span_of t) (fold 64 start step t))

-- ---- an accepted tree folds
pub accepted_compilable : {s : List ℕ} {t : Tree} (start step : ℕ) → Accepted 64 s t → Compilable start step t
accepted_compilable start step good = record {
  formed = λ u k. fold-formed 64 start step (omega arith) u (foldable_part (λ a h. part-part h k) (accepted_foldable good));
  numbers = (accepted_fits good).0;
  exponents = (accepted_fits good).1;
  few = (accepted_fits good).2;
}

-- ---- reading into the last 513 words of the plan
-- A part that is put back as it was leaves the plan as it was.
part_back : (i n : ℕ) (l : List ℕ) → part_put i n l (part i n l) ≡ l
part_back i n l = ap (λ f. take i l ++ f) (take-append-drop (n - i) (drop i l)) ∙ take-append-drop i l

-- 513 new words take the place of the last 513 of the plan.
put_there : (q : List ℕ) → length q ≡ plan_length → (new : List ℕ) → length new ≡ spanned_tree
    → take spanned_tree (drop tree_start (part_put tree_start plan_length q new)) ≡ new
put_there q long new count =
    ap (take spanned_tree) (drop_at (take tree_start q) (new ++ drop spanned_tree (drop tree_start q)) tree_start (length-take-le tree_start q (omega (arith, long))))
    ∙ take_at new (drop spanned_tree (drop tree_start q)) spanned_tree count

length-spanned : (t : Tree) → nodes t ≤ most_nodes → length (spanned_words t) ≡ spanned_tree
length-spanned t few = simp (length-append, length-replicate) (omega (arith, spanned-length t))

-- The plan's own words q are the first of the lent ones.
module _ (s p : List ℕ) (long : plan_length ≤ length p) {q : List ℕ} (own : q ≡ take plan_length p) where
  abbrev Read : ReadAnswer → List ℕ → Type 0
  Read r lent = ReadOver spanned_words s (part tree_start plan_length q) r lent

  own_length : length q ≡ plan_length
  own_length = ap length own ∙ length-take-le plan_length p long

  -- A refusal alters nothing.
  pub read-refused : {lent : List ℕ} {r : ReadAnswer} (start step : ℕ) → Read r lent → (r.number ≡ 0 → ⊥)
      → Compiling 64 s start step p (record { number = r.number; place = r.place }) (part_put tree_start plan_length q lent ++ drop plan_length p)
  read-refused start step (refused_over R) some =
      subst (Compiling 64 s start step p _)
      (sym (ap (λ l. l ++ drop plan_length p) (part_back tree_start plan_length q ∙ own) ∙ take-append-drop plan_length p))
      (refused long R)
  read-refused start step (accepted-over A) some = absurd (some refl)

  -- The tree of an accepted text stands in these words.
  pub read-accepted : {lent : List ℕ} {r : ReadAnswer} → Read r lent → r.number ≡ 0
      → (t : Tree) × Accepted 64 s t × Written (part_put tree_start plan_length q lent) t
  read-accepted (refused_over R) none = absurd (omega (arith, none, fault_number R.applies))
  read-accepted (accepted-over {t} A) none =
      (t, A, put_there q own_length (spanned_words t) (length-spanned t (accepted_fits A).2))

  -- What is folded from that tree is the plan of the text.
  pub read_compiled : {lent folded : List ℕ} {r : ReadAnswer} (start step : ℕ) → Read r lent → r.number ≡ 0
      → ((t : Tree) → Compilable start step t → Written (part_put tree_start plan_length q lent) t → folded ≡ plan_words (span_of t) (fold 64 start step t))
      → Compiling 64 s start step p (record { number = 0; place = 0 }) (folded ++ drop plan_length p)
  read_compiled start step reading none folded =
      let (t, A, written) = read-accepted reading none in
      subst (λ l. Compiling 64 s start step p (record { number = 0; place = 0 }) (l ++ drop plan_length p))
      (sym (folded t (accepted_compilable start step A) written))
      (accepted long A)
