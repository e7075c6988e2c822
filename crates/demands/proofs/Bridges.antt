-- The steps from the laws below this crate to the statements of Demands.antt. Nobody has to read this page to know what is promised.
use mathlib.Core.Path.{◌≡◌, refl, sym, ap, ap₂, subst, subst₂, ◌∙◌}
use mathlib.Core.Bool.{Bool, true, false, cond, false≢true}
use mathlib.Core.Logic.{◌↔◌, ◌⊎◌, inl, inr}
use mathlib.Core.List.{List, [], ◌∷◌, ◌++◌}
use Prim.Native.Nat.{ℕ, zero, suc, ◌+◌, ◌-◌, ◌*◌, ◌/◌, ◌%◌, ◌^◌, ◌≤◌, ◌<◌, min}
use native.Mathlib.Nat.{div_self}
use native.Mathlib.Omega.{arith}
use lib.Dec.{eqb, ltb}
use lib.ListN.{length, get_or, take, drop, length-map, length-take, get_or-eq_default, get_or-append}
use lib.Seq.{slice, get_or-drop, get_or-take}
use borrow.Author.Tests.{ltb-true, ltb-false, lt-ltb, eqb-true, eqb-false}
use Rattle.formula.specs.Words.{most_nodes}
use Rattle.plan.specs.Measures.{plan_length, row_length, most_rows, row_start}
use Rattle.word.specs.Word as Word
use Rattle.word.proofs.Modulo.{mod-mul-mod, mul-mod-mod}
use Rattle.formula.specs.Answer.{ReadAnswer}
use Rattle.formula.specs.Tree.{Span, first, end, Tree, span_of, number, literal_power, nodes}
use Rattle.formula.specs.Grammar.{Formula}
use Rattle.formula.specs.Value.{direct_value}
use Rattle.formula.specs.Refusals.{TooDeep, StopsAt, Part, Fault, too_long, too_deep, not-grammar, number-over, exponent-number-over, exponent-over, too_many, x_in_base, even_base, Refused, Accepted}
use Rattle.formula.specs.Refusals as Refusals
use Rattle.formula.specs.Refusals.{Reading}
use Rattle.formula_scan.specs.Readers.{Judged, refuses, accepts}
use Rattle.formula_scan.specs.Verdict.{Verdict}
use Rattle.formula_scan.proofs.Judging.{judged_stop, fault_number}
use Rattle.formula_scan.proofs.GrammarScan.{unambiguous, stops_only, decided}
use Rattle.formula_scan.proofs.Parity.{OddBases}
use Rattle.formula_scan.proofs.Verdicts.{Right, right-refused, right-accepted, verdict-right}
use Rattle.chain.specs.Chain.{rest, words, with_last, without_trailing, trimmed, row}
use Rattle.chain.specs.SumChain as SumChain
use Rattle.chain.specs.SumChain.{sum_at}
use Rattle.chain.specs.Coefficients.{polynomial, from_coefficients}
use Rattle.chain.specs.Answer as Answer
use Rattle.chain.specs.Answer.{Outcome, answered, chain, given, unless_long}
use Rattle.chain.proofs.Trimming.{value-trimmed-sum, length-row, length-trimmed, length-trimmed_some}
use Rattle.chain.proofs.Rows.{entry_row}
use Rattle.chain.proofs.SumLaws.{sum-shift, value-sum, value-words, value-difference, value-product}
use Rattle.chain.proofs.Shifting.{length_shift}
use Rattle.chain.proofs.Calls.{length-joined, length-product}
use Rattle.chain.proofs.CoefficientLaws.{value_coefficients, row_coefficients}
use Rattle.fold.specs.Folding.{fold}
use Rattle.fold.specs.Layout.{plan_words}
use Rattle.fold.specs.RowSpans.{Ordered, Says}
use Rattle.fold.proofs.ReadBack.{take_row, row_back}
use Rattle.fold.proofs.Origins.{root_first, root_end, rows_come}
use Rattle.fold.proofs.RowMeaning.{plan_root}
use Rattle.fold.proofs.Compiled as Compiled
use Rattle.fold.specs.OneChain.{OneSum, SameChain}
use Rattle.fold.specs.Answer.{CompileAnswer}
use Rattle.fold.specs.Compiling.{Compiling, too_short, refused, accepted}
use Rattle.plan.specs.Row.{kind, first_byte, end_byte, between, all_zero}
use Rattle.plan.specs.Plan as Plan
use Rattle.plan.specs.Plan.{refusal}
use Rattle.plan.specs.Points.{root_value}
use Rattle.plan.specs.Filling.{point_cost, points_for, plan_after, point_values, fill}
use Rattle.plan.specs.Eras.{root_row}
use Rattle.plan.proofs.RowLaws.{word_at}
use Rattle.plan.proofs.SoundLaws.{and_left, and_right}
use Rattle.plan.proofs.Keeping.{cost-after, refusal-after}
use Rattle.plan.proofs.Accepting.{fill-accepted, refused_alters_nothing}
use Rattle.plan.proofs.Sharing.{after-add, length-points, point_at, shared}
use Rattle.plan.specs.Calls.{Call, written, plan_left, points_of}
use Rattle.reason.specs.Answer.{ReasonAnswer}
use Rattle.reason.specs.RowTrees.{row_tree}
use Rattle.reason.specs.Reasons.{Stays, Reason}
use Rattle.reason.specs.Explaining.{refusing, explaining, Explaining, not-counted, no_operator, operator}
use Rattle.reason.proofs.Answers.{explaining-unique, answer-refused}
use Rattle.reason.proofs.CompiledRows as CompiledRows

-- ---- compile: every input has an answer
answer_to : (s : List ℕ) (start step : ℕ) (lent : List ℕ) (v : Verdict) → Right s v → plan_length ≤ length lent
    → (r : CompileAnswer) × (q : List ℕ) × Compiling 64 s start step lent r q
answer_to s start step lent _ (right-refused {n} {p} A) h = (_, lent, refused h A)
answer_to s start step lent _ (right-accepted {t} A) h = (_, _, accepted h A)

pub some_answer : (s : List ℕ) (start step : ℕ) (lent : List ℕ) → (r : CompileAnswer) × (q : List ℕ) × Compiling 64 s start step lent r q
some_answer s start step lent = go (ltb (length lent) plan_length) refl
  where
    go : (b : Bool) → ltb (length lent) plan_length ≡ b → (r : CompileAnswer) × (q : List ℕ) × Compiling 64 s start step lent r q
    go true e = (_, lent, too_short (ltb-true (length lent) plan_length e))
    go false e = answer_to s start step lent _ (verdict-right s) (ltb-false (length lent) plan_length e)

-- ---- compile: what an answer tells
module _ {s : List ℕ} {start step : ℕ} {lent : List ℕ} where
  pub kept : {r : CompileAnswer} {q : List ℕ} → Compiling 64 s start step lent r q → (r.number ≡ 0 → ⊥) → q ≡ lent
  kept (too_short h) some = refl
  kept (refused h A) some = refl
  kept (accepted h A) some = absurd (some refl)

  pub first_fault : {r : CompileAnswer} {q : List ℕ} → Compiling 64 s start step lent r q → plan_length ≤ length lent → (r.number ≡ 0 → ⊥)
      → Refused 64 s r.number r.place
  first_fault (too_short h) whole some = absurd (omega arith)
  first_fault (refused h A) whole some = A
  first_fault (accepted h A) whole some = absurd (some refl)

  -- 2 and above: the plan is long enough.
  pub long_enough : {r : CompileAnswer} {q : List ℕ} → Compiling 64 s start step lent r q → 2 ≤ r.number → plan_length ≤ length lent
  long_enough (too_short h) past = absurd (omega arith)
  long_enough (refused h A) past = h
  long_enough (accepted h A) past = h

  -- Number 0: the text means a tree that is accepted; whatever tree it means is that one, and the plan is the tree's.
  pub some_tree : {r : CompileAnswer} {q : List ℕ} → Compiling 64 s start step lent r q → r.number ≡ 0 → (t : Tree) × Accepted 64 s t
  some_tree (too_short h) nought = absurd (omega arith)
  some_tree (refused h A) nought = absurd (omega (arith, fault_number A.applies))
  some_tree (accepted {t} h A) nought = (t, A)

  pub its_plan : {r : CompileAnswer} {q : List ℕ} {t : Tree} → Compiling 64 s start step lent r q → r.number ≡ 0 → Formula s t
      → Accepted 64 s t × (q ≡ plan_words (span_of t) (fold 64 start step t) ++ drop plan_length lent)
  its_plan (too_short h) nought means = absurd (omega arith)
  its_plan (refused h A) nought means = absurd (omega (arith, fault_number A.applies))
  its_plan (accepted h A) nought means =
      let same = unambiguous A.means means in
      (subst (Accepted 64 s) same A, ap (λ t. plan_words (span_of t) (fold 64 start step t) ++ drop plan_length lent) same)

-- ---- read: a refusal leaves the lent tree
pub tree-kept : {s lent q : List ℕ} {r : ReadAnswer} → Reading 64 s lent r q → (r.number ≡ 0 → ⊥) → q ≡ lent
tree-kept (Refusals.too_short h) some = refl
tree-kept (Refusals.refused h A) some = refl
tree-kept (Refusals.accepted h A) some = absurd (some refl)

-- ---- refusal 4
module _ {s : List ℕ} where
  pub leaves-grammar : {n p : ℕ} → Fault 64 s n p → n ≡ 4 → StopsAt s p
  leaves-grammar (too_long h) e = absurd (omega arith)
  leaves-grammar (too_deep d) e = absurd (omega arith)
  leaves-grammar (not-grammar S) e = S
  leaves-grammar (number-over a b c) e = absurd (omega arith)
  leaves-grammar (exponent-number-over a b c) e = absurd (omega arith)
  leaves-grammar (exponent-over a b c) e = absurd (omega arith)
  leaves-grammar (too_many a b) e = absurd (omega arith)
  leaves-grammar (x_in_base a b c) e = absurd (omega arith)
  leaves-grammar (even_base a b c) e = absurd (omega arith)

  -- A text that the grammar does not have stops at some place, and is refused there if neither 2 nor 3 applies.
  pub refused_four : length s ≤ 1024 → ((q : ℕ) → TooDeep s q → ⊥) → ((t : Tree) → Formula s t → ⊥) → (p : ℕ) × Refused 64 s 4 p
  refused_four short flat outside = place (decided s)
    where
      go : (n p : ℕ) → 0 < n → Judged 64 s (record { number = n; place = p }) → Refused 64 s n p
      go n p some (refuses A) = A
      go n p some (accepts A) = absurd (omega arith)

      place : ((t : Tree) × Formula s t) ⊎ ((p : ℕ) × StopsAt s p) → (p : ℕ) × Refused 64 s 4 p
      place (inl (t, M)) = absurd (outside t M)
      place (inr (p, S)) = (p, go 4 p (omega arith) (judged_stop s short flat p (stops_only s p S)))

  -- No smaller number applies to a refused text.
  pub none_before : {n p m q : ℕ} → Refused 64 s n p → m < n → Fault 64 s m q → ⊥
  none_before {n} {p} {m} {q} A less fault = go (A.first m q fault)
    where
      go : (n < m) ⊎ ((n ≡ m) × (p ≤ q)) → ⊥
      go (inl h) = omega arith
      go (inr h) = omega (arith, h.0)

  pub four_only : {start step : ℕ} {lent : List ℕ} {r : CompileAnswer} {q : List ℕ} → Compiling 64 s start step lent r q → plan_length ≤ length lent
      → r.number ≡ 4 → (length s ≤ 1024) × ((p : ℕ) → TooDeep s p → ⊥) × ((t : Tree) → Formula s t → ⊥)
  four_only call whole e =
      let A = first_fault call whole (λ z. omega arith) in
      let long : 1024 < length s → ⊥ = λ h. none_before A (omega arith) (too_long h) in
      (omega arith, λ p d. none_before A (omega arith) (too_deep d), (leaves-grammar A.applies e).outside)

-- ---- a text within the limits has no fault
module _ {s : List ℕ} {t : Tree} (means : Formula s t) (bytes : length s ≤ 1024) (brackets : (p : ℕ) → TooDeep s p → ⊥)
    (numbers : (k : Span) (p v : ℕ) → Part (number k p v) t → v < 2 ^ 64)
    (exponents : (k : Span) (a : Tree) (p n : ℕ) → Part (literal_power k a p n) t → n ≤ 64)
    (size : nodes t ≤ most_nodes) (bases : OddBases 64 t) where
  here : {u v : Tree} → Formula s v → Part u v → Part u t
  here M k = subst (Part _) (unambiguous M means) k

  pub no_fault : {n p : ℕ} → Fault 64 s n p → ⊥
  no_fault (too_long h) = omega arith
  no_fault (too_deep d) = brackets _ d
  no_fault (not-grammar S) = S.outside t means
  no_fault (number-over M k h) = omega (arith, numbers _ _ _ (here M k))
  no_fault (exponent-number-over M k h) = omega (arith, exponents _ _ _ _ (here M k))
  no_fault (exponent-over M k h) = omega (arith, exponents _ _ _ _ (here M k))
  no_fault (too_many M h) = omega (arith, ap nodes (unambiguous M means))
  no_fault (x_in_base M k e) = false≢true (sym (bases _ _ _ _ (here M k)).0 ∙ e)
  no_fault (even_base M k e) = omega (arith, (bases _ _ _ _ (here M k)).1)

-- ---- fill: the answer's number is the plan's refusal
pub fill-number : (p table : List ℕ) (budget : ℕ) → (fill 64 p table budget).answer.number ≡ refusal p
fill-number p table budget = go (eqb (refusal p) 0) refl
  where
    go : (b : Bool) → eqb (refusal p) 0 ≡ b → (fill 64 p table budget).answer.number ≡ refusal p
    go true e = rw (fill-accepted 64 p table budget (eqb-true (refusal p) 0 e)) (sym (eqb-true (refusal p) 0 e))
    go false e = ap (λ r. r.answer.number) (refused_alters_nothing 64 p table budget (eqb-false (refusal p) 0 e))

-- ---- fill after other calls: word j is the root's value after all the points before it
module _ (p : List ℕ) (sound : refusal p ≡ 0) (earlier : List Call) where
  left-accepted : refusal (plan_left 64 p earlier) ≡ 0
  left-accepted = ap refusal (shared 64 p earlier sound).1 ∙ refusal-after 64 (points_of 64 p earlier) p ∙ sound

  pub never_refused : (table : List ℕ) (budget : ℕ) → (fill 64 (plan_left 64 p earlier) table budget).answer.number ≡ 0
  never_refused table budget = fill-number (plan_left 64 p earlier) table budget ∙ left-accepted

  pub word-written : (table : List ℕ) (budget j : ℕ) → j < (fill 64 (plan_left 64 p earlier) table budget).answer.points
      → get_or (fill 64 (plan_left 64 p earlier) table budget).table j 0 ≡ root_value 64 (plan_after 64 (points_of 64 p earlier + j) p)
  word-written table budget j =
      rw (fill-accepted 64 (plan_left 64 p earlier) table budget left-accepted)
      (λ h. get_or-append (point_values 64 n (plan_left 64 p earlier)) (drop n table) 0 j (rw (length-points 64 n (plan_left 64 p earlier)) h)
      ∙ point_at 64 n (plan_left 64 p earlier) j h
      ∙ ap (λ q. root_value 64 (plan_after 64 j q)) (shared 64 p earlier sound).1
      ∙ ap (root_value 64) (sym (after-add 64 (points_of 64 p earlier) j p)))
    where
      n : ℕ
      n = points_for (plan_left 64 p earlier) (length table) budget

-- ---- one word a call: n calls write n points
pub one_by_one : ℕ → ℕ → List Call
one_by_one budget zero = []
one_by_one budget (suc n) = record { table = 0 ∷ []; budget = budget } ∷ one_by_one budget n

pub one_by_one_lem : (n : ℕ) (p : List ℕ) (budget : ℕ) → refusal p ≡ 0 → budget ≡ point_cost p → points_of 64 p (one_by_one budget n) ≡ n
unfolding one_by_one points_of
one_by_one_lem zero p budget e same = refl
one_by_one_lem (suc n) p budget e same =
    ap (λ r. r.answer.points + points_of 64 r.plan (one_by_one budget n)) (fill-accepted 64 p (0 ∷ []) budget e)
    ∙ ap (λ k. k + points_of 64 (plan_after 64 k p) (one_by_one budget n)) one
    ∙ ap (λ k. 1 + k) (one_by_one_lem n (plan_after 64 1 p) budget (refusal-after 64 1 p ∙ e) (same ∙ ap (λ c. c + 1) (sym (cost-after 64 1 p))))
    ∙ omega arith
  where
    one : points_for p 1 budget ≡ 1
    one = ap (λ k. min 1 (k / point_cost p)) same ∙ ap (λ k. min 1 k) (div_self (omega arith))

-- ---- chains: either length over 16 is refused 14
pub either_long : {k l : ℕ} → (16 < k) ⊎ (16 < l) → (o : Outcome) → unless_long k (unless_long l o) ≡ Answer.refused 14
either_long {k} (inl h) o = rw (lt-ltb 16 k h)
either_long {k} {l} (inr h) o = ap (λ b. cond (ltb 16 k) (Answer.refused 14) (cond b (Answer.refused 14) o)) (lt-ltb 16 l h) ∙ same (ltb 16 k)
  where
    same : (b : Bool) → cond b (Answer.refused 14) (Answer.refused 14) ≡ Answer.refused 14
    same true = refl
    same false = refl

-- ---- chains: the last element that trimming leaves is not 0
last_with_last : (a n : ℕ) (f : List ℕ) → ((k : ℕ) → length f ≡ suc k → get_or f k 0 ≡ 0 → ⊥) → length (with_last 0 a f) ≡ suc n
    → get_or (with_last 0 a f) n 0 ≡ 0 → ⊥
unfolding with_last
last_with_last a n [] later h z = go (eqb a 0) refl n h z
  where
    go : (b : Bool) → eqb a 0 ≡ b → (n : ℕ) → length (cond b [] (a ∷ [])) ≡ suc n → get_or (cond b [] (a ∷ [])) n 0 ≡ 0 → ⊥
    go true e n h z = omega arith
    go false e zero h z = eqb-false a 0 e z
    go false e (suc n) h z = omega arith
last_with_last a zero (b ∷ f) later h z = omega arith
last_with_last a (suc n) (b ∷ f) later h z = later n (omega arith) z

last_without_trailing : (f : List ℕ) (n : ℕ) → length (without_trailing 0 f) ≡ suc n → get_or (without_trailing 0 f) n 0 ≡ 0 → ⊥
unfolding without_trailing
last_without_trailing [] n h z = omega arith
last_without_trailing (a ∷ f) n h z = last_with_last a n (without_trailing 0 f) (last_without_trailing f) h z

pub last-trimmed : (f : List ℕ) (n : ℕ) → length (trimmed 0 f) ≡ suc n → 0 < n → get_or (trimmed 0 f) n 0 ≡ 0 → ⊥
unfolding trimmed
last-trimmed f zero h some z = omega arith
last-trimmed f (suc n) h some z = last_without_trailing (rest f) n (omega arith) z

-- ---- chains: what an answer holds of the trimmed form of a chain of 17 words at most
module _ (f : List ℕ) (short : length f ≤ 17) where
  few : length (trimmed 0 f) ≤ 17
  few = length-trimmed 0 f 16 short

  count : length (trimmed 0 f) - 1 + 1 ≡ length (trimmed 0 f)
  count = omega (arith, length-trimmed_some 0 f)

  pub answer-length : (answered (chain (trimmed 0 f))).length ≤ 16
  answer-length = omega (arith, few)

  pub answer-last : 0 < (answered (chain (trimmed 0 f))).length
      → get_or (answered (chain (trimmed 0 f))).elements (answered (chain (trimmed 0 f))).length 0 ≡ 0 → ⊥
  answer-last some z =
      last-trimmed f (length (trimmed 0 f) - 1) (omega (arith, length-trimmed_some 0 f)) some
      (sym (entry_row 17 (trimmed 0 f) (length (trimmed 0 f) - 1) (omega (arith, few))) ∙ z)

  pub answer-past : (j : ℕ) → (answered (chain (trimmed 0 f))).length < j → get_or (answered (chain (trimmed 0 f))).elements j 0 ≡ 0
  answer-past j past = go (ltb j 17) refl
    where
      go : (b : Bool) → ltb j 17 ≡ b → get_or (row 17 (trimmed 0 f)) j 0 ≡ 0
      go true e = entry_row 17 (trimmed 0 f) j (ltb-true j 17 e) ∙ get_or-eq_default (trimmed 0 f) 0 (omega (arith, count, past))
      go false e = get_or-eq_default (row 17 (trimmed 0 f)) 0 (rw (length-row 17 (trimmed 0 f)) (ltb-false j 17 e))

  pub answer-value : (i : ℕ)
      → sum_at (take ((answered (chain (trimmed 0 f))).length + 1) (answered (chain (trimmed 0 f))).elements) i ≡ sum_at f i
  answer-value i =
      ap (λ n. sum_at (take n (row 17 (trimmed 0 f))) i) count
      ∙ ap (λ g. sum_at g i) (take_row 17 (trimmed 0 f) few)
      ∙ value-trimmed-sum f i

-- ---- chains: lengths and values of what the calls compute
pub taken-short : (f : List ℕ) (k : ℕ) → k ≤ 16 → length (take (k + 1) f) ≤ 17
taken-short f k h = rw (length-take (k + 1) f) (omega arith)

given-short : (f : List ℕ) (k : ℕ) → k ≤ 16 → length (given f k) ≤ 17
given-short f k h = length-trimmed 0 (take (k + 1) f) 16 (taken-short f k h)

module _ (f : List ℕ) (k : ℕ) where
  pub shift_short : k ≤ 16 → length (words 64 (SumChain.sum_shift (given f k))) ≤ 17
  shift_short h = rw (length-map (SumChain.sum_shift (given f k)) (λ a. a % 2 ^ 64), length_shift ◌+◌ (given f k)) (given-short f k h)

  pub shift-value : (i : ℕ) → Word.word 64 (sum_at (words 64 (SumChain.sum_shift (given f k))) i) ≡ Word.word 64 (sum_at (take (k + 1) f) (suc i))
  shift-value i =
      value-words 64 (SumChain.sum_shift (given f k)) i
      ∙ ap (Word.word 64) (sum-shift (given f k) i ∙ value-trimmed-sum (take (k + 1) f) (suc i))

  module _ (g : List ℕ) (l : ℕ) where
    pub sum-short : k ≤ 16 → l ≤ 16 → length (words 64 (SumChain.sum (given f k) (given g l))) ≤ 17
    sum-short h j =
        rw (length-map (SumChain.sum (given f k) (given g l)) (λ a. a % 2 ^ 64))
        (length-joined ◌+◌ 0 17 (given f k) (given g l) (given-short f k h) (given-short g l j))

    pub difference-short : k ≤ 16 → l ≤ 16 → length (SumChain.difference 64 (given f k) (given g l)) ≤ 17
    difference-short h j = length-joined (Word.difference 64) 0 17 (given f k) (given g l) (given-short f k h) (given-short g l j)

    pub product-short : (length (given f k) - 1) + (length (given g l) - 1) ≤ 16
        → length (words 64 (SumChain.product (given f k) (given g l))) ≤ 17
    product-short h =
        rw (length-map (SumChain.product (given f k) (given g l)) (λ a. a % 2 ^ 64))
        (omega (arith, length-product (given f k) (given g l) (length (given f k)) (length (given g l) - 1) (omega arith) (omega arith)))

    module _ (i : ℕ) where
      abbrev left : ℕ
      left = sum_at (take (k + 1) f) i

      abbrev right : ℕ
      right = sum_at (take (l + 1) g) i

      values : (join : ℕ → ℕ → ℕ) → join (sum_at (given f k) i) (sum_at (given g l) i) ≡ join left right
      values join = ap₂ join (value-trimmed-sum (take (k + 1) f) i) (value-trimmed-sum (take (l + 1) g) i)

      pub sum-value : Word.word 64 (sum_at (words 64 (SumChain.sum (given f k) (given g l))) i) ≡ Word.sum 64 (Word.word 64 left) (Word.word 64 right)
      sum-value =
          value-words 64 (SumChain.sum (given f k) (given g l)) i
          ∙ ap (Word.word 64) (value-sum (given f k) (given g l) i ∙ values ◌+◌)
          ∙ omega arith

      pub difference-value : Word.word 64 (sum_at (SumChain.difference 64 (given f k) (given g l)) i)
          ≡ Word.difference 64 (Word.word 64 left) (Word.word 64 right)
      difference-value =
          value-difference 64 (given f k) (given g l) i ∙ values (Word.difference 64) ∙ omega arith

      pub product_value : Word.word 64 (sum_at (words 64 (SumChain.product (given f k) (given g l))) i)
          ≡ Word.product 64 (Word.word 64 left) (Word.word 64 right)
      product_value =
          value-words 64 (SumChain.product (given f k) (given g l)) i
          ∙ ap (Word.word 64) (value-product (given f k) (given g l) i ∙ values ◌*◌)
          ∙ sym (mod-mul-mod left (Word.word 64 right) (2 ^ 64) ∙ mul-mod-mod left right (2 ^ 64))

pub coefficients_short : (a : List ℕ) → length (words 64 (from_coefficients a)) ≤ 17
coefficients_short a = omega (arith, ap length (row_coefficients 64 a), length-row 17 (words 64 (from_coefficients a)))

pub coefficients_value : (a : List ℕ) (i : ℕ) → length a ≤ 17 → Word.word 64 (sum_at (words 64 (from_coefficients a)) i) ≡ Word.word 64 (polynomial a i)
coefficients_value a i h = value-words 64 (from_coefficients a) i ∙ ap (Word.word 64) (value_coefficients a i h)

-- ---- what compiling leaves, filled and compared
module _ {s : List ℕ} {start step : ℕ} {lent : List ℕ} {r : CompileAnswer} {q : List ℕ} (call : Compiling 64 s start step lent r q)
    (nought : r.number ≡ 0) {t : Tree} (means : Formula s t) where
  allows : Accepted 64 s t
  allows = (its_plan call nought means).0

  leaves : q ≡ plan_words (span_of t) (fold 64 start step t) ++ drop plan_length lent
  leaves = (its_plan call nought means).1

  pub its_refusal : refusal q ≡ 0
  its_refusal = ap refusal leaves ∙ Compiled.compiled_accepted 64 start step (omega arith) allows (drop plan_length lent)

  pub its_word : (earlier : List Call) (table : List ℕ) (budget j : ℕ) → j < (fill 64 (plan_left 64 q earlier) table budget).answer.points
      → get_or (fill 64 (plan_left 64 q earlier) table budget).table j 0 ≡ direct_value 64 start step t (points_of 64 q earlier + j)
  its_word earlier table budget j h =
      word-written q its_refusal earlier table budget j h
      ∙ ap (λ p. root_value 64 (plan_after 64 (points_of 64 q earlier + j) p)) leaves
      ∙ Compiled.compiled_value 64 start step (omega arith) allows (drop plan_length lent) (points_of 64 q earlier + j)

  pub its_words : (calls : List Call) (i : ℕ) → i < points_of 64 q calls → get_or (written 64 q calls) i 0 ≡ direct_value 64 start step t i
  its_words calls i =
      subst (λ p. i < points_of 64 p calls → get_or (written 64 p calls) i 0 ≡ direct_value 64 start step t i) (sym leaves)
      ((Compiled.compiled_points 64 start step (omega arith) allows (drop plan_length lent) calls).0 i)

module _ {s : List ℕ} {start step : ℕ} {lent : List ℕ} {r : CompileAnswer} {q : List ℕ} (call : Compiling 64 s start step lent r q)
    (nought : r.number ≡ 0) {t : Tree} (means : Formula s t)
    {s' : List ℕ} {start' step' : ℕ} {lent' : List ℕ} {r' : CompileAnswer} {q' : List ℕ} (call' : Compiling 64 s' start' step' lent' r' q')
    (nought' : r'.number ≡ 0) {t' : Tree} (means' : Formula s' t') where
  EqualRows : List ℕ → List ℕ → Type 0
  EqualRows p p' =
      OneSum p → OneSum p'
      → SameChain (Plan.row p 0) (Plan.row p' 0) ↔ ((i : ℕ) → i ≤ 16 → direct_value 64 start step t i ≡ direct_value 64 start' step' t' i)

  pub their_rows : OneSum q → OneSum q'
      → SameChain (Plan.row q 0) (Plan.row q' 0) ↔ ((i : ℕ) → i ≤ 16 → direct_value 64 start step t i ≡ direct_value 64 start' step' t' i)
  unfolding EqualRows
  their_rows =
      subst₂ EqualRows (sym (leaves call nought means)) (sym (leaves call' nought' means'))
      (Compiled.compiled_equal 64 start step (omega arith) (allows call nought means) (drop plan_length lent) start' step'
      (allows call' nought' means') (drop plan_length lent'))

-- ---- rows and their spans
-- The rows of a sound plan that word 0 does not count are all 0.
zero_at : (f : List ℕ) → all_zero f ≡ true → (j : ℕ) → get_or f j 0 ≡ 0
unfolding all_zero
zero_at [] e j = refl
zero_at (a ∷ f) e zero = eqb-true a 0 (and_left (eqb a 0) _ e)
zero_at (a ∷ f) e (suc j) = zero_at f (and_right (eqb a 0) _ e) j

pub other_rows : (p : List ℕ) → Plan.sound p ≡ true → (r j : ℕ) → Plan.row_count p ≤ r → r < most_rows → j < row_length → get_or (Plan.row p r) j 0 ≡ 0
unfolding Plan.sound
other_rows p sound r j past few here =
    word_at p r j here
    ∙ ap (λ k. get_or p k 0) place
    ∙ sym (get_or-take plan_length p (row_start (Plan.row_count p) + behind) 0 (omega arith))
    ∙ sym (get_or-drop (row_start (Plan.row_count p)) (take plan_length p) behind 0)
    ∙ zero_at (slice (row_start (Plan.row_count p)) plan_length p) zeros behind
  where
    zeros : all_zero (slice (row_start (Plan.row_count p)) plan_length p) ≡ true
    zeros = and_right (Plan.sound_from [] (Plan.rows p)) _ (and_right (between 1 most_rows (Plan.row_count p)) _ sound)

    behind : ℕ
    behind = row_length * (r - Plan.row_count p) + j

    place : row_start r + j ≡ row_start (Plan.row_count p) + behind
    place = omega arith

-- ---- why a row is still there
module _ {p : List ℕ} {r : ℕ} where
  pub reason_number : {a : ReasonAnswer} → Explaining 64 p r a → a.number ≡ refusal p
  reason_number (Explaining.refused other) = refl
  reason_number (not-counted good past) = sym good
  reason_number (no_operator good within low) = sym good
  reason_number (operator good within least reason) = sym good

  pub reason_refused : {a : ReasonAnswer} {n : ℕ} → Explaining 64 p r a → refusal p ≡ n → (n ≡ 0 → ⊥) → a ≡ refusing n
  reason_refused call e some = explaining-unique 64 p r call (answer-refused 64 p r (sym e) some)

  pub reason_given : {a : ReasonAnswer} → Explaining 64 p r a → refusal p ≡ 0 → r < Plan.row_count p → 3 ≤ kind (Plan.row p r)
      → (a ≡ explaining p r a.reason) × Reason 64 (row_tree p r) a.reason
  reason_given (Explaining.refused other) sound here operates = absurd (other sound)
  reason_given (not-counted good past) sound here operates = absurd (omega arith)
  reason_given (no_operator good within few) sound here operates = absurd (omega arith)
  reason_given (operator good within least reason) sound here operates = (refl, reason)

module _ {s : List ℕ} {start step : ℕ} {lent : List ℕ} {r : CompileAnswer} {q : List ℕ} (call : Compiling 64 s start step lent r q)
    (nought : r.number ≡ 0) where
  -- What holds of the plan of every accepted formula holds of the one that is left.
  as_compiled : (P : List ℕ → Type 0)
      → ((t : Tree) → Accepted 64 s t → P (plan_words (span_of t) (fold 64 start step t) ++ drop plan_length lent)) → P q
  as_compiled P holds =
      let (t, A) = some_tree call nought in
      subst P (sym (its_plan call nought A.means).1) (holds t A)

  pub its_says : (i : ℕ) → i < Plan.row_count q → Says 64 s start step (Plan.row q i)
  its_says =
      as_compiled (λ p. (i : ℕ) → i < Plan.row_count p → Says 64 s start step (Plan.row p i))
      (λ t A. Compiled.compiled_says 64 start step (omega arith) A (drop plan_length lent))

  pub its_order : (i : ℕ) → i < Plan.row_count q → Ordered (Plan.row q) (Plan.row q i)
  its_order =
      as_compiled (λ p. (i : ℕ) → i < Plan.row_count p → Ordered (Plan.row p) (Plan.row p i))
      (λ t A. Compiled.compiled_ordered 64 start step (omega arith) A (drop plan_length lent))

  pub its_ends : (i : ℕ) → i < Plan.row_count q → end_byte (Plan.row q i) ≤ length s
  its_ends =
      as_compiled (λ p. (i : ℕ) → i < Plan.row_count p → end_byte (Plan.row p i) ≤ length s)
      (λ t A. Compiled.compiled_within 64 start step (omega arith) A (drop plan_length lent))

  pub its_stays : (i : ℕ) → i < Plan.row_count q → Stays 64 (row_tree q i)
  its_stays =
      as_compiled (λ p. (i : ℕ) → i < Plan.row_count p → Stays 64 (row_tree p i))
      (λ t A. CompiledRows.compiled_stays 64 start step (omega arith) A (drop plan_length lent))

  pub its_reason : (i : ℕ) {a : ReasonAnswer} → Explaining 64 q i a → (a.number ≡ 0) × (a.reason ≡ 7 → ⊥)
  its_reason i {a} explained =
      let (_, A) = some_tree call nought in (
        reason_number explained ∙ its_refusal call nought A.means,
        as_compiled (λ p. Explaining 64 p i a → a.reason ≡ 7 → ⊥)
            (λ t A. CompiledRows.compiled_explained 64 start step (omega arith) A (drop plan_length lent) i) explained,
      )

  module _ {t : Tree} (means : Formula s t) where
    pub its_tree : row_tree q (Plan.row_count q - 1) ≡ fold 64 start step t
    its_tree =
        subst (λ p. row_tree p (Plan.row_count p - 1) ≡ fold 64 start step t) (sym (leaves call nought means))
        (CompiledRows.compiled_tree 64 start step (omega arith) (allows call nought means) (drop plan_length lent))

    pub its_root : (first_byte (root_row q) ≡ first (span_of t)) × (end_byte (root_row q) ≡ end (span_of t))
    its_root =
        let folded = fold 64 start step t in
        let root = ap root_row (leaves call nought means) ∙ plan_root (span_of t) folded (drop plan_length lent) in
        (ap (λ x. first_byte x) root ∙ root_first 0 folded (span_of t), ap (λ x. end_byte x) root ∙ root_end 0 folded (span_of t))

    pub its_node : (i : ℕ) → i < Plan.row_count q
        → (u : Tree) × Part u t × (first_byte (Plan.row q i) ≡ first (span_of u)) × (end_byte (Plan.row q i) ≡ end (span_of u))
    its_node = subst Nodes (sym (leaves call nought means)) nodes_known
      where
        Nodes : List ℕ → Type 0
        Nodes p =
            (i : ℕ) → i < Plan.row_count p
            → (u : Tree) × Part u t × (first_byte (Plan.row p i) ≡ first (span_of u)) × (end_byte (Plan.row p i) ≡ end (span_of u))

        nodes_known : Nodes (plan_words (span_of t) (fold 64 start step t) ++ drop plan_length lent)
        nodes_known i h =
            let row = rows_come 64 start step t i h in
            let words = row_back (span_of t) (fold 64 start step t) (drop plan_length lent) i h ∙ row.words in (
              row.part,
              row.stands,
              ap (λ x. first_byte x) words ∙ root_first row.from (fold 64 start step row.part) (span_of row.part),
              ap (λ x. end_byte x) words ∙ root_end row.from (fold 64 start step row.part) (span_of row.part),
            )
