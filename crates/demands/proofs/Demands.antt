-- The three demands as theorems about the contracts of the public calls alone, each under the sentence that it renders; then, for each call,
-- that any two answers which meet its contract are equal. The contracts are `Compiling` of fold; `Explaining` of reason; `Reading` of formula; `fill`, `fill_eras`, `cost_answer`,
-- `sound_answer` and `refusal` of plan; `answered` of an outcome, `shift_answer` and `value_answer` of chain; `probe_answer` of probe; `started`, `stepped` and
-- `finished` of table_progress; `product`, `power` and `signed` of word. Words have 64 bits. What document 02 asks for stands behind the demands. Bridges.antt has the longer steps.
use mathlib.Core.Path.{◌≡◌, refl, sym, ap, subst, ◌∙◌}
use mathlib.Core.Bool.{true, false}
use mathlib.Core.Logic.{◌↔◌, ◌⊎◌, inl, inr}
use mathlib.Core.List.{List, [], ◌∷◌, ◌++◌}
use Prim.Native.Nat.{ℕ, suc, ◌+◌, ◌-◌, ◌*◌, ◌%◌, ◌^◌, ◌≤◌, ◌<◌}
use native.Mathlib.Nat.{mul-one}
use native.Mathlib.Omega.{arith}
use lib.ListN.{length, get_or, take, drop, replicate}
use lib.IntN.{ℤ, pos, negsuc, neg_ℤ, ◌+ℤ◌, ◌*ℤ◌}
use lib.Signed.{◌<ℤ◌, ◌≤ℤ◌}
use borrow.Author.Tests.{lt-ltb, le-ltb}
use Rattle.plan.specs.Measures.{plan_length, row_length}
use Rattle.word.specs.Word as Word
use Rattle.word.specs.Signed as Signed
use Rattle.word.specs.Signed.{half, signed}
use Rattle.word.proofs.Unique as WordPromises
use Rattle.word.proofs.Unique.{both_are}
use Rattle.formula.specs.Answer.{ReadAnswer}
use Rattle.formula.specs.Tree.{first, end, Tree, span_of}
use Rattle.formula.specs.Grammar.{Formula}
use Rattle.formula.specs.Value.{direct_value}
use Rattle.formula.specs.Refusals.{count, TooDeep, StopsAt, Part, Fault, too_long, too_deep, not-grammar, Refused, Accepted, Reading}
use Rattle.formula_scan.proofs.Answers.{accepted_fits, accepted_base, reading_unique}
use Rattle.formula_scan.proofs.GrammarScan.{unambiguous, decided}
use Rattle.chain.specs.Answer.{ChainAnswer, ShiftAnswer, ValueAnswer}
use Rattle.chain.specs.Chain as Chain
use Rattle.chain.specs.SumChain.{sum_at}
use Rattle.chain.specs.SumChain as SumChain
use Rattle.chain.specs.BackwardChain.{value_ahead, value_before, to_backward, to_forward}
use Rattle.chain.specs.BackwardChain as BackwardChain
use Rattle.chain.specs.ProductChain.{product_at}
use Rattle.chain.specs.Coefficients.{polynomial}
use Rattle.chain.specs.Crossing.{crossing}
use Rattle.chain.specs.Answer.{answered, chain, given, trim_outcome, sum_outcome, difference_outcome, product_outcome, shift_outcome, with_crossing, shift_answer, coefficients_outcome, value_answer}
use Rattle.chain.specs.BackwardAnswer.{inverse_shift_outcome, backward_shift_outcome, backward_inverse_shift_outcome, backward_product_outcome, to_backward_outcome, to_forward_outcome}
use Rattle.chain.proofs.Values as Values
use Rattle.chain.proofs.Shifting.{length-from_top}
use Rattle.chain.proofs.Backward as Backward
use Rattle.chain.proofs.Conversions as Conversions
use Rattle.chain.proofs.BackwardCalls as BackwardCalls
use Rattle.chain.proofs.SumLaws as SumLaws
use Rattle.chain.proofs.ProductLaws.{value-product-words}
use Rattle.chain.proofs.Promises as ChainPromises
use Rattle.chain.proofs.CrossingLaws as Crossing
use Rattle.plan.specs.Answers.{FillAnswer, FillErasAnswer, CostAnswer, SoundAnswer}
use Rattle.plan.specs.Plan as Plan
use Rattle.plan.specs.Row.{Row, kind, word_a, word_b, first_element, first_byte, end_byte}
use Rattle.plan.specs.Points.{root_value}
use Rattle.plan.specs.Filling.{point_cost, points_for, plan_after, filled, fill_refused, fill, cost_answer, sound_answer}
use Rattle.plan.proofs.RowLaws as Rows
use Rattle.plan.proofs.SpanLaws as Spans
use Rattle.plan.proofs.Accepting.{refused_alters_nothing}
use Rattle.plan.proofs.Sharing as Sharing
use Rattle.plan.specs.Eras.{root_row, eras_over, position, AreWords, constant_or_sum, eras_refusal, with_sum, fill_eras, sum_of}
use Rattle.plan.proofs.EraLaws as Eras
use Rattle.plan.specs.Calls.{Call, plan_left, points_of, written}
use Rattle.fold.specs.Folded.{constant}
use Rattle.fold.specs.Folding.{fold}
use Rattle.fold.specs.Layout.{plan_words}
use Rattle.fold.proofs.Compiled as Compiled
use Rattle.fold.specs.OneChain.{OneSum, SameChain}
use Rattle.fold.specs.RowSpans.{Ordered, SameRow, text_of}
use Rattle.fold.specs.Answer.{CompileAnswer}
use Rattle.fold.specs.Compiling.{Compiling, too_short, refused, accepted}
use Rattle.fold.proofs.Promise as Promise
use Rattle.fold.proofs.Promise.{compiling_unique}
use Rattle.reason.specs.Answer.{ReasonAnswer}
use Rattle.reason.specs.RowTrees.{operand_spans, operator_over, row_tree}
use Rattle.reason.specs.Reasons.{Stays, Folds, Named, Reason, would_fold}
use Rattle.reason.specs.Explaining.{refusing, explaining, Explaining, not-counted, no_operator}
use Rattle.reason.proofs.OneReason as OneReason
use Rattle.reason.proofs.TreeLaws as RowTrees
use Rattle.reason.proofs.SoundRows as SoundRows
use Rattle.reason.proofs.Answers as Reasons
use Rattle.probe.specs.Answer.{ProbeAnswer, NoVerdict}
use Rattle.probe.specs.Probe as ProbeSpec
use Rattle.probe.specs.Probe.{offset, verdict, verdict_word, ahead, behind, within, unset, probe_answer}
use Rattle.probe.proofs.Laws as Probe
use Rattle.table.specs.declared.Tool.{Tool}
use Rattle.table.specs.Parts.{line_feed}
use Rattle.table.specs.Run.{RunPrints}
use Rattle.table_progress.specs.declared.Progress.{Progress}
use Rattle.table_progress.specs.Run.{run}
use Rattle.table_progress.specs.Steps.{Stepped, started, Buffers, stepped, finished}
use Rattle.table_progress.specs.Runs.{Roomy, Runs}
use Rattle.table_progress.proofs.Readiness.{step_undone, end_undone}
use Rattle.table_progress.proofs.Adding.{adds_up}
use Rattle.table_progress.proofs.GoingOn.{every-input_runs}
use Rattle.table_progress.proofs.RunPrints.{run-prints, run_only}
use Rattle.table_progress.proofs.Uniqueness as StepPromises
use Rattle.demands.specs.Demanded.{no_chain, Allowed, value_of, Answers}
use Rattle.demands.proofs.Bridges as Bridges

-- ======== Demand 1: "Formulas, job lines, plans and lent tables may hold anything at all. The library answers or refuses, with the number and
-- place that document 01 fixes, at the first check that applies. A refused call changes nothing it was lent."
-- ---- job files
-- Whatever bytes a job file holds, `RunPrints` says what each tool prints of it, the table printer by 01's sentences alone, the row explainer of request Six by
-- these and 02's: every input has an output, and no second one.
pub job_file_output : (tool : Tool) (input : List ℕ) → (output : List ℕ) × RunPrints tool input output
job_file_output tool input = (run tool input, run-prints tool input)

pub job_file_unique : (tool : Tool) (input : List ℕ) {output output' : List ℕ} → RunPrints tool input output → RunPrints tool input output' → output ≡ output'
job_file_unique tool input A B = both_are (run_only tool input A) (run_only tool input B)

-- All that accepted calls write over it, however it is cut, is that.
pub job_file_prints : {tool : Tool} {line defaults input output : List ℕ} → Runs tool started line defaults input output → RunPrints tool input output
job_file_prints {tool} {input = input} runs = subst (RunPrints tool input) (sym (adds_up runs)) (run-prints tool input)

-- With buffers that are long enough, calls over it come to its end, and have then written that.
pub job_file_runs : (tool : Tool) {plan table out : List ℕ} → Roomy plan table out → (line defaults input : List ℕ)
    → 4097 ≤ length line → 4096 ≤ length defaults → count line_feed input < 2 ^ 64 - 1
    → (output : List ℕ) × RunPrints tool input output × Runs tool started line defaults input output
job_file_runs tool roomy line defaults input h k few =
    (run tool input, run-prints tool input, every-input_runs tool roomy line defaults input h k few)

-- "A refused call changes nothing it was lent": a step, and the end of the input, that are not done.
pub refused-step_keeps : (tool : Tool) (p : Progress) (input : List ℕ) (b : Buffers) → (stepped tool p input b).answer.ok ≡ false
    → (stepped tool p input b).buffers ≡ b
refused-step_keeps tool p input b undone = ap (λ o. o.buffers) (step_undone tool p input b undone)

pub refused-end_keeps : (tool : Tool) (p : Progress) (b : Buffers) → (finished tool p b).answer.ok ≡ false → (finished tool p b).buffers ≡ b
refused-end_keeps tool p b undone = ap (λ o. o.buffers) (end_undone tool p b undone)

-- ---- compile
-- Whatever the text, the grid and the lent plan hold, there is an answer.
pub compile_answers : (s : List ℕ) (start step : ℕ) (lent : List ℕ) → (r : CompileAnswer) × (q : List ℕ) × Compiling 64 s start step lent r q
compile_answers = Bridges.some_answer

module _ {s : List ℕ} {start step : ℕ} {lent : List ℕ} {r : CompileAnswer} {q : List ℕ} (call : Compiling 64 s start step lent r q) where
  -- "1: plan shorter than 2,561 words", now 2,817: "Row offsets and refusal 1's limit follow" (request Five of document 02). Ahead of whatever is
  -- wrong with the text.
  pub compile_short : length lent < plan_length → r ≡ record { number = 1; place = 0 }
  compile_short h = (compiling_unique call (too_short h)).0

  -- "the first number that applies": where some of 2 to 8 apply to the text, the answer is one that does, at its leftmost place, and no
  -- smaller number applies.
  pub compile_first : plan_length ≤ length lent → {n p : ℕ} → Fault 64 s n p → Refused 64 s r.number r.place
  compile_first whole {n} {p} fault =
      Bridges.first_fault call whole (λ nought. let (t, A) = Bridges.some_tree call nought in A.faultless n p fault)

  -- "An accepted call answers number 0, place 0": where none applies, the call is accepted.
  pub compile_accepts : plan_length ≤ length lent → ((n p : ℕ) → Fault 64 s n p → ⊥) → r ≡ record { number = 0; place = 0 }
  compile_accepts whole none = go (decided s)
    where
      go : ((t : Tree) × Formula s t) ⊎ ((p : ℕ) × StopsAt s p) → r ≡ record { number = 0; place = 0 }
      go (inl (t, M)) = (compiling_unique call (accepted whole (record { means = M; faultless = none }))).0
      go (inr (p, S)) = absurd (none 4 p (not-grammar S))

  -- "A refused call changes nothing it was lent."
  pub refused_compile_keeps : (r.number ≡ 0 → ⊥) → q ≡ lent
  refused_compile_keeps = Bridges.kept call

-- ---- read: 1 for a lent tree under 257 words, then 2 to 8, as `Reading` says. "A refused call changes nothing it was lent."
pub refused-read_keeps : {s lent q : List ℕ} {r : ReadAnswer} → Reading 64 s lent r q → (r.number ≡ 0 → ⊥) → q ≡ lent
refused-read_keeps = Bridges.tree-kept

-- ---- fill, cost and sound, whatever plan and table hold. "1: plan shorter than 2,561 words", now 2,817, ahead of 9. `fill_refused` is "0 points
-- and 0 spent", with table and plan as they were.
pub plan-short : (p table : List ℕ) (budget : ℕ) → length p < plan_length
    → (fill 64 p table budget ≡ fill_refused 1 p table)
    × (cost_answer p ≡ record { number = 1; place = 0; cost = 0 }) × (sound_answer p ≡ record { number = 1; place = 0 })
unfolding fill
plan-short p table budget short = rw (lt-ltb (length p) plan_length short) (refl, refl, refl)

-- "9: plan not sound (after 1)".
pub plan_unsound : (p table : List ℕ) (budget : ℕ) → plan_length ≤ length p → Plan.sound p ≡ false
    → (fill 64 p table budget ≡ fill_refused 9 p table)
    × (cost_answer p ≡ record { number = 9; place = 0; cost = 0 }) × (sound_answer p ≡ record { number = 9; place = 0 })
unfolding fill
plan_unsound p table budget whole unsound = rw (le-ltb (length p) plan_length whole, unsound) (refl, refl, refl)

-- Otherwise the call is accepted: `filled` has the points, the budget spent, and all words of table and plan, by 01's filling rule.
pub plan-sound : (p table : List ℕ) (budget : ℕ) → plan_length ≤ length p → Plan.sound p ≡ true
    → (fill 64 p table budget ≡ filled 64 (points_for p (length table) budget) p table)
    × (cost_answer p ≡ record { number = 0; place = 0; cost = Plan.cost p }) × (sound_answer p ≡ record { number = 0; place = 0 })
unfolding fill
plan-sound p table budget whole sound = rw (le-ltb (length p) plan_length whole, sound) (refl, refl, refl)

-- "A refused call changes nothing it was lent", for fill: neither table nor plan. Of the other calls, step, finish, compile and read are lent
-- what they may change, each with its theorem above, and `clear` of word, which refuses nothing. An export promises of plan and table
-- what its call does, and has an array of its own for the answer.
pub refused-fill_keeps : (p table : List ℕ) (budget : ℕ) → ((fill 64 p table budget).answer.number ≡ 0 → ⊥)
    → ((fill 64 p table budget).table ≡ table) × ((fill 64 p table budget).plan ≡ p)
    × ((fill 64 p table budget).answer.points ≡ 0) × ((fill 64 p table budget).answer.spent ≡ 0)
refused-fill_keeps p table budget some =
    rw (refused_alters_nothing 64 p table budget (λ e. some (Bridges.fill-number p table budget ∙ e))) (refl, refl, refl, refl)

-- ---- the chain calls: "Refused chain calls (13 to 15) return the constant 0 beside the number", place 0, which is `no_chain`
-- "14: a chain given with length over 16", of one chain or of either of two, and ahead of 15; "A refused value call answers the word 0".
pub chain_long : (f : List ℕ) (k : ℕ) → 16 < k
    → (answered (trim_outcome f k) ≡ no_chain 14) × (shift_answer 64 f k ≡ with_crossing (no_chain 14) (pos 0))
    × (value_answer f k ≡ record { number = 14; place = 0; word = 0 })
unfolding Chain.row
chain_long f k over = rw (lt-ltb 16 k over) (refl, refl, refl)

pub either_long : (f : List ℕ) (k : ℕ) (g : List ℕ) (l : ℕ) → (16 < k) ⊎ (16 < l)
    → (answered (sum_outcome 64 f k g l) ≡ no_chain 14) × (answered (difference_outcome 64 f k g l) ≡ no_chain 14)
    × (answered (product_outcome 64 f k g l) ≡ no_chain 14)
unfolding Chain.row
either_long f k g l over =
    (ap answered (Bridges.either_long over _), ap answered (Bridges.either_long over _), ap answered (Bridges.either_long over _))

-- "15: chain product, trimmed lengths add over 16".
pub product-over : (f : List ℕ) (k : ℕ) (g : List ℕ) (l : ℕ) → k ≤ 16 → l ≤ 16
    → 16 < (length (given f k) - 1) + (length (given g l) - 1) → answered (product_outcome 64 f k g l) ≡ no_chain 15
unfolding Chain.row
product-over f k g l h j over = rw (le-ltb 16 k h, le-ltb 16 l j, lt-ltb 16 ((length (given f k) - 1) + (length (given g l) - 1)) over)

-- "13: over 17 coefficients".
pub coefficients_long : (a : List ℕ) → 17 < length a → answered (coefficients_outcome 64 a) ≡ no_chain 13
unfolding Chain.row
coefficients_long a h = rw (lt-ltb 17 (length a) h)

-- ---- probe: "10: T is 2^63 or more"; "a refused probe returns offset 0 and no verdict"
pub probe_refused : (reading expected tolerance : ℕ) → 2 ^ 63 ≤ tolerance
    → probe_answer reading expected tolerance ≡ record { number = 10; place = 0; offset = pos 0; verdict = NoVerdict }
probe_refused reading expected tolerance h = rw (le-ltb tolerance (half 64) h)

-- ======== Demand 2: "Reading follows 01's grammar and limits, no text more and no text less. Chains mean what the papers say, modulo 2^64; every
-- product, sum, shift and offset is right by that meaning. Compiling folds exactly where 01 folds, and the plan has 01's layout."
-- ---- "01's grammar and limits": the text means a tree, and keeps every limit of 2, 3 and 5 to 8, which is `Allowed`
allowed : {s : List ℕ} {t : Tree} → Accepted 64 s t → Allowed s t
allowed {s} A =
    let long : 1024 < length s → ⊥ = λ h. A.faultless _ _ (too_long h) in
    record {
      grammar = A.means;
      bytes = omega arith;
      brackets = λ p d. A.faultless 3 p (too_deep d);
      numbers = (accepted_fits A).0;
      exponents = (accepted_fits A).1;
      size = (accepted_fits A).2;
      bases = accepted_base A;
    }

faultless : {s : List ℕ} {t : Tree} → Allowed s t → (n p : ℕ) → Fault 64 s n p → ⊥
faultless L n p = Bridges.no_fault L.grammar L.bytes L.brackets L.numbers L.exponents L.size L.bases

-- "So -x^2 is -(x^2)": the tree is the grammar's, and a text has no second one.
pub one_tree : {s : List ℕ} {t u : Tree} → Formula s t → Formula s u → t ≡ u
one_tree = unambiguous

module _ {s : List ℕ} {start step : ℕ} {lent : List ℕ} {r : CompileAnswer} {q : List ℕ} (call : Compiling 64 s start step lent r q) where
  -- "no text more and no text less": accepted exactly where the grammar and the limits allow it.
  pub accepted_exactly : plan_length ≤ length lent → (r.number ≡ 0) ↔ ((t : Tree) × Allowed s t)
  accepted_exactly whole = (
    λ nought. let (t, A) = Bridges.some_tree call nought in (t, allowed A),
    λ (t, L). ap (λ a. a.number) (compile_accepts call whole (faultless L)),
  )

  -- "4: not in the grammar": refused 4 exactly where the grammar has no such text, and neither 2 nor 3 applies.
  pub outside_exactly : plan_length ≤ length lent
      → (r.number ≡ 4) ↔ ((length s ≤ 1024) × ((p : ℕ) → TooDeep s p → ⊥) × ((t : Tree) → Formula s t → ⊥))
  outside_exactly whole = (
    λ e. Bridges.four_only call whole e,
    λ (short, flat, outside). ap (λ a. a.number) (compiling_unique call (refused whole (Bridges.refused_four short flat outside).1)).0,
  )

  -- "first byte after which no grammar text can begin so; the length if the text only stops early".
  pub outside-place : r.number ≡ 4 → StopsAt s r.place
  outside-place e =
      let A = Bridges.first_fault call (Bridges.long_enough call (omega arith)) (λ z. omega arith) in
      Bridges.leaves-grammar A.applies e

  -- "Compiling folds exactly where 01 folds, and the plan has 01's layout", which "reads so from then on" with request Five's spans: the words are
  -- those of the folded tree and of the root's span, all 2,817 of them, and the words after these stay. Folding.antt and Layout.antt have the rules,
  -- each under its sentence.
  pub plan_layout : r.number ≡ 0 → {t : Tree} → Formula s t
      → (q ≡ plan_words (span_of t) (fold 64 start step t) ++ drop plan_length lent)
      × (length (plan_words (span_of t) (fold 64 start step t)) ≡ plan_length)
  plan_layout nought means =
      let (A, e) = Bridges.its_plan call nought means in
      (e, Compiled.compiled_length 64 start step (omega arith) A)

-- ---- "Chains mean what the papers say, modulo 2^64": document 000's recurrences, f0 at index 0 and at index i + 1 the value at i joined with the
-- value at i of the chain without f0; elements taken modulo 2^64 have the same values modulo 2^64
pub sum_chains_mean : (f : List ℕ) (i : ℕ)
    → (sum_at f 0 ≡ Chain.value 0 f) × (sum_at f (suc i) ≡ sum_at f i + sum_at (Chain.rest f) i)
    × (sum_at (Chain.words 64 f) i % 2 ^ 64 ≡ sum_at f i % 2 ^ 64)
sum_chains_mean f i = (SumLaws.sum-now f, SumLaws.sum-next f i, SumLaws.value-words 64 f i)

pub product_chains_mean : (f : List ℕ) (i : ℕ)
    → (product_at f 0 ≡ Chain.value 1 f) × (product_at f (suc i) ≡ product_at f i * product_at (Chain.rest f) i)
    × (product_at (Chain.words 64 f) i % 2 ^ 64 ≡ product_at f i % 2 ^ 64)
product_chains_mean f i = (Values.value-now ◌*◌ 1 mul-one f, Values.value-next ◌*◌ 1 mul-one f i, value-product-words 64 f i)

-- `Answers` says that a call is accepted and which values its chain has; `value_of` reads a chain that is given as words and a length.
answers : (f : List ℕ) {values : ℕ → ℕ} → length f ≤ 17 → ((i : ℕ) → Word.word 64 (sum_at f i) ≡ values i)
    → Answers (answered (chain (Chain.trimmed 0 f))) values
answers f short same =
    record {
      number = refl;
      place = refl;
      short = Bridges.answer-length f short;
      last = Bridges.answer-last f short;
      past = Bridges.answer-past f short;
      right = λ i. ap (Word.word 64) (Bridges.answer-value f short i) ∙ same i;
    }

-- ---- "every product, sum, shift and offset is right by that meaning": the chain calls, for all words and lengths that are not refused
module _ (f : List ℕ) (k : ℕ) (fits : k ≤ 16) where
  pub trim_right : Answers (answered (trim_outcome f k)) (value_of f k)
  trim_right = rw (le-ltb 16 k fits) (answers (take (k + 1) f) (Bridges.taken-short f k fits) (λ i. refl))

  pub shift-right :
      (shift_answer 64 f k ≡ with_crossing (answered (shift_outcome 64 f k)) (crossing 64 (given f k)))
      × Answers (answered (shift_outcome 64 f k)) (λ i. value_of f k (suc i))
  shift-right = rw (le-ltb 16 k fits) (refl, answers _ (Bridges.shift_short f k fits) (Bridges.shift-value f k))

  pub value-right : value_answer f k ≡ record { number = 0; place = 0; word = sum_at (take (k + 1) f) 0 }
  unfolding Chain.trimmed
  value-right = rw (le-ltb 16 k fits) (ap (λ a. record { number = 0; place = 0; word = a }) (sym (SumLaws.sum-now (take (k + 1) f))))

  module _ (g : List ℕ) (l : ℕ) (fits' : l ≤ 16) where
    pub sum-right : Answers (answered (sum_outcome 64 f k g l)) (λ i. Word.sum 64 (value_of f k i) (value_of g l i))
    sum-right = rw (le-ltb 16 k fits, le-ltb 16 l fits') (answers _ (Bridges.sum-short f k g l fits fits') (Bridges.sum-value f k g l))

    pub difference-right : Answers (answered (difference_outcome 64 f k g l)) (λ i. Word.difference 64 (value_of f k i) (value_of g l i))
    difference-right =
        rw (le-ltb 16 k fits, le-ltb 16 l fits') (answers _ (Bridges.difference-short f k g l fits fits') (Bridges.difference-value f k g l))

    pub product-right : (length (given f k) - 1) + (length (given g l) - 1) ≤ 16
        → Answers (answered (product_outcome 64 f k g l)) (λ i. Word.product 64 (value_of f k i) (value_of g l i))
    product-right h =
        rw (le-ltb 16 k fits, le-ltb 16 l fits', le-ltb 16 ((length (given f k) - 1) + (length (given g l) - 1)) h)
        (answers _ (Bridges.product-short f k g l h) (Bridges.product_value f k g l))

-- "A coefficient list a0..ad in the index i": the polynomial's value at every index, of an empty list too.
pub coefficients_right : (a : List ℕ) → length a ≤ 17 → Answers (answered (coefficients_outcome 64 a)) (λ i. Word.word 64 (polynomial a i))
coefficients_right a h =
    rw (le-ltb 17 (length a) h) (answers _ (Bridges.coefficients_short a) (λ i. Bridges.coefficients_value a i h))

-- ---- the probe, for every tolerance that is not refused
-- Request Three of document 02: "Reading 0 now gets a verdict of its own, *unset*, with offset 0, for every expected word and tolerance."
pub zero-unset : (expected tolerance : ℕ) → tolerance < 2 ^ 63
    → let probed = probe_answer 0 expected tolerance in
    (probed.number ≡ 0) × (probed.place ≡ 0) × (probed.offset ≡ pos 0) × (verdict_word probed.verdict ≡ unset)
zero-unset expected tolerance fits = rw (Probe.zero-is-unset expected tolerance fits) (refl, refl, refl, refl)

-- Every other reading is judged by its offset. "An expected word of 0 stays ordinary": what is expected may be any word.
module _ (reading expected tolerance : ℕ) (fits : tolerance < 2 ^ 63) (set : reading ≡ 0 → ⊥) where
  -- "Every reading is judged this way."
  pub probe_accepts : probe_answer reading expected tolerance
      ≡ ProbeSpec.accepted (offset 64 reading expected) (verdict (offset 64 reading expected) tolerance)
  probe_accepts = Probe.other_is-judged reading expected tolerance fits set

  -- "offset = reading - expected modulo 2^64, read as a signed number from -2^63 to 2^63 - 1".
  pub offset-right :
      let probed = probe_answer reading expected tolerance in
      (neg_ℤ (pos (2 ^ 63)) ≤ℤ probed.offset) × (probed.offset ≤ℤ pos (2 ^ 63 - 1))
      × (Word.sum 64 (Signed.word_of 64 probed.offset) expected ≡ Word.word 64 reading)
  offset-right =
      let (least, greatest) = Probe.offset_range 64 reading expected (omega arith) in
      rw probe_accepts (least, greatest, Probe.offset_word 64 reading expected)

  -- "Offset above T is *ahead*, below -T is *behind*, else *within*. Offset -2^63 is always behind."
  pub verdict-right :
      let probed = probe_answer reading expected tolerance in
      (pos tolerance <ℤ probed.offset → verdict_word probed.verdict ≡ ahead)
      × (probed.offset <ℤ neg_ℤ (pos tolerance) → verdict_word probed.verdict ≡ behind)
      × (neg_ℤ (pos tolerance) ≤ℤ probed.offset → probed.offset ≤ℤ pos tolerance → verdict_word probed.verdict ≡ within)
      × (probed.offset ≡ neg_ℤ (pos (2 ^ 63)) → verdict_word probed.verdict ≡ behind)
  verdict-right = rw probe_accepts (
    Probe.above_is-ahead (offset 64 reading expected) tolerance,
    Probe.below_is-behind (offset 64 reading expected) tolerance,
    Probe.else_is-within (offset 64 reading expected) tolerance,
    λ e. ap (λ z. verdict_word (verdict z tolerance)) e ∙ ap verdict_word (Probe.lowest_is-behind 64 tolerance fits),
  )

-- ======== Demand 3: "A compiled plan says what its formula says: for every accepted formula, start, step and index the filled word is the formula's
-- direct value there, however the filling is shared out over calls, each getting the plan as the last one left it. A call with room and budget for
-- a point writes one. Of two formulas that each compile to one constant or one sum chain, the chains are equal exactly when the direct values agree
-- at indices 0 to 16, each on its own grid."
module _ {s : List ℕ} {start step : ℕ} {lent : List ℕ} {r : CompileAnswer} {q : List ℕ} (call : Compiling 64 s start step lent r q)
    (nought : r.number ≡ 0) {t : Tree} (means : Formula s t) where
  -- No fill of a compiled plan is refused, whatever calls were made before it.
  pub compiled_never_refused : (earlier : List Call) (table : List ℕ) (budget : ℕ)
      → (fill 64 (plan_left 64 q earlier) table budget).answer.number ≡ 0
  compiled_never_refused = Bridges.never_refused q (Bridges.its_refusal call nought means)

  -- "the filled word is the formula's direct value there": after whatever calls, each on the plan that the one before it left, word j of the
  -- next call's points has the index of all points before it and j.
  pub filled-word : (earlier : List Call) (table : List ℕ) (budget j : ℕ) → j < (fill 64 (plan_left 64 q earlier) table budget).answer.points
      → get_or (fill 64 (plan_left 64 q earlier) table budget).table j 0 ≡ direct_value 64 start step t (points_of 64 q earlier + j)
  filled-word = Bridges.its_word call nought means

  -- The same of all that any list of calls writes, one after the other.
  pub filled-words : (calls : List Call) (i : ℕ) → i < points_of 64 q calls → get_or (written 64 q calls) i 0 ≡ direct_value 64 start step t i
  filled-words = Bridges.its_words call nought means

  -- "every index": calls with room and budget for one point each come to every index.
  pub every_index : (i : ℕ) → (calls : List Call) × (i < points_of 64 q calls)
  every_index i =
      let count = Bridges.one_by_one_lem (suc i) q (point_cost q) (Bridges.its_refusal call nought means) refl in
      (Bridges.one_by_one (point_cost q) (suc i), omega (arith, count))

-- "A call with room and budget for a point writes one": at least one point, and the first word is the plan's value.
pub writes_one : (p table : List ℕ) (budget : ℕ) → (fill 64 p table budget).answer.number ≡ 0 → 0 < length table → point_cost p ≤ budget
    → (0 < (fill 64 p table budget).answer.points) × (get_or (fill 64 p table budget).table 0 0 ≡ root_value 64 p)
unfolding plan_left points_of plan_after
writes_one p table budget nought room enough =
    let sound = sym (Bridges.fill-number p table budget) ∙ nought in
    let some = Sharing.writes_one 64 p table budget sound room enough in
    (some, Bridges.word-written p sound [] table budget 0 some)

-- "the chains are equal exactly when the direct values agree at indices 0 to 16, each on its own grid". `OneSum` is a plan of one row, of kind 0 or
-- 1; `SameChain` says that the rows are equal in kind, length and elements. Their spans are left out, since two texts differ in them.
module _ {s : List ℕ} {start step : ℕ} {lent : List ℕ} {r : CompileAnswer} {q : List ℕ} (call : Compiling 64 s start step lent r q)
    (nought : r.number ≡ 0) {t : Tree} (means : Formula s t)
    {s' : List ℕ} {start' step' : ℕ} {lent' : List ℕ} {r' : CompileAnswer} {q' : List ℕ} (call' : Compiling 64 s' start' step' lent' r' q')
    (nought' : r'.number ≡ 0) {t' : Tree} (means' : Formula s' t') where
  pub equal_chains : OneSum q → OneSum q'
      → SameChain (Plan.row q 0) (Plan.row q' 0) ↔ ((i : ℕ) → i ≤ 16 → direct_value 64 start step t i ≡ direct_value 64 start' step' t' i)
  equal_chains = Bridges.their_rows call nought means call' nought' means'

-- ======== Request One of document 02: "Each sum chain shift shall also say how its first element crossed: with f1 read as a signed number d, +1 if f0 + d
-- is 2^64 or more, -1 if it is below 0, else 0; a constant or a refusal says 0." Sums of signed numbers are whole numbers, with no modulus.
module _ (f : List ℕ) (k : ℕ) (fits : k ≤ 16) {a b : ℕ} {more : List ℕ} (trims : given f k ≡ a ∷ b ∷ more) where
  pub crosses_up : pos (2 ^ 64) ≤ℤ (pos a +ℤ signed 64 b) → (shift_answer 64 f k).crossing ≡ pos 1
  crosses_up over = rw (le-ltb 16 k fits, trims) (Crossing.told_up 64 a (signed 64 b) over)

  pub crosses_down : (pos a +ℤ signed 64 b) <ℤ pos 0 → (shift_answer 64 f k).crossing ≡ negsuc 0
  crosses_down below = rw (le-ltb 16 k fits, trims) (Crossing.told_down 64 a (signed 64 b) below)

  pub crosses_not : pos 0 ≤ℤ (pos a +ℤ signed 64 b) → (pos a +ℤ signed 64 b) <ℤ pos (2 ^ 64) → (shift_answer 64 f k).crossing ≡ pos 0
  crosses_not low high = rw (le-ltb 16 k fits, trims) (Crossing.told_neither 64 a (signed 64 b) low high)

  -- f0 + d is the first element that the shift leaves and 2^64 times the crossing.
  pub shift_exact : a < 2 ^ 64 → b < 2 ^ 64
      → pos a +ℤ signed 64 b ≡ pos ((a + b) % 2 ^ 64) +ℤ pos (2 ^ 64) *ℤ (shift_answer 64 f k).crossing
  shift_exact low high = rw (le-ltb 16 k fits, trims) (Crossing.exact_words 64 a b low high)

pub constant-stays : (f : List ℕ) (k : ℕ) {a : ℕ} → given f k ≡ a ∷ [] → (shift_answer 64 f k).crossing ≡ pos 0
constant-stays f k trims = Crossing.told_constant 64 f k trims

-- "Refusals: 16, root row is not a constant or sum chain, place 0, after 9; a refused call answers 0 points, spent and sum." `with_sum` of `fill_refused` has
-- table and plan as they were.
pub eras_short : (p table : List ℕ) (budget : ℕ) → length p < plan_length → fill_eras 64 p table budget ≡ with_sum (fill_refused 1 p table) (pos 0)
unfolding fill_eras eras_refusal
eras_short p table budget short = rw (lt-ltb (length p) plan_length short)

pub eras_unsound : (p table : List ℕ) (budget : ℕ) → plan_length ≤ length p → Plan.sound p ≡ false
    → fill_eras 64 p table budget ≡ with_sum (fill_refused 9 p table) (pos 0)
unfolding fill_eras eras_refusal
eras_unsound p table budget whole unsound = rw (le-ltb (length p) plan_length whole, unsound)

pub eras_other_root : (p table : List ℕ) (budget : ℕ) → plan_length ≤ length p → Plan.sound p ≡ true → constant_or_sum (root_row p) ≡ false
    → fill_eras 64 p table budget ≡ with_sum (fill_refused 16 p table) (pos 0)
unfolding fill_eras eras_refusal
eras_other_root p table budget whole sound other = rw (le-ltb (length p) plan_length whole, sound, other)

-- Otherwise the call is accepted, and is a fill with the sum: "Filling with era count is a new call beside the old one"; "Filling adds these up for the root
-- over the points written".
pub eras_fills : (p table : List ℕ) (budget : ℕ) → plan_length ≤ length p → Plan.sound p ≡ true → constant_or_sum (root_row p) ≡ true
    → fill_eras 64 p table budget ≡ with_sum (fill 64 p table budget) (eras_over 64 (fill 64 p table budget).answer.points p)
unfolding eras_refusal
eras_fills p table budget whole sound told =
    Eras.accepted-fills 64 p table budget (rw (le-ltb (length p) plan_length whole, sound, told))

-- Every refusal alters neither table nor plan.
pub refused_eras_keeps : (p table : List ℕ) (budget : ℕ) → ((fill_eras 64 p table budget).answer.number ≡ 0 → ⊥)
    → ((fill_eras 64 p table budget).table ≡ table) × ((fill_eras 64 p table budget).plan ≡ p) × ((fill_eras 64 p table budget).answer.points ≡ 0)
    × ((fill_eras 64 p table budget).answer.spent ≡ 0) × ((fill_eras 64 p table budget).answer.sum ≡ pos 0)
refused_eras_keeps p table budget some =
    rw (Eras.refused_alters_nothing 64 p table budget (λ e. some (Eras.number_is 64 p table budget ∙ e))) (refl, refl, refl, refl, refl)

module _ (p table : List ℕ) (budget : ℕ) (nought : (fill_eras 64 p table budget).answer.number ≡ 0) where
  -- "The exact position, start value plus all signed steps, must equal the final first element plus 2^64 times the sum": of every plan, table and budget
  -- that are not refused, in whole numbers. `AreWords` says that the lent plan holds words.
  pub exact_position : AreWords 64 p
      → let done = fill_eras 64 p table budget in
      position 64 done.answer.points p ≡ pos (first_element (root_row done.plan)) +ℤ pos (2 ^ 64) *ℤ done.answer.sum
  exact_position words = Eras.exact_call p table budget nought words

  -- The sum is a signed number of 64 bits, whatever the budget.
  pub sum_fits : budget < 2 ^ 64
      → (neg_ℤ (pos (2 ^ 63)) ≤ℤ (fill_eras 64 p table budget).answer.sum) × ((fill_eras 64 p table budget).answer.sum ≤ℤ pos (2 ^ 63 - 1))
  sum_fits few = Eras.sum_fits p table budget nought few

  -- "Demand 3 reads as before": points, spent, table and plan are those of a fill, so all that is said of a fill above holds of this call.
  pub eras_as_fill :
      let done = fill_eras 64 p table budget in
      let plain = fill 64 p table budget in
      (done.answer.points ≡ plain.answer.points) × (done.answer.spent ≡ plain.answer.spent) × (done.table ≡ plain.table)
      × (done.plan ≡ plain.plan)
  eras_as_fill = rw (Eras.accepted-fills 64 p table budget (sym (Eras.number_is 64 p table budget) ∙ nought)) (refl, refl, refl, refl)

  -- The sums of any list of calls, each getting the plan as the last one left it, add up to the sum of one call over all their points.
  pub eras_shared : (calls : List Call) → (fill_eras 64 p table budget).answer.points ≡ points_of 64 p calls
      → sum_of 64 p calls ≡ (fill_eras 64 p table budget).answer.sum
  eras_shared calls = Eras.shared_sums 64 p calls table budget (sym (Eras.number_is 64 p table budget) ∙ nought)

module _ {s : List ℕ} {start step : ℕ} {lent : List ℕ} {r : CompileAnswer} {q : List ℕ} (call : Compiling 64 s start step lent r q)
    (nought : r.number ≡ 0) {t : Tree} (means : Formula s t) (earlier : List Call) (table : List ℕ) (budget : ℕ) where
  -- "Demand 3 reads as before, except that a call refused with 16 writes no point": on a compiled plan the call is refused 16 or not at all, a word that it
  -- writes is the formula's direct value, and refused it writes none.
  pub eras_compiled :
      ((fill_eras 64 (plan_left 64 q earlier) table budget).answer.number ≡ 0) ⊎ ((fill_eras 64 (plan_left 64 q earlier) table budget).answer.number ≡ 16)
  eras_compiled =
      Eras.sound-number 64 (plan_left 64 q earlier) table budget
      (sym (Bridges.fill-number (plan_left 64 q earlier) table budget) ∙ compiled_never_refused call nought means earlier table budget)

  pub eras_word : (j : ℕ) → j < (fill_eras 64 (plan_left 64 q earlier) table budget).answer.points
      → get_or (fill_eras 64 (plan_left 64 q earlier) table budget).table j 0 ≡ direct_value 64 start step t (points_of 64 q earlier + j)
  eras_word j = go eras_compiled
    where
      go : ((fill_eras 64 (plan_left 64 q earlier) table budget).answer.number ≡ 0) ⊎ ((fill_eras 64 (plan_left 64 q earlier) table budget).answer.number ≡ 16)
          → j < (fill_eras 64 (plan_left 64 q earlier) table budget).answer.points
          → get_or (fill_eras 64 (plan_left 64 q earlier) table budget).table j 0 ≡ direct_value 64 start step t (points_of 64 q earlier + j)
      go (inl good) h =
          let (points, _, same, _) = eras_as_fill (plan_left 64 q earlier) table budget good in
          ap (λ l. get_or l j 0) same ∙ filled-word call nought means earlier table budget j (omega (arith, points))
      go (inr over) h =
          let (_, _, none, _, _) = refused_eras_keeps (plan_left 64 q earlier) table budget (λ z. omega (arith, z, over)) in
          omega (arith, none)

-- ======== Request Four of document 02: "We want backward chains as document 000 defines them, for sums only, of length up to 16: value, shift, inverse shift, sum,
-- product, and conversion from and to forward sum chains. Forward sum chains need the inverse shift too." A backward chain's value and sum answer as a forward one's.
-- "Refusals: 14 and 15 as in 01."
pub backward_long : (f : List ℕ) (k : ℕ) → 16 < k
    → (answered (inverse_shift_outcome 64 f k) ≡ no_chain 14) × (answered (backward_shift_outcome 64 f k) ≡ no_chain 14)
    × (answered (backward_inverse_shift_outcome 64 f k) ≡ no_chain 14) × (answered (to_backward_outcome 64 f k) ≡ no_chain 14)
    × (answered (to_forward_outcome 64 f k) ≡ no_chain 14)
unfolding Chain.row
backward_long f k over = rw (lt-ltb 16 k over) (refl, refl, refl, refl, refl)

pub backward_either_long : (f : List ℕ) (k : ℕ) (g : List ℕ) (l : ℕ) → (16 < k) ⊎ (16 < l) → answered (backward_product_outcome 64 f k g l) ≡ no_chain 14
unfolding Chain.row
backward_either_long f k g l over = ap answered (Bridges.either_long over _)

pub backward_product-over : (f : List ℕ) (k : ℕ) (g : List ℕ) (l : ℕ) → k ≤ 16 → l ≤ 16
    → 16 < (length (given f k) - 1) + (length (given g l) - 1) → answered (backward_product_outcome 64 f k g l) ≡ no_chain 15
unfolding Chain.row
backward_product-over f k g l h j over = rw (le-ltb 16 k h, le-ltb 16 l j, lt-ltb 16 ((length (given f k) - 1) + (length (given g l) - 1)) over)

-- Document 000's recurrence (5): "f_j(i) = φ_j, if i = 0; f_j(i-1) + f_{j+1}(i), if i > 0". An inverse shift takes one index back.
pub backward_chains_mean : (f : List ℕ) (i : ℕ)
    → (value_ahead f 0 ≡ Chain.value 0 f) × (value_ahead f (suc i) ≡ value_ahead f i + value_ahead (Chain.rest f) (suc i))
    × (value_ahead (BackwardChain.inverse_shift 64 f) (suc i) % 2 ^ 64 ≡ value_ahead f i % 2 ^ 64)
unfolding BackwardChain.after
backward_chains_mean f i = (refl, Backward.ahead-next f i, Backward.ahead_unshift 64 f i)

-- The product is 000's rule, "⟨φ0 ψ0, +, Φ(i) Ψ1(i) + Φ1(i) E^-1(Ψ(i))⟩".
pub backward_product_rule : (a b : ℕ) (f g : List ℕ)
    → BackwardChain.product 64 (a ∷ f) (b ∷ g)
    ≡ (a * b) ∷ SumChain.sum (BackwardChain.product 64 (a ∷ f) g) (BackwardChain.product 64 f (BackwardChain.inverse_shift 64 (b ∷ g)))
backward_product_rule a b f g = Backward.backward_rule 64 a b f g

-- The two conversions by 000's definitions: the first element stays, and the rest is converted after one inverse shift, or one shift.
pub conversions_mean : (a : ℕ) (f : List ℕ)
    → (to_backward 64 (a ∷ f) ≡ a ∷ to_backward 64 (SumChain.inverse_shift 64 f)) × (to_forward (a ∷ f) ≡ a ∷ to_forward (BackwardChain.shift f))
conversions_mean a f =
    (Conversions.convert-next (SumChain.inverse_shift 64) a f (length-from_top (Word.difference 64) f), Conversions.convert-next BackwardChain.shift a f (length-from_top ◌+◌ f))

-- "i^3 is 0, 1, -6, 6 as a backward chain", -6 being 2^64 - 6.
pub cube_backward :
    (to_backward 64 (0 ∷ 1 ∷ 6 ∷ 6 ∷ []) ≡ 0 ∷ 1 ∷ 18446744073709551610 ∷ 6 ∷ [])
    × (Chain.words 64 (to_forward (0 ∷ 1 ∷ 18446744073709551610 ∷ 6 ∷ [])) ≡ 0 ∷ 1 ∷ 6 ∷ 6 ∷ [])
unfolding BackwardChain.converted_in Chain.shift_from_top Chain.meeting
cube_backward = (refl, refl)

-- The value of a sum and of a product at every index, ahead of the present one and before it.
pub backward_sums : (f g : List ℕ) (i : ℕ)
    → (value_ahead (SumChain.sum f g) i ≡ value_ahead f i + value_ahead g i)
    × (value_before 64 (SumChain.sum f g) i % 2 ^ 64 ≡ (value_before 64 f i + value_before 64 g i) % 2 ^ 64)
backward_sums f g i = (Backward.ahead-sum i f g, Backward.before-sum 64 i f g)

pub backward_products : (f g : List ℕ) (i : ℕ)
    → (value_ahead (BackwardChain.product 64 f g) i % 2 ^ 64 ≡ (value_ahead f i * value_ahead g i) % 2 ^ 64)
    × (value_before 64 (BackwardChain.product 64 f g) i % 2 ^ 64 ≡ (value_before 64 f i * value_before 64 g i) % 2 ^ 64)
backward_products f g i = (Backward.ahead-product 64 i f g, Backward.before-product 64 i f g)

-- "both kinds give the same word at every index": ahead, and before, after any number of inverse shifts.
pub same_word_backward : (f : List ℕ) (i : ℕ)
    → (value_ahead (to_backward 64 f) i % 2 ^ 64 ≡ sum_at f i % 2 ^ 64)
    × (value_before 64 (to_backward 64 f) i % 2 ^ 64 ≡ Chain.value 0 (BackwardChain.after (SumChain.inverse_shift 64) i f) % 2 ^ 64)
same_word_backward f i = (Conversions.same_ahead 64 f i, Conversions.same_before 64 f i)

pub same_word_forward : (f : List ℕ) (i : ℕ)
    → (sum_at (to_forward f) i % 2 ^ 64 ≡ value_ahead f i % 2 ^ 64)
    × (Chain.value 0 (BackwardChain.after (SumChain.inverse_shift 64) i (to_forward f)) % 2 ^ 64 ≡ value_before 64 f i % 2 ^ 64)
same_word_forward f i = (Conversions.forward_ahead 64 f i, Conversions.forward_before 64 f i)

-- Trimming and taking words change no value, so what an answer holds is worth what its outcome's chain is.
pub backward_trims : (f : List ℕ) (i : ℕ)
    → (value_ahead (Chain.trimmed 0 f) i ≡ value_ahead f i) × (value_before 64 (Chain.trimmed 0 f) i % 2 ^ 64 ≡ value_before 64 f i % 2 ^ 64)
    × (value_ahead (Chain.words 64 f) i % 2 ^ 64 ≡ value_ahead f i % 2 ^ 64) × (value_before 64 (Chain.words 64 f) i % 2 ^ 64 ≡ value_before 64 f i % 2 ^ 64)
backward_trims f i = (Backward.ahead-trimmed f i, Backward.before-trimmed 64 f i, Backward.ahead-words 64 f i, Backward.before-words 64 f i)

-- "Converting there and back gives the trimmed chain again, shift and inverse shift cancel in either order": what one call answers is given to the other, for all
-- arrays of words. "conversions keep the trimmed length".
module _ (f : List ℕ) (k : ℕ) (long : length f ≡ 17) (fits : (i : ℕ) → get_or f i 0 < 2 ^ 64) (short : k ≤ 16) where
  pub converted_back :
      (to_forward_outcome 64 (answered (to_backward_outcome 64 f k)).elements (answered (to_backward_outcome 64 f k)).length ≡ trim_outcome f k)
      × (to_backward_outcome 64 (answered (to_forward_outcome 64 f k)).elements (answered (to_forward_outcome 64 f k)).length ≡ trim_outcome f k)
  converted_back = (BackwardCalls.forward_call_again 64 f k long fits short, BackwardCalls.backward_call_again 64 f k long fits short)

  pub forward_shifts_cancel :
      (inverse_shift_outcome 64 (shift_answer 64 f k).elements (shift_answer 64 f k).length ≡ trim_outcome f k)
      × (shift_outcome 64 (answered (inverse_shift_outcome 64 f k)).elements (answered (inverse_shift_outcome 64 f k)).length ≡ trim_outcome f k)
  forward_shifts_cancel = (BackwardCalls.shift_call_undone 64 f k long fits short, BackwardCalls.inverse_call_undone 64 f k long fits short)

  pub backward_shifts_cancel :
      (backward_inverse_shift_outcome 64 (answered (backward_shift_outcome 64 f k)).elements (answered (backward_shift_outcome 64 f k)).length ≡ trim_outcome f k)
      × (backward_shift_outcome 64 (answered (backward_inverse_shift_outcome 64 f k)).elements (answered (backward_inverse_shift_outcome 64 f k)).length ≡ trim_outcome f k)
  backward_shifts_cancel = (BackwardCalls.backward_shift_call_undone 64 f k long fits short, BackwardCalls.backward_inverse_call_undone 64 f k long fits short)

  pub conversions_keep_length :
      ((answered (to_backward_outcome 64 f k)).length ≡ (answered (trim_outcome f k)).length) × ((answered (to_forward_outcome 64 f k)).length ≡ (answered (trim_outcome f k)).length)
  conversions_keep_length = (BackwardCalls.to_backward_call_length 64 f k long fits short, BackwardCalls.to_forward_call_length 64 f k long fits short)

-- ======== Request Five of document 02: "Each plan row gets two more words at its end, first byte and end byte (the byte after the last) of the text it came
-- from; the row is then 22 words and the plan 2,817." "Row offsets and refusal 1's limit follow": word j of row r is word 1 + 22r + j of the plan.
pub row_offsets : (row_length ≡ 22) × (plan_length ≡ 2817)
    × ((p : List ℕ) (r j : ℕ) → j < 22 → get_or (Plan.row p r) j 0 ≡ get_or p (1 + 22 * r + j) 0)
    × ((x : Row) → (first_byte x ≡ get_or x 20 0) × (end_byte x ≡ get_or x 21 0))
row_offsets = (refl, refl, Rows.word_at, λ x. (refl, refl))

-- "a plan is sound only if, in each row counted by word 0, the first byte is below the end byte and the end is at most 1,024; the other rows stay all 0".
pub sound_spans : (p : List ℕ) → Plan.sound p ≡ true
    → ((r : ℕ) → r < Plan.row_count p → (first_byte (Plan.row p r) < end_byte (Plan.row p r)) × (end_byte (Plan.row p r) ≤ 1024))
    × ((r j : ℕ) → Plan.row_count p ≤ r → r < 128 → j < 22 → get_or (Plan.row p r) j 0 ≡ 0)
sound_spans p sound = (λ r. Spans.sound-span p r sound, Bridges.other_rows p sound)

module _ {s : List ℕ} {start step : ℕ} {lent : List ℕ} {r : CompileAnswer} {q : List ℕ} (call : Compiling 64 s start step lent r q)
    (nought : r.number ≡ 0) where
  -- "A folded row spans all of the text it stands for": the bytes from first to end are an accepted formula, and compiled alone on the same grid they
  -- give a plan whose root row is that row, in kind, chain length, literal exponent and elements.
  pub row_says : (i : ℕ) → i < Plan.row_count q → {lent' : List ℕ} {r' : CompileAnswer} {q' : List ℕ} → plan_length ≤ length lent'
      → Compiling 64 (text_of s (Plan.row q i)) start step lent' r' q'
      → (r' ≡ record { number = 0; place = 0 }) × SameRow (Plan.row q i) (root_row q')
  row_says i here {lent'} long alone =
      let (_, cut, same) = Bridges.its_says call nought i here lent' long in
      let (answer, plan) = compiling_unique alone cut in
      (answer, subst (λ p. SameRow (Plan.row q i) (root_row p)) (sym plan) same)

  -- "with the brackets around it counted only if they lie inside": each row's span is that of a part of the formula's tree, by the grammar.
  pub row_spans : {t : Tree} → Formula s t → (i : ℕ) → i < Plan.row_count q
      → (u : Tree) × Part u t × (first_byte (Plan.row q i) ≡ first (span_of u)) × (end_byte (Plan.row q i) ≡ end (span_of u))
  row_spans = Bridges.its_node call nought

  -- "An operand passed through unchanged, as in 1*A, takes the whole span": whatever row the root folds to, its span is the whole tree's.
  pub root_spans : {t : Tree} → Formula s t → (first_byte (root_row q) ≡ first (span_of t)) × (end_byte (root_row q) ≡ end (span_of t))
  root_spans = Bridges.its_root call nought

  -- The spans of operand rows lie within their operator's, left before right, without overlap; none goes past the text.
  pub rows_ordered : (i : ℕ) → i < Plan.row_count q → Ordered (Plan.row q) (Plan.row q i)
  rows_ordered = Bridges.its_order call nought

  pub rows-within : (i : ℕ) → i < Plan.row_count q → end_byte (Plan.row q i) ≤ length s
  rows-within = Bridges.its_ends call nought

-- Filling leaves the spans of all rows, however often it is called, with era count or without, and whatever the plan holds.
pub spans_stay : (p : List ℕ) (calls : List Call) (r : ℕ)
    → let left = plan_left 64 p calls in
    (first_byte (Plan.row left r) ≡ first_byte (Plan.row p r)) × (end_byte (Plan.row left r) ≡ end_byte (Plan.row p r))
spans_stay = Spans.spans_stay_called 64

pub spans_stay_counted : (p table : List ℕ) (budget r : ℕ)
    → let left = (fill_eras 64 p table budget).plan in
    (first_byte (Plan.row left r) ≡ first_byte (Plan.row p r)) × (end_byte (Plan.row left r) ≡ end_byte (Plan.row p r))
spans_stay_counted = Spans.spans_stay_counted 64

-- Whether a formula is accepted still does not depend on the grid, nor does a refusal's number and place.
pub grid_free : {s : List ℕ} {start step start' step' : ℕ} {lent : List ℕ} {r r' : CompileAnswer} {q q' : List ℕ}
    → Compiling 64 s start step lent r q → Compiling 64 s start' step' lent r' q' → r ≡ r'
grid_free = Promise.grid_free

-- ======== Request Six of document 02: "The library shall give .. for each row of kinds 3 to 8, its span and one reason". `Explaining` is what the call answers;
-- `row_tree` is a row as 01's rules see it, "its chain operands trimmed and its other operands as they stand"; `Reason` is the list, numbered in 02's order.
-- Whatever plan and row number are given, there is an answer.
pub reason_answers : (p : List ℕ) (r : ℕ) → (a : ReasonAnswer) × Explaining 64 p r a
reason_answers p r = (Reasons.explained p r, Reasons.is-explained 64 p r)

module _ {p : List ℕ} {r : ℕ} {a : ReasonAnswer} (call : Explaining 64 p r a) where
  -- "Refusals: 1 and 9 as for filling." `refusing` has 0 for place, reason and span.
  pub reason_short : length p < plan_length → a ≡ refusing 1
  reason_short short = Bridges.reason_refused call (rw (lt-ltb (length p) plan_length short)) (λ z. omega (arith, z))

  pub reason_unsound : plan_length ≤ length p → Plan.sound p ≡ false → a ≡ refusing 9
  reason_unsound whole unsound = Bridges.reason_refused call (rw (le-ltb (length p) plan_length whole, unsound)) (λ z. omega (arith, z))

  pub reason_as_fill : (table : List ℕ) (budget : ℕ) → a.number ≡ (fill 64 p table budget).answer.number
  reason_as_fill table budget = Bridges.reason_number call ∙ sym (Bridges.fill-number p table budget)

  module _ (whole : plan_length ≤ length p) (sound : Plan.sound p ≡ true) where
    good : Plan.refusal p ≡ 0
    good = rw (le-ltb (length p) plan_length whole, sound)

    -- A row that word 0 doesn't count has nothing, and a row of kinds 0 to 2 its span.
    pub reason_not-counted : Plan.row_count p ≤ r → a ≡ refusing 0
    reason_not-counted past = Reasons.explaining-unique 64 p r call (not-counted good past)

    pub reason_of_chain : r < Plan.row_count p → kind (Plan.row p r) < 3 → a ≡ explaining p r 0
    reason_of_chain here few = Reasons.explaining-unique 64 p r call (no_operator good here few)

    module _ (here : r < Plan.row_count p) (operator : 3 ≤ kind (Plan.row p r)) where
      -- "Every such row is proved to have exactly one reason on the list, the one shown", with its span; the list has seven.
      pub reason_shown : (a ≡ explaining p r a.reason) × Reason 64 (row_tree p r) a.reason
          × ((n : ℕ) → Reason 64 (row_tree p r) n → n ≡ a.reason) × (1 ≤ a.reason) × (a.reason ≤ 7)
      reason_shown =
          let (spanned, reason) = Bridges.reason_given call good here operator in
          let (least, most) = OneReason.reason_known reason in
          (spanned, reason, λ n other. OneReason.one_reason other reason, least, most)

      -- "The last is judged first, and given exactly when the rules in 01 fold that row".
      pub reason_folds : (a.reason ≡ 7) ↔ Folds 64 (row_tree p r)
      reason_folds = (OneReason.only_folding reason_shown.1, λ folds. sym (reason_shown.2 7 (would_fold folds)))

      -- "The other reasons speak only of rows that 01 doesn't fold". `Named` has each of the six by its own sentence.
      pub reason_stays : (a.reason ≡ 7 → ⊥) → Stays 64 (row_tree p r) × Named (row_tree p r) a.reason
      reason_stays = OneReason.only_named reason_shown.1

-- The same of the row alone, without the call.
pub exactly_one_reason : (p : List ℕ) → plan_length ≤ length p → Plan.sound p ≡ true → (r : ℕ) → r < Plan.row_count p → 3 ≤ kind (Plan.row p r)
    → (n : ℕ) × Reason 64 (row_tree p r) n × ((m : ℕ) → Reason 64 (row_tree p r) m → m ≡ n)
exactly_one_reason p whole sound r here operator =
    let (a, call) = reason_answers p r in
    let (_, reason, only, _, _) = reason_shown call whole sound here operator in
    (a.reason, reason, only)

-- "its chain operands trimmed and its other operands as they stand": they are the rows that it names, each as the rules see it.
pub operands-seen : (p : List ℕ) → plan_length ≤ length p → Plan.sound p ≡ true → (r : ℕ) → r < Plan.row_count p → 3 ≤ kind (Plan.row p r)
    → let x = Plan.row p r in
    row_tree p r ≡ operator_over (kind x) (word_b x) (operand_spans p x) (row_tree p (word_a x)) (row_tree p (word_b x))
operands-seen = SoundRows.tree-over-rows

-- "so a product chain with first element 0 counts as a constant".
pub zero-product : (p : List ℕ) (r : ℕ) → plan_length ≤ length p → r < 128 → kind (Plan.row p r) ≡ 2 → first_element (Plan.row p r) ≡ 0
    → row_tree p r ≡ constant 0
zero-product p r whole few = RowTrees.zero-tree _ _ _ (Plan.row p r) (Rows.length-row p r few whole)

module _ {s : List ℕ} {start step : ℕ} {lent : List ℕ} {r : CompileAnswer} {q : List ℕ} (call : Compiling 64 s start step lent r q)
    (nought : r.number ≡ 0) where
  -- "or, for a plan from elsewhere, that 01 would have folded it": 01's rules fold no row of a compiled plan, on any grid, and the call never says so.
  pub compiled_stays : (i : ℕ) → i < Plan.row_count q → Stays 64 (row_tree q i)
  compiled_stays = Bridges.its_stays call nought

  pub compiled_reason : (i : ℕ) {a : ReasonAnswer} → Explaining 64 q i a → (a.number ≡ 0) × (a.reason ≡ 7 → ⊥)
  compiled_reason = Bridges.its_reason call nought

  -- What the rules see of its root is the formula, folded.
  pub compiled_root : {t : Tree} → Formula s t → row_tree q (Plan.row_count q - 1) ≡ fold 64 start step t
  compiled_root = Bridges.its_tree call nought

-- ======== "any two conforming answers are proved equal", with all that the call leaves in what it was lent
pub compile_unique : {s : List ℕ} {start step : ℕ} {lent : List ℕ} {r r' : CompileAnswer} {q q' : List ℕ}
    → Compiling 64 s start step lent r q → Compiling 64 s start step lent r' q' → (r ≡ r') × (q ≡ q')
compile_unique = compiling_unique

pub read-unique : {s lent q q' : List ℕ} {r r' : ReadAnswer} → Reading 64 s lent r q → Reading 64 s lent r' q' → (r ≡ r') × (q ≡ q')
read-unique = reading_unique

pub fill-unique : (p table : List ℕ) (budget : ℕ) (r r' : FillAnswer) (t t' q q' : List ℕ)
    → r ≡ (fill 64 p table budget).answer → t ≡ (fill 64 p table budget).table → q ≡ (fill 64 p table budget).plan
    → r' ≡ (fill 64 p table budget).answer → t' ≡ (fill 64 p table budget).table → q' ≡ (fill 64 p table budget).plan
    → (r ≡ r') × (t ≡ t') × (q ≡ q')
fill-unique = Sharing.fill-unique

pub fill_eras_unique : (p table : List ℕ) (budget : ℕ) (r r' : FillErasAnswer) (t t' q q' : List ℕ)
    → r ≡ (fill_eras 64 p table budget).answer → t ≡ (fill_eras 64 p table budget).table → q ≡ (fill_eras 64 p table budget).plan
    → r' ≡ (fill_eras 64 p table budget).answer → t' ≡ (fill_eras 64 p table budget).table → q' ≡ (fill_eras 64 p table budget).plan
    → (r ≡ r') × (t ≡ t') × (q ≡ q')
fill_eras_unique = Eras.fill_eras_unique

pub reason_unique : (p : List ℕ) (r : ℕ) {a a' : ReasonAnswer} → Explaining 64 p r a → Explaining 64 p r a' → a ≡ a'
reason_unique = Reasons.explaining-unique 64

pub cost-unique : (p : List ℕ) (r r' : CostAnswer) → r ≡ cost_answer p → r' ≡ cost_answer p → r ≡ r'
cost-unique = Sharing.cost-unique

pub sound-unique : (p : List ℕ) (r r' : SoundAnswer) → r ≡ sound_answer p → r' ≡ sound_answer p → r ≡ r'
sound-unique = Sharing.sound-unique

pub refusal-unique : (p : List ℕ) (r r' : ℕ) → r ≡ Plan.refusal p → r' ≡ Plan.refusal p → r ≡ r'
refusal-unique p r r' = both_are

pub trim_unique : (f : List ℕ) (k : ℕ) (r r' : ChainAnswer) → r ≡ answered (trim_outcome f k) → r' ≡ answered (trim_outcome f k) → r ≡ r'
trim_unique = ChainPromises.trim_unique

pub sum-unique : (f : List ℕ) (k : ℕ) (g : List ℕ) (l : ℕ) (r r' : ChainAnswer)
    → r ≡ answered (sum_outcome 64 f k g l) → r' ≡ answered (sum_outcome 64 f k g l) → r ≡ r'
sum-unique = ChainPromises.sum-unique

pub difference-unique : (f : List ℕ) (k : ℕ) (g : List ℕ) (l : ℕ) (r r' : ChainAnswer)
    → r ≡ answered (difference_outcome 64 f k g l) → r' ≡ answered (difference_outcome 64 f k g l) → r ≡ r'
difference-unique = ChainPromises.difference-unique

pub product-unique : (f : List ℕ) (k : ℕ) (g : List ℕ) (l : ℕ) (r r' : ChainAnswer)
    → r ≡ answered (product_outcome 64 f k g l) → r' ≡ answered (product_outcome 64 f k g l) → r ≡ r'
product-unique = ChainPromises.product-unique

pub shift-unique : (f : List ℕ) (k : ℕ) (r r' : ShiftAnswer) → r ≡ shift_answer 64 f k → r' ≡ shift_answer 64 f k → r ≡ r'
shift-unique = ChainPromises.shift-unique

pub value-unique : (f : List ℕ) (k : ℕ) (r r' : ValueAnswer) → r ≡ value_answer f k → r' ≡ value_answer f k → r ≡ r'
value-unique = ChainPromises.value-unique

pub from_coefficients_unique : (a : List ℕ) (r r' : ChainAnswer)
    → r ≡ answered (coefficients_outcome 64 a) → r' ≡ answered (coefficients_outcome 64 a) → r ≡ r'
from_coefficients_unique = ChainPromises.from_coefficients_unique

module _ (f : List ℕ) (k : ℕ) (r r' : ChainAnswer) where
  pub inverse_shift-unique : r ≡ answered (inverse_shift_outcome 64 f k) → r' ≡ answered (inverse_shift_outcome 64 f k) → r ≡ r'
  inverse_shift-unique = ChainPromises.inverse_shift-unique f k r r'

  pub backward_shift-unique : r ≡ answered (backward_shift_outcome 64 f k) → r' ≡ answered (backward_shift_outcome 64 f k) → r ≡ r'
  backward_shift-unique = ChainPromises.backward_shift-unique f k r r'

  pub backward_inverse_shift-unique : r ≡ answered (backward_inverse_shift_outcome 64 f k) → r' ≡ answered (backward_inverse_shift_outcome 64 f k) → r ≡ r'
  backward_inverse_shift-unique = ChainPromises.backward_inverse_shift-unique f k r r'

  pub to_backward_unique : r ≡ answered (to_backward_outcome 64 f k) → r' ≡ answered (to_backward_outcome 64 f k) → r ≡ r'
  to_backward_unique = ChainPromises.to_backward_unique f k r r'

  pub to_forward_unique : r ≡ answered (to_forward_outcome 64 f k) → r' ≡ answered (to_forward_outcome 64 f k) → r ≡ r'
  to_forward_unique = ChainPromises.to_forward_unique f k r r'

pub backward_product-unique : (f : List ℕ) (k : ℕ) (g : List ℕ) (l : ℕ) (r r' : ChainAnswer)
    → r ≡ answered (backward_product_outcome 64 f k g l) → r' ≡ answered (backward_product_outcome 64 f k g l) → r ≡ r'
backward_product-unique f k g l r r' = ChainPromises.backward_product-unique f k g l r r'

pub probe_unique : (reading expected tolerance : ℕ) (r r' : ProbeAnswer)
    → r ≡ probe_answer reading expected tolerance → r' ≡ probe_answer reading expected tolerance → r ≡ r'
probe_unique = Probe.probe_unique

pub start-unique : (r r' : Progress) → r ≡ started → r' ≡ started → r ≡ r'
start-unique r r' = both_are

pub step-unique : (tool : Tool) (p : Progress) (input : List ℕ) (b : Buffers) {r r' : Stepped} {after after' : Buffers}
    → record { answer = r; buffers = after } ≡ stepped tool p input b → record { answer = r'; buffers = after' } ≡ stepped tool p input b
    → (r ≡ r') × (after ≡ after')
step-unique = StepPromises.step-unique

pub finish_unique : (tool : Tool) (p : Progress) (b : Buffers) {r r' : Stepped} {after after' : Buffers}
    → record { answer = r; buffers = after } ≡ finished tool p b → record { answer = r'; buffers = after' } ≡ finished tool p b
    → (r ≡ r') × (after ≡ after')
finish_unique = StepPromises.finish_unique

pub times-unique : (a b r r' : ℕ) → r ≡ Word.product 64 a b → r' ≡ Word.product 64 a b → r ≡ r'
times-unique = WordPromises.times-unique

pub power-unique : (b n r r' : ℕ) → r ≡ Word.power 64 b n → r' ≡ Word.power 64 b n → r ≡ r'
power-unique = WordPromises.power-unique

pub signed-unique : (a : ℕ) (r r' : ℤ) → r ≡ signed 64 a → r' ≡ signed 64 a → r ≡ r'
signed-unique a r r' = both_are

pub clear-unique : (lent q q' : List ℕ) → q ≡ replicate (length lent) 0 → q' ≡ replicate (length lent) 0 → q ≡ q'
clear-unique lent q q' = both_are
