-- The words that each call of the door leaves in its lent answer: word 0 is the refusal's number, word 1 its place, then come the call's own words.
-- What an answer says is defined in the crates below; only its layout is defined here.
use Rattle.std.specs.Prelude.{◌≡◌, List, [], ◌∷◌, ◌++◌, ℕ}
use Rattle.chain.specs.Answer.{ChainAnswer, ShiftAnswer, ValueAnswer}
use Rattle.plan.specs.Answers.{FillAnswer, FillErasAnswer, CostAnswer, SoundAnswer}
use Rattle.fold.specs.Answer.{CompileAnswer}
use Rattle.fold.specs.Compiling.{Compiling}
use Rattle.reason.specs.Answer.{ReasonAnswer}
use Rattle.reason.specs.Explaining.{Explaining}
use Rattle.probe.specs.Answer.{Verdict, NoVerdict, Within, Ahead, Behind, Unset, ProbeAnswer}
use Rattle.word.specs.Signed.{word_of}

-- Number and place.
abbrev pub compile_words : CompileAnswer → List ℕ
compile_words r = r.number ∷ r.place ∷ []

abbrev pub sound_words : SoundAnswer → List ℕ
sound_words r = r.number ∷ r.place ∷ []

-- Number, place, the plan's cost.
abbrev pub cost_words : CostAnswer → List ℕ
cost_words r = r.number ∷ r.place ∷ r.cost ∷ []

-- Number, place, the points written, the budget spent.
abbrev pub fill_words : FillAnswer → List ℕ
fill_words r = r.number ∷ r.place ∷ r.points ∷ r.spent ∷ []

-- The same, and the word that reads as the sum of the crossings.
abbrev pub fill_eras_words : FillErasAnswer → List ℕ
fill_eras_words r = r.number ∷ r.place ∷ r.points ∷ r.spent ∷ word_of 64 r.sum ∷ []

-- Number, place, the reason, first byte and end byte of the row's text.
abbrev pub reason_words : ReasonAnswer → List ℕ
reason_words r = r.number ∷ r.place ∷ r.reason ∷ r.first ∷ r.end ∷ []

-- Number, place, the chain's length, its 17 elements: 20 words.
abbrev pub chain_answer_length : ℕ
chain_answer_length = 20

abbrev pub chain_words : ChainAnswer → List ℕ
chain_words r = r.number ∷ r.place ∷ r.length ∷ r.elements

-- The same of a shift, and the word that reads as the crossing: 21 words.
abbrev pub shift_answer_length : ℕ
shift_answer_length = 21

abbrev pub shift_words : ShiftAnswer → List ℕ
shift_words r = r.number ∷ r.place ∷ r.length ∷ (r.elements ++ word_of 64 r.crossing ∷ [])

-- Number, place, the word at the present point.
abbrev pub value_words : ValueAnswer → List ℕ
value_words r = r.number ∷ r.place ∷ r.word ∷ []

-- The number of each verdict: *within*, *ahead*, *behind* and *unset* are 1, 2, 3 and 4, and "no verdict" is 0.
abbrev pub verdict_number : Verdict → ℕ
verdict_number NoVerdict = 0
verdict_number Within = 1
verdict_number Ahead = 2
verdict_number Behind = 3
verdict_number Unset = 4

-- Number, place, the word that reads as the offset, the verdict's number.
abbrev pub probe_words : ProbeAnswer → List ℕ
probe_words r = r.number ∷ r.place ∷ word_of 64 r.offset ∷ verdict_number r.verdict ∷ []

-- A text compiled on a grid into a lent plan: what plan and answer hold afterwards.
pub record CompiledInto (text : List ℕ) (start step : ℕ) (lent plan answer : List ℕ) : Type 0 where
  pub result : CompileAnswer
  pub compiles : Compiling 64 text start step lent result plan
  pub laid : answer ≡ compile_words result

-- A row of a plan explained: what the answer holds afterwards.
pub record ExplainedInto (plan : List ℕ) (row : ℕ) (answer : List ℕ) : Type 0 where
  pub result : ReasonAnswer
  pub explains : Explaining 64 plan row result
  pub laid : answer ≡ reason_words result
