-- The answers of the public calls, for all inputs: which refusal, or which trimmed chain.
-- The width w is a parameter of every outcome; the calls have w = 64.
use Rattle.std.specs.Prelude.{cond, List, [], ℕ, ◌+◌, ◌-◌, ltb, ℤ, pos, length, take, Result, Ok, Err}
use Rattle.chain.specs.declared.Chain.{Chain}
use Rattle.chain.specs.declared.Shifted.{Shifted}
use Rattle.chain.specs.declared.Refusal.{Refusal}
use Rattle.chain.specs.declared.Refusal.TheVariants.{TooManyCoefficients, TooLong, ProductTooLong}
use Rattle.chain.specs.Chain.{value, words, trimmed, row}
use Rattle.chain.specs.SumChain as SumChain
use Rattle.chain.specs.Coefficients.{from_coefficients}
use Rattle.chain.specs.Crossing.{crossing}

-- A refusal's number and place, 0 and 0 if accepted, and the trimmed chain: its length and its elements, 0 past them.
pub record ChainAnswer : Type 0 where
  pub number : ℕ
  pub place : ℕ
  pub length : ℕ
  pub elements : List ℕ

-- The same of a shift, and how its first element crossed: -1, 0 or 1, and 0 beside a refusal.
pub record ShiftAnswer : Type 0 where
  pub number : ℕ
  pub place : ℕ
  pub length : ℕ
  pub elements : List ℕ
  pub crossing : ℤ

-- A refusal's number and place with the present value alone.
pub record ValueAnswer : Type 0 where
  pub number : ℕ
  pub place : ℕ
  pub word : ℕ

-- What a call comes to: a refusal's number, or a trimmed sum chain.
pub data Outcome : Type 0 where
  refused : ℕ → Outcome
  chain : List ℕ → Outcome

-- "Refused chain calls (13 to 15) return the constant 0 beside the number"; "An accepted call answers number 0, place 0";
-- "results come back trimmed with 0 past their length". A chain of length k has k + 1 elements.
abbrev pub answered : Outcome → ChainAnswer
answered (refused n) = record { number = n; place = 0; length = 0; elements = row 17 [] }
answered (chain f) = record { number = 0; place = 0; length = length f - 1; elements = row 17 f }

-- "14: a chain given with length over 16".
abbrev pub unless_long : ℕ → Outcome → Outcome
unless_long k o = cond (ltb 16 k) (refused 14) o

-- "Words past the given length are not read, inputs are trimmed first".
abbrev pub given : List ℕ → ℕ → List ℕ
given f k = trimmed 0 (take (k + 1) f)

abbrev pub trim_outcome : List ℕ → ℕ → Outcome
trim_outcome f k = unless_long k (chain (given f k))

abbrev pub sum_outcome : ℕ → List ℕ → ℕ → List ℕ → ℕ → Outcome
sum_outcome w f k g l = unless_long k (unless_long l (chain (trimmed 0 (words w (SumChain.sum (given f k) (given g l))))))

abbrev pub difference_outcome : ℕ → List ℕ → ℕ → List ℕ → ℕ → Outcome
difference_outcome w f k g l = unless_long k (unless_long l (chain (trimmed 0 (SumChain.difference w (given f k) (given g l)))))

-- "15: chain product, trimmed lengths add over 16".
abbrev pub unless_over : List ℕ → List ℕ → Outcome → Outcome
unless_over f g o = cond (ltb 16 ((length f - 1) + (length g - 1))) (refused 15) o

abbrev pub product_outcome : ℕ → List ℕ → ℕ → List ℕ → ℕ → Outcome
product_outcome w f k g l =
    unless_long k
    (unless_long l
    (unless_over (given f k) (given g l) (chain (trimmed 0 (words w (SumChain.product (given f k) (given g l)))))))

abbrev pub shift_outcome : ℕ → List ℕ → ℕ → Outcome
shift_outcome w f k = unless_long k (chain (trimmed 0 (words w (SumChain.sum_shift (given f k)))))

-- Request One of 02: "Each sum chain shift shall also say how its first element crossed"; "a constant or a refusal says 0". Inputs are trimmed first here too.
abbrev pub with_crossing : ChainAnswer → ℤ → ShiftAnswer
with_crossing r z = record { number = r.number; place = r.place; length = r.length; elements = r.elements; crossing = z }

abbrev pub shift_answer : ℕ → List ℕ → ℕ → ShiftAnswer
shift_answer w f k = with_crossing (answered (shift_outcome w f k)) (cond (ltb 16 k) (pos 0) (crossing w (given f k)))

-- "13: over 17 coefficients"; "The chain is given trimmed. An empty list is the constant 0."
abbrev pub coefficients_outcome : ℕ → List ℕ → Outcome
coefficients_outcome w a = cond (ltb 17 (length a)) (refused 13) (chain (trimmed 0 (words w (from_coefficients a))))

-- The value call answers a word: f0, or 0 beside the refusal's number.
abbrev pub value_answer : List ℕ → ℕ → ValueAnswer
value_answer f k =
    cond (ltb 16 k) (record { number = 14; place = 0; word = 0 }) (record { number = 0; place = 0; word = value 0 (given f k) })

-- ---- what the results of the calls say in these words
-- "13: over 17 coefficients"; "14: a chain given with length over 16"; "15: chain product, trimmed lengths add over 16".
abbrev pub refusal_number : Refusal → ℕ
refusal_number TooManyCoefficients = 13
refusal_number TooLong = 14
refusal_number ProductTooLong = 15

abbrev pub as_chain_answer : Result Chain Refusal → ChainAnswer
as_chain_answer (Ok f) = record { number = 0; place = 0; length = f.length; elements = f.elements }
as_chain_answer (Err refusal) = answered (refused (refusal_number refusal))

abbrev pub as_shift_answer : Result Shifted Refusal → ShiftAnswer
as_shift_answer (Ok shifted) = with_crossing (as_chain_answer (Ok shifted.chain)) shifted.crossing
as_shift_answer (Err refusal) = with_crossing (as_chain_answer (Err refusal)) (pos 0)

abbrev pub as_value_answer : Result ℕ Refusal → ValueAnswer
as_value_answer (Ok word) = record { number = 0; place = 0; word = word }
as_value_answer (Err refusal) = record { number = refusal_number refusal; place = 0; word = 0 }
