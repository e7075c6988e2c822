-- What a result of a call says as a record says it of that result alone: two results of one record are equal.
use Rattle.std.specs.Prelude.{◌≡◌, ℕ, List, Result, Ok, Err}
use Rattle.std.proofs.Common.{refl, sym, ap, ap₂}
use Rattle.chain.specs.declared.Chain.{Chain}
use Rattle.chain.specs.declared.Shifted.{Shifted}
use Rattle.chain.specs.declared.Refusal.{Refusal}
use Rattle.chain.specs.declared.Refusal.TheVariants.{TooManyCoefficients, TooLong, ProductTooLong}
use Rattle.chain.specs.Answer.{ChainAnswer, ShiftAnswer, ValueAnswer, refusal_number, answered, chain, as_chain_answer, as_shift_answer, as_value_answer}

-- No refusal has the number 0.
pub refused-some : (refusal : Refusal) → refusal_number refusal ≡ 0 → ⊥
refused-some TooManyCoefficients e = cc
refused-some TooLong e = cc
refused-some ProductTooLong e = cc

pub same-refusal : (r s : Refusal) → refusal_number r ≡ refusal_number s → r ≡ s
same-refusal TooManyCoefficients TooManyCoefficients e = refl
same-refusal TooManyCoefficients TooLong e = cc
same-refusal TooManyCoefficients ProductTooLong e = cc
same-refusal TooLong TooManyCoefficients e = cc
same-refusal TooLong TooLong e = refl
same-refusal TooLong ProductTooLong e = cc
same-refusal ProductTooLong TooManyCoefficients e = cc
same-refusal ProductTooLong TooLong e = cc
same-refusal ProductTooLong ProductTooLong e = refl

pub same-chain_answer : (r s : Result Chain Refusal) → as_chain_answer r ≡ as_chain_answer s → r ≡ s
same-chain_answer (Ok f) (Ok g) e =
    ap {B = Result Chain Refusal} (λ f. Ok f)
    (ap₂ {C = Chain} (λ n l. record { length = n; elements = l }) (ap (λ (a : ChainAnswer). a.length) e) (ap (λ (a : ChainAnswer). a.elements) e))
same-chain_answer (Ok f) (Err refusal) e = absurd (refused-some refusal (sym (ap (λ (a : ChainAnswer). a.number) e)))
same-chain_answer (Err refusal) (Ok g) e = absurd (refused-some refusal (ap (λ (a : ChainAnswer). a.number) e))
same-chain_answer (Err r) (Err s) e = ap {B = Result Chain Refusal} (λ r. Err r) (same-refusal r s (ap (λ (a : ChainAnswer). a.number) e))

pub same-shift_answer : (r s : Result Shifted Refusal) → as_shift_answer r ≡ as_shift_answer s → r ≡ s
same-shift_answer (Ok f) (Ok g) e =
    ap₂ {C = Result Shifted Refusal} (λ f z. Ok (record { chain = f; crossing = z }))
    (ap₂ {C = Chain} (λ n l. record { length = n; elements = l }) (ap (λ (a : ShiftAnswer). a.length) e) (ap (λ (a : ShiftAnswer). a.elements) e))
    (ap (λ (a : ShiftAnswer). a.crossing) e)
same-shift_answer (Ok f) (Err refusal) e = absurd (refused-some refusal (sym (ap (λ (a : ShiftAnswer). a.number) e)))
same-shift_answer (Err refusal) (Ok g) e = absurd (refused-some refusal (ap (λ (a : ShiftAnswer). a.number) e))
same-shift_answer (Err r) (Err s) e = ap {B = Result Shifted Refusal} (λ r. Err r) (same-refusal r s (ap (λ (a : ShiftAnswer). a.number) e))

pub same-value_answer : (r s : Result ℕ Refusal) → as_value_answer r ≡ as_value_answer s → r ≡ s
same-value_answer (Ok a) (Ok b) e = ap {B = Result ℕ Refusal} (λ a. Ok a) (ap (λ (a : ValueAnswer). a.word) e)
same-value_answer (Ok a) (Err refusal) e = absurd (refused-some refusal (sym (ap (λ (a : ValueAnswer). a.number) e)))
same-value_answer (Err refusal) (Ok b) e = absurd (refused-some refusal (ap (λ (a : ValueAnswer). a.number) e))
same-value_answer (Err r) (Err s) e = ap {B = Result ℕ Refusal} (λ r. Err r) (same-refusal r s (ap (λ (a : ValueAnswer). a.number) e))

-- An accepted answer is a chain's.
pub accepted-ok : (r : Result Chain Refusal) (f : List ℕ) → as_chain_answer r ≡ answered (chain f) → (g : Chain) × (r ≡ Ok g)
accepted-ok (Ok g) f e = (g, refl)
accepted-ok (Err refusal) f e = absurd (refused-some refusal (ap (λ (a : ChainAnswer). a.number) e))
