-- The answers of the calls for tables that run backwards, by request Four of document 02: "value, shift, inverse shift, sum, product, and conversion from and to
-- forward sum chains. Forward sum chains need the inverse shift too." A backward chain's value and sum are answered as a forward chain's are, in Answer.antt.
use Rattle.std.specs.Prelude.{List, ℕ}
use Rattle.chain.specs.Chain.{words, trimmed}
use Rattle.chain.specs.SumChain as SumChain
use Rattle.chain.specs.BackwardChain as BackwardChain
use Rattle.chain.specs.Answer.{Outcome, chain, unless_long, unless_over, given}

-- "Refusals: 14 and 15 as in 01." Inputs are trimmed first, results come back trimmed: `changed` is a call that makes one chain of one.
abbrev pub changed : (List ℕ → List ℕ) → List ℕ → ℕ → Outcome
changed change f k = unless_long k (chain (trimmed 0 (change (given f k))))

abbrev pub inverse_shift_outcome : ℕ → List ℕ → ℕ → Outcome
inverse_shift_outcome w f k = changed (SumChain.inverse_shift w) f k

abbrev pub backward_shift_outcome : ℕ → List ℕ → ℕ → Outcome
backward_shift_outcome w f k = changed (λ c. words w (BackwardChain.shift c)) f k

abbrev pub backward_inverse_shift_outcome : ℕ → List ℕ → ℕ → Outcome
backward_inverse_shift_outcome w f k = changed (BackwardChain.inverse_shift w) f k

abbrev pub to_backward_outcome : ℕ → List ℕ → ℕ → Outcome
to_backward_outcome w f k = changed (BackwardChain.to_backward w) f k

abbrev pub to_forward_outcome : ℕ → List ℕ → ℕ → Outcome
to_forward_outcome w f k = changed (λ c. words w (BackwardChain.to_forward c)) f k

abbrev pub backward_product_outcome : ℕ → List ℕ → ℕ → List ℕ → ℕ → Outcome
backward_product_outcome w f k g l =
    unless_long k
    (unless_long l
    (unless_over (given f k) (given g l) (chain (trimmed 0 (words w (BackwardChain.product w (given f k) (given g l)))))))
