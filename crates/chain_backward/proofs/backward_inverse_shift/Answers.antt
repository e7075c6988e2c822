-- `backward_inverse_shift` steps the words up to the given length from the bottom up with differences, and trims.
use Rattle.std.proofs.Common.{ℕ, get_or, ◌∙◌, w64, Fits, rules}
use Rattle.chain_backward.proofs.Steps.{backward_inverse_shift-done, within}
use Rattle.chain_backward.proofs.backward_inverse_shift.Goals as goal

pub returns : goal.returns
returns c =
    let f = c.args.f in
    let words = c.in_ok-shifted in
    let fits : (i : ℕ) → Fits w64 (get_or f.elements i 0) = λ i. search rules in
    let words-fit : (i : ℕ) → Fits w64 (get_or words.shifted i 0) = λ i. search rules in
    within f.length _ words.ensures.0 c.accepted.ensures
    ∙ backward_inverse_shift-done f.elements f.length (search rules) (λ i. (fits i).fits) words.ensures.1 (λ i. (words-fit i).fits) c.shift_part.ensures
