-- `put_shift` stores the crossing's word last, and lays the chain before it; a refusal is answered with the constant 0.
use Rattle.std.proofs.Common.{◌≡◌, ◌∙◌, ap, rules, ℤ, pos, negsuc, [], ◌∷◌, drop, slice_set, refl, w64, of_z, SFits}
use mir.ValLaws.{to_z-of_z}
use Rattle.word.specs.Signed.{word_of}
use Rattle.chain.specs.Chain.{row}
use Rattle.otterchime.proofs.Behind.{last_stored}
use Rattle.otterchime.proofs.chains.put_shift.Goals as goal

cast_word : (z : ℤ) → of_z w64 z ≡ word_of 64 z
cast_word (pos n) = refl
cast_word (negsuc n) = refl

pub returns-in-Ok : goal.returns-in-Ok
returns-in-Ok c =
    let answer = c.args.answer.now in
    let shifted = c.in-Ok.shifted in
    let word = c.cast_unsigned.result in
    let fits : SFits w64 shifted.crossing = search rules in
    let crosses : word ≡ word_of 64 shifted.crossing = c.cast_unsigned.ensures ∙ ap (of_z w64) (to_z-of_z w64 shifted.crossing fits) ∙ cast_word shifted.crossing in
    let last : drop 20 (slice_set answer 20 word) ≡ word ∷ [] = last_stored 20 answer word c.told-answer in
    rw (c.in-Ok.is, c.lay.ensures, last, crosses)

pub returns-in-Err : goal.returns-in-Err
unfolding row
returns-in-Err c = search rules
