-- What reading a formula answers is known by its number and place: no two answers are told alike.
use mathlib.Core.Path.{◌≡◌, refl, sym, ap, ◌∙◌}
use mathlib.Core.Bool.{cond}
use Prim.Native.Nat.{ℕ}
use native.Mathlib.Omega.{arith}
use lib.Dec.{eqb}
use Rattle.std.specs.Prelude.{Result, Ok, Err}
use Rattle.formula.specs.declared.Refusal.{Refusal}
use Rattle.formula.specs.declared.Refusal.TheVariants.{BufferTooShort, TextTooLong, BracketsTooDeep, NotAFormula, NumberTooLarge, ExponentTooLarge, TooManyNodes, BaseNotOdd}
use Rattle.formula.specs.Answer.{ReadAnswer, refused_answer, as_read_answer}

-- The refusal of a number and a place.
abbrev refusal_of : ℕ → ℕ → Refusal
refusal_of n p =
    cond (eqb n 1) BufferTooShort
    (cond (eqb n 2) TextTooLong
    (cond (eqb n 3) (BracketsTooDeep p)
    (cond (eqb n 4) (NotAFormula p)
    (cond (eqb n 5) (NumberTooLarge p)
    (cond (eqb n 6) (ExponentTooLarge p)
    (cond (eqb n 7) TooManyNodes (BaseNotOdd p)))))))

abbrev refusal_told : ReadAnswer → Refusal
refusal_told r = refusal_of r.number r.place

refusal-back : (a : Refusal) → refusal_told (refused_answer a) ≡ a
refusal-back BufferTooShort = refl
refusal-back TextTooLong = refl
refusal-back (BracketsTooDeep p) = refl
refusal-back (NotAFormula p) = refl
refusal-back (NumberTooLarge p) = refl
refusal-back (ExponentTooLarge p) = refl
refusal-back TooManyNodes = refl
refusal-back (BaseNotOdd p) = refl

pub same-refusal : (a b : Refusal) → refused_answer a ≡ refused_answer b → a ≡ b
same-refusal a b e = sym (refusal-back a) ∙ ap refusal_told e ∙ refusal-back b

abbrev answer_told : ReadAnswer → Result (Unit {0}) Refusal
answer_told r = cond (eqb r.number 0) (Ok tt) (Err (refusal_told r))

answer-back : (a : Result (Unit {0}) Refusal) → answer_told (as_read_answer a) ≡ a
answer-back (Ok _) = refl
answer-back (Err BufferTooShort) = refl
answer-back (Err TextTooLong) = refl
answer-back (Err (BracketsTooDeep p)) = refl
answer-back (Err (NotAFormula p)) = refl
answer-back (Err (NumberTooLarge p)) = refl
answer-back (Err (ExponentTooLarge p)) = refl
answer-back (Err TooManyNodes) = refl
answer-back (Err (BaseNotOdd p)) = refl

pub same-answer : (a b : Result (Unit {0}) Refusal) → as_read_answer a ≡ as_read_answer b → a ≡ b
same-answer a b e = sym (answer-back a) ∙ ap answer_told e ∙ answer-back b

-- No refusal is told as an accepted text is.
pub refused-some : (a : Refusal) → (refused_answer a).number ≡ 0 → ⊥
refused-some BufferTooShort e = omega arith
refused-some TextTooLong e = omega arith
refused-some (BracketsTooDeep p) e = omega arith
refused-some (NotAFormula p) e = omega arith
refused-some (NumberTooLarge p) e = omega arith
refused-some (ExponentTooLarge p) e = omega arith
refused-some TooManyNodes e = omega arith
refused-some (BaseNotOdd p) e = omega arith
