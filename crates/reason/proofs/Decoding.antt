-- A result of the call is all that its record says: reasons with one number are one reason, and results with one record are one result.
use Rattle.std.proofs.Common.{◌≡◌, refl, sym, ap, ◌∙◌, ℕ, [], ◌∷◌, get_or, Option, Some, None, Result, Ok, Err}
use Rattle.plan.specs.declared.Refusal.{Refusal}
use Rattle.plan.proofs.Decoding.{refused-some, same-refusal}
use Rattle.reason.specs.declared.Reason.{Reason}
use Rattle.reason.specs.declared.Reason.TheVariants.{OperandStays, LengthsAddOver, LengthTimesOver, AgainstProduct, TwoProducts, ExponentNeither, WouldFold}
use Rattle.reason.specs.declared.Explained.{Explained}
use Rattle.reason.specs.Answer.{ReasonAnswer, number_or_0, as_reason_answer}

-- The reason with number n.
numbered : ℕ → Option Reason
numbered n =
    get_or (None ∷ Some OperandStays ∷ Some LengthsAddOver ∷ Some LengthTimesOver ∷ Some AgainstProduct ∷ Some TwoProducts ∷ Some ExponentNeither
    ∷ Some WouldFold ∷ []) n None

of_its_number : (reason : Option Reason) → numbered (number_or_0 reason) ≡ reason
unfolding numbered
of_its_number None = refl
of_its_number (Some OperandStays) = refl
of_its_number (Some LengthsAddOver) = refl
of_its_number (Some LengthTimesOver) = refl
of_its_number (Some AgainstProduct) = refl
of_its_number (Some TwoProducts) = refl
of_its_number (Some ExponentNeither) = refl
of_its_number (Some WouldFold) = refl

pub same-reason : (a b : Option Reason) → number_or_0 a ≡ number_or_0 b → a ≡ b
same-reason a b e = sym (of_its_number a) ∙ ap numbered e ∙ of_its_number b

-- The span of a row and the reason with its number.
told : ReasonAnswer → Result Explained Refusal
told x = Ok record { reason = numbered x.reason; first = x.first; end = x.end }

told_again : (a : Explained) → told (as_reason_answer (Ok a)) ≡ Ok a
unfolding told
told_again a = rw (of_its_number a.reason) refl

pub same-result : (a b : Result Explained Refusal) → as_reason_answer a ≡ as_reason_answer b → a ≡ b
same-result (Ok a) (Ok b) e = sym (told_again a) ∙ ap told e ∙ told_again b
same-result (Ok a) (Err b) e = absurd (refused-some b (sym (ap (λ (x : ReasonAnswer). x.number) e)))
same-result (Err a) (Ok b) e = absurd (refused-some a (ap (λ (x : ReasonAnswer). x.number) e))
same-result (Err a) (Err b) e = ap Err (same-refusal a b (ap (λ (x : ReasonAnswer). x.number) e))
