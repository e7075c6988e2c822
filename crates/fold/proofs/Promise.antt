-- A text has one answer and one plan; the refusal's number and place depend on no grid. An answer is known by its number and place.
use mathlib.Core.Path.{◌≡◌, refl, sym, ap, ap₂, ◌∙◌}
use mathlib.Core.List.{List, ◌++◌}
use Prim.Native.Nat.{ℕ}
use native.Mathlib.Omega.{arith}
use lib.ListN.{drop}
use Rattle.plan.specs.Measures.{plan_length}
use Rattle.formula.specs.Tree.{span_of}
use Rattle.formula_scan.proofs.Answers.{refused-unique, refused-not-accepted}
use Rattle.formula_scan.proofs.GrammarScan.{unambiguous}
use Rattle.fold.specs.Folding.{fold}
use Rattle.fold.specs.Layout.{plan_words}
use Rattle.std.specs.Prelude.{Result, Ok, Err}
use Rattle.formula.specs.declared.Refusal.{Refusal}
use Rattle.formula.specs.Answer.{ReadAnswer, as_read_answer}
use Rattle.formula.proofs.Refused.{same-answer}
use Rattle.fold.specs.Answer.{CompileAnswer, as_compile_answer}
use Rattle.fold.specs.Compiling.{Compiling, too_short, refused, accepted}

pub grid_free : {w start step start' step' : ℕ} {s lent q q' : List ℕ} {r r' : CompileAnswer}
    → Compiling w s start step lent r q → Compiling w s start' step' lent r' q' → r ≡ r'
grid_free (too_short h) (too_short k) = refl
grid_free (too_short h) (refused k B) = absurd (omega arith)
grid_free (too_short h) (accepted k B) = absurd (omega arith)
grid_free (refused h A) (too_short k) = absurd (omega arith)
grid_free (refused h A) (refused k B) =
    let same = refused-unique A B in
    ap₂ (λ n p. record { number = n; place = p }) same.0 same.1
grid_free (refused h A) (accepted k B) = absurd (refused-not-accepted A B)
grid_free (accepted h A) (too_short k) = absurd (omega arith)
grid_free (accepted h A) (refused k B) = absurd (refused-not-accepted B A)
grid_free (accepted h A) (accepted k B) = refl

one_plan : {w start step : ℕ} {s lent q q' : List ℕ} {r r' : CompileAnswer}
    → Compiling w s start step lent r q → Compiling w s start step lent r' q' → q ≡ q'
one_plan (too_short h) (too_short k) = refl
one_plan (too_short h) (refused k B) = refl
one_plan (too_short h) (accepted k B) = absurd (omega arith)
one_plan (refused h A) (too_short k) = refl
one_plan (refused h A) (refused k B) = refl
one_plan (refused h A) (accepted k B) = absurd (refused-not-accepted A B)
one_plan (accepted h A) (too_short k) = absurd (omega arith)
one_plan (accepted h A) (refused k B) = absurd (refused-not-accepted B A)
one_plan {w} {start} {step} {lent = lent} (accepted h A) (accepted k B) =
    ap (λ t. plan_words (span_of t) (fold w start step t) ++ drop plan_length lent) (unambiguous A.means B.means)

pub compiling_unique : {w start step : ℕ} {s lent q q' : List ℕ} {r r' : CompileAnswer}
    → Compiling w s start step lent r q → Compiling w s start step lent r' q' → (r ≡ r') × (q ≡ q')
compiling_unique A B = (grid_free A B, one_plan A B)

-- Number and place as those of reading.
abbrev as_read : CompileAnswer → ReadAnswer
as_read r = record { number = r.number; place = r.place }

told_as_read : (a : Result (Unit {0}) Refusal) → as_read (as_compile_answer a) ≡ as_read_answer a
told_as_read (Ok _) = refl
told_as_read (Err e) = refl

pub same-compile_answer : (a b : Result (Unit {0}) Refusal) → as_compile_answer a ≡ as_compile_answer b → a ≡ b
same-compile_answer a b e = same-answer a b (sym (told_as_read a) ∙ ap as_read e ∙ told_as_read b)
