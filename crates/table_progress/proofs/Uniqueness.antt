-- Any two conforming answers of a step, and of the end of the input, are equal, and so are the buffers they leave.
use mathlib.Core.Path.{◌≡◌, refl, sym, ap, ◌∙◌}
use mathlib.Core.List.{List}
use Prim.Native.Nat.{ℕ}
use Rattle.std.proofs.Common.{Result, Ok, Err}
use Rattle.table_progress.specs.declared.NotDone.{NotDone}
use Rattle.table_progress.specs.declared.Progress.{Progress}
use Rattle.table_progress.specs.declared.Stepped.{Stepped as Step}
use Rattle.table_progress.specs.Steps.{Stepped, as_stepped, Buffers, Outcome, stepped, finished}
use Rattle.table.specs.declared.Tool.{Tool}

both_equal : {o : Outcome} {r r' : Stepped} {after after' : Buffers} → record { answer = r; buffers = after } ≡ o
    → record { answer = r'; buffers = after' } ≡ o → (r ≡ r') × (after ≡ after')
both_equal e f = (ap (λ (o : Outcome). o.answer) (e ∙ sym f), ap (λ (o : Outcome). o.buffers) (e ∙ sym f))

pub step-unique : (tool : Tool) (p : Progress) (input : List ℕ) (b : Buffers) {r r' : Stepped} {after after' : Buffers}
    → record { answer = r; buffers = after } ≡ stepped tool p input b → record { answer = r'; buffers = after' } ≡ stepped tool p input b
    → (r ≡ r') × (after ≡ after')
step-unique tool p input b e f = both_equal e f

pub finish_unique : (tool : Tool) (p : Progress) (b : Buffers) {r r' : Stepped} {after after' : Buffers}
    → record { answer = r; buffers = after } ≡ finished tool p b → record { answer = r'; buffers = after' } ≡ finished tool p b
    → (r ≡ r') × (after ≡ after')
finish_unique tool p b e f = both_equal e f

-- Two answers that say the same of a step are the same answer.
pub same-stepped : (p : Progress) (a b : Result Step NotDone) → as_stepped p a ≡ as_stepped p b → a ≡ b
same-stepped p (Ok a) (Ok b) e =
    ap (λ (s : Stepped). Ok (record { progress = s.progress; used = s.used; wrote = s.wrote })) e
same-stepped p (Ok a) (Err b) e = let t = ap (λ (s : Stepped). s.ok) e in cc
same-stepped p (Err a) (Ok b) e = let t = ap (λ (s : Stepped). s.ok) e in cc
same-stepped p (Err a) (Err b) e = refl
