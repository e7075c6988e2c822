-- Any two answers that meet a contract of `table_jobs` are equal, with every word that they leave.
use mathlib.Core.Path.{◌≡◌}
use mathlib.Core.List.{List}
use Prim.Native.Nat.{ℕ}
use Rattle.word.proofs.Unique.{both_are}
use Rattle.table_fields.specs.Writing.{Wrote}
use Rattle.table.specs.Judged.{JobLine}
use Rattle.table.specs.declared.Tool.{Tool}
use Rattle.table_progress.specs.Printed.{JobPrinted}

pub wrote-unique : {l s m k : List ℕ} {at r q : ℕ} → Wrote l at s r m → Wrote l at s q k → (r ≡ q) × (m ≡ k)
wrote-unique a b = (both_are a.next b.next, both_are a.bytes b.bytes)

pub job_unique : {tool : Tool} {n r q : ℕ} {job : JobLine} {formula plan table out plan' table' out' plan'' table'' out'' : List ℕ}
    → JobPrinted tool n job formula plan table out r plan' table' out' → JobPrinted tool n job formula plan table out q plan'' table'' out''
    → (r ≡ q) × (plan' ≡ plan'') × (table' ≡ table'') × (out' ≡ out'')
job_unique a b =
    let lines = wrote-unique a.prints b.prints in
    (lines.0, both_are a.leaves b.leaves, both_are a.fills b.fills, lines.1)
