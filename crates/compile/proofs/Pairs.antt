-- The chain of two elements that a number or x begins as, put into a row.
use mathlib.Core.Path.{◌≡◌, ap, ◌∙◌}
use mathlib.Core.Bool.{cond}
use mathlib.Core.List.{List, [], ◌∷◌, ◌++◌}
use Prim.Native.Nat.{ℕ}
use lib.Dec.{eqb}
use lib.ListN.{set}
use Rattle.chain.specs.Answer.{ChainAnswer}
use Rattle.chain.specs.Chain.{trimmed, row}
use Rattle.chain.specs.Answer.{answered, trim_outcome}
use Rattle.chain.proofs.Trimming.{length-trimmed_some}
use Rattle.fold.specs.Folded.{trimmed_sum}
use Rattle.fold_rows.specs.Standing.{with_row, placed, no_span}
use Rattle.fold_rows.proofs.Stood.{sum-placed}

abbrev row_of : ChainAnswer → List ℕ
row_of t = cond (eqb t.length 0) 0 1 ∷ t.length ∷ 0 ∷ t.elements ++ 0 ∷ 0 ∷ []

pub pair_placed : (p : List ℕ) (r first second : ℕ) {z q : List ℕ} {t : ChainAnswer} → z ≡ row 17 []
    → t ≡ answered (trim_outcome (set (set z 0 first) 1 second) 1)
    → q ≡ with_row p r (row_of t)
    → q ≡ placed p r no_span (trimmed_sum (first ∷ second ∷ []))
unfolding row
pair_placed p r first second hz ht hq =
    hq
    ∙ ap (λ (t : ChainAnswer). with_row p r (row_of t)) (ht ∙ ap (λ z. answered (trim_outcome (set (set z 0 first) 1 second) 1)) hz)
    ∙ sum-placed p r (trimmed 0 (first ∷ second ∷ [])) (length-trimmed_some 0 (first ∷ second ∷ []))
