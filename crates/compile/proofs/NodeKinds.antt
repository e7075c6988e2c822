-- The kind of a node, read from its number.
use mathlib.Core.Path.{◌≡◌, refl, sym, ap, subst, ◌∙◌}
use mathlib.Core.Bool.{cond}
use mathlib.Core.List.{List, ◌∷◌}
use Prim.Native.Nat.{ℕ}
use lib.Dec.{eqb}
use Rattle.formula.specs.Tree.{Tree}
use Rattle.formula.specs.Words.{kind_number}
use Rattle.formula.specs.declared.NodeKind.{NodeKind}
use Rattle.formula.specs.declared.NodeKind.TheVariants.{Number, Variable, Sum, Difference, Product, Minus, LiteralPower, Raise}
use Rattle.compile.specs.Machine.{Working}

abbrev kind_of : ℕ → NodeKind
kind_of n =
    cond (eqb n 0) Number
    (cond (eqb n 1) Variable
    (cond (eqb n 3) Sum
    (cond (eqb n 4) Difference
    (cond (eqb n 5) Product
    (cond (eqb n 6) Minus
    (cond (eqb n 7) LiteralPower Raise))))))

kind-back : (kind : NodeKind) → kind_of (kind_number kind) ≡ kind
kind-back Number = refl
kind-back Variable = refl
kind-back Sum = refl
kind-back Difference = refl
kind-back Product = refl
kind-back Minus = refl
kind-back LiteralPower = refl
kind-back Raise = refl

-- Two kinds of one number are one kind.
pub same-kind : (a b : NodeKind) → kind_number a ≡ kind_number b → a ≡ b
same-kind a b e = sym (kind-back a) ∙ ap kind_of e ∙ kind-back b

-- A node whose kind is told by its number comes next.
pub next_kind : {t : Tree} {start step : ℕ} {p : List ℕ} {end k n v first_byte end_byte : ℕ} {words : List ℕ} → k ≡ n
    → Working t start step p end (n ∷ v ∷ first_byte ∷ end_byte ∷ words) → Working t start step p end (k ∷ v ∷ first_byte ∷ end_byte ∷ words)
next_kind {t} {start} {step} {p} {end} {v = v} {first_byte = first_byte} {end_byte = end_byte} {words = words} e work =
    subst (λ k. Working t start step p end (k ∷ v ∷ first_byte ∷ end_byte ∷ words)) (sym e) work
