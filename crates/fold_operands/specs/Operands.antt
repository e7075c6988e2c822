-- Operands that stand in a lent plan, one behind the other, each under its span, and the folded tree that an operator leaves in their place.
use Rattle.std.specs.Prelude.{◌≡◌, List, ℕ, ◌+◌}
use Rattle.formula.specs.Tree.{Span}
use Rattle.fold.specs.Folded.{Spans, Folded}
use Rattle.fold.specs.Layout.{row_count}
use Rattle.fold.proofs.Shape.{WellFormed}
use Rattle.fold_rows.specs.Standing.{Stands, placed}

-- The operand a stands from row `first` on, up to row `end`, under the span s.
pub record Operand (p : List ℕ) (first end : ℕ) (s : Span) (a : Folded) : Type 0 where
  pub stands : Stands p first s a
  pub behind : end ≡ first + row_count a
  pub formed : WellFormed 64 a

-- "left operand first": a stands from row `left` on, b behind it from row `middle` on, up to row `end`.
pub record Operands (p : List ℕ) (left middle end : ℕ) (s : Spans) (a b : Folded) : Type 0 where
  pub first : Operand p left middle s.left a
  pub second : Operand p middle end s.right b

-- Some operands stand there: what the calls ask for.
abbrev pub One : List ℕ → ℕ → ℕ → Type 0
One p first end = (s : Span) × (a : Folded) × Operand p first end s a

abbrev pub Two : List ℕ → ℕ → ℕ → ℕ → Type 0
Two p left middle end = (s : Spans) × (a : Folded) × (b : Folded) × Operands p left middle end s a b

-- The folded tree f now stands from row n on, up to row `end`; every word before and after it is as it was. It stands under some span: the node's own
-- is put into its root's row afterwards, also where an operand is "passed through unchanged".
pub record Left (p : List ℕ) (n : ℕ) (f : Folded) (end : ℕ) (q : List ℕ) : Type 0 where
  pub under : Span
  pub words : q ≡ placed p n under f
  pub behind : end ≡ n + row_count f

-- What an operator of one or two operands does, whichever folded trees they are and whichever spans they have.
abbrev pub Folds : (Span → Folded → Folded) → List ℕ → ℕ → ℕ → ℕ → List ℕ → Type 0
Folds operator p first end r q = (s : Span) (a : Folded) → Operand p first end s a → Left p first (operator s a) r q

abbrev pub FoldsBoth : (Spans → Folded → Folded → Folded) → List ℕ → ℕ → ℕ → ℕ → ℕ → List ℕ → Type 0
FoldsBoth operator p left middle end r q = (s : Spans) (a b : Folded) → Operands p left middle end s a b → Left p left (operator s a b) r q
