-- `joined` notes a node over both operands, or passes the right one on.
use mathlib.Core.Path.{◌≡◌, refl, sym, ap, ap₂, ◌∙◌}
use mathlib.Core.Bool.{true, false, true≢false}
use Prim.Native.Nat.{ℕ, zero, suc}
use native.Mathlib.Omega.{arith}
use lib.Dec.{eqb}
use borrow.Author.Tests.{ne_eqb}
use Rattle.std.specs.Prelude.{Option, Some, None, is_some, unwrap_or}
use Rattle.formula.specs.Tree.{span}
use Rattle.formula_scan.specs.Fields.{Found}
use Rattle.formula_scan.specs.Readers.{with_node, put}
use Rattle.formula_nodes.proofs.joined.Goals as goal

-- There is no sign 0.
sign-some : (sign : Option ℕ) → (sign ≡ Some 0 → ⊥) → is_some sign ≡ true → eqb (unwrap_or sign 0) 0 ≡ false
sign-some None is e = absurd (true≢false (sym e))
sign-some (Some zero) is e = absurd (is refl)
sign-some (Some (suc n)) is e = ne_eqb (suc n) 0 (λ z. omega arith)

pub returns-clause-value : goal.returns-clause-value
returns-clause-value c =
    let left = c.args.left in
    rw (sign-some left.sign left.is_sign c.if-is_none.ensures) (c.noted.ensures.value ∙ ap with_node c.both.ensures)

pub returns-clause-tree_after : goal.returns-clause-tree_after
returns-clause-tree_after c =
    let left = c.args.left in
    rw (sign-some left.sign left.is_sign c.if-is_none.ensures)
    (c.noted.ensures.tree_after ∙ ap₂ (λ (f : Found) k. put c.args.tree.now f.nodes k 0 (span left.first f.at)) c.both.ensures c.from.ensures)
