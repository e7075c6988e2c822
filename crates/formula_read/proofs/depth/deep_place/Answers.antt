use mathlib.Core.Path.{◌≡◌, ap}
use mathlib.Core.Bool.{Bool, true, false, cond}
use Prim.Native.Nat.{ℕ, ◌+◌}
use native.Mathlib.Omega.{arith}
use mir.Val.{bool_byte}
use lib.Dec.{eqb}
use lib.ListN.{get_or}
use Rattle.formula_scan.proofs.BracketCount.{deep_starts, deep-found, deep_goes_on}
use Rattle.formula_read.proofs.depth.deep_place.Goals as goal

-- One more where the test holds.
one_if : (test : Bool) (n k : ℕ) → k ≡ bool_byte test → n + k ≡ cond test (n + 1) n
one_if true n k e = ap (λ z. n + z) e
one_if false n k e = omega (arith, e)

pub loop-place-init : goal.loop-place-init
loop-place-init c = deep_starts c.args.text.now

pub returns-then-closed-opened-clause-first : goal.returns-then-closed-opened-clause-first
returns-then-closed-opened-clause-first c =
    let so = c.loop-place in
    let byte = get_or c.args.text.now so.place 0 in
    deep-found c.args.text.now so.place so.opened so.closed _ _ so.invariant c.loop-place-test.true
    (one_if (eqb byte 40) so.opened c.from-opened.result c.from-opened.ensures) (one_if (eqb byte 41) so.closed c.from-closed.result c.from-closed.ensures) (omega arith)

pub loop-place-preserved : goal.loop-place-preserved
loop-place-preserved c =
    let so = c.loop-place in
    let byte = get_or c.args.text.now so.place 0 in
    deep_goes_on c.args.text.now so.place so.opened so.closed _ _ so.invariant c.loop-place-test.true
    (one_if (eqb byte 40) so.opened c.from-opened.result c.from-opened.ensures) (one_if (eqb byte 41) so.closed c.from-closed.result c.from-closed.ensures) (omega arith)
