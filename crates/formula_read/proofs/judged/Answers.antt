-- `judged` gives the least refusal of 2 to 8, or none.
use mathlib.Core.Path.{◌∙◌, ap, refl}
use mathlib.Core.List.{[]}
use Prim.Native.Nat.{min}
use native.Mathlib.Omega.{arith}
use lib.ListN.{length}
use Rattle.formula_scan.specs.Fields.{as_parsed}
use Rattle.formula_scan.proofs.Deciding.{judged_code}
use Rattle.formula_scan.proofs.Judging.{judged_long, judged-deep, shallow}
use Rattle.formula_cursor.proofs.Wholes.{whole_lost, whole_got}
use Rattle.formula_read.proofs.judged.Goals as goal

pub returns-then-text-gt-LONGEST_TEXT : goal.returns-then-text-gt-LONGEST_TEXT
returns-then-text-gt-LONGEST_TEXT c = judged_long c.args.text.now (omega arith)

pub returns-in-Some : goal.returns-in-Some
returns-in-Some c = judged-deep c.args.text.now c.in-Some.place (omega arith) c.in-Some.ensures.first c.in-Some.ensures.inside

pub returns-in-Err : goal.returns-in-Err
returns-in-Err c =
    let text = c.args.text.now in
    whole_lost c.in-Err.ensures (omega arith) (shallow text (length text) c.in_default.ensures.first (omega arith)) refl

pub returns : goal.returns
returns c =
    let text = c.args.text.now in
    let whole = c.in-Ok.whole in
    let tree = whole_got c.in-Ok.ensures refl in
    rw c.noted.ensures (judged_code text (omega arith) (shallow text (length text) c.in_default.ensures.first (omega arith)) [] (as_parsed whole) [] tree.0 tree.1 c.min.result
    (c.min.ensures ∙ ap (λ k. min whole.fault k) c.nodes_fault.ensures))
