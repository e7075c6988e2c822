-- `after` lends what stands after the first mark.
use Rattle.std.proofs.Common.{◌∙◌, ◌≡◌, ◌+◌, ◌-◌, ◌≤◌, sym, ap, length, drop, take_all, length-drop, drop_of_length-le, arith}
use Prim.Native.Nat.{suc}
use Rattle.table.specs.Parts.{before}
use Rattle.table.proofs.PartsFound.{after_dropped}
use Rattle.edges_text.proofs.Marks.{place_some, place_none}
use Rattle.edges_text.proofs.text.after.Goals as goal

pub returns-in-Some-clause-after_mark : goal.returns-in-Some-clause-after_mark
returns-in-Some-clause-after_mark c =
    let text = c.args.text.now in
    let end = c.in-Some.end in
    let found = place_some c.args.mark text end (sym c.place.ensures ∙ c.in-Some.is) in
    let start : end + 1 ≡ suc (length (before c.args.mark text)) = omega (arith, found.0) in
    take_all (length text - (end + 1)) (drop (end + 1) text) (omega (arith, length-drop (end + 1) text))
    ∙ ap (λ n. drop n text) start
    ∙ after_dropped c.args.mark text

pub returns-in-None-clause-after_mark : goal.returns-in-None-clause-after_mark
returns-in-None-clause-after_mark c =
    let text = c.args.text.now in
    let all = place_none c.args.mark text (sym c.place.ensures ∙ c.in-None.is) in
    sym (drop_of_length-le text {i = suc (length (before c.args.mark text))} (omega (arith, all))) ∙ after_dropped c.args.mark text
