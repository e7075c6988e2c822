-- `before` lends what stands before the first mark.
use Rattle.std.proofs.Common.{◌∙◌, ◌≡◌, sym, ap, take, take_all, arith}
use Rattle.table.proofs.PartsFound.{before-taken}
use Rattle.edges_text.proofs.Marks.{place_some, place_none}
use Rattle.edges_text.proofs.text.before.Goals as goal

pub returns-in-Some : goal.returns-in-Some
returns-in-Some c =
    let text = c.args.text.now in
    ap (λ n. take n text) (place_some c.args.mark text c.in-Some.end (sym c.place.ensures ∙ c.in-Some.is)).0 ∙ before-taken c.args.mark text

pub returns-in-None : goal.returns-in-None
returns-in-None c =
    let text = c.args.text.now in
    sym (take_all _ text (place_none c.args.mark text (sym c.place.ensures ∙ c.in-None.is))) ∙ before-taken c.args.mark text
