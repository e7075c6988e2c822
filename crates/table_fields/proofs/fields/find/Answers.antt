-- `find` takes the place at which the byte stands in the rest, or the rest's length.
use Rattle.std.proofs.Common.{rules, tests, arith, take, drop, ◌+◌, ◌-◌, ap, ◌∙◌}
use Rattle.std.specs.Prelude.{unwrap_or}
use Rattle.std.proofs.lemmas.Iterator.{YieldsList-from_slice}
use Rattle.std.proofs.lemmas.Iterator.Search.{position_from_yields_List}
use lib.Dec.{eqb}
use lib.ListN.{length, length-drop}
use lib.Seq.{take_all}
use Rattle.table.specs.Parts.{before}
use Rattle.table_fields.proofs.Finding.{byte_found}
use Rattle.table_fields.proofs.fields.find.Goals as goal

pub returns : goal.returns
returns c =
    let text = c.args.text.now in
    let rest = take (length text - c.args.from) (drop c.args.from text) in
    let found =
    position_from_yields_List (λ b. eqb b c.args.byte) _ _ c.position.result c.position.ensures.ran (YieldsList-from_slice rest c.iter.ensures.rest)
    (λ x b q k. search (rules, tests)) in
    ap (λ n. c.args.from + n)
    (c.unwrap_or.ensures
    ∙ ap (λ o. unwrap_or o (length rest)) found
    ∙ byte_found c.args.byte rest
    ∙ ap (λ s. length (before c.args.byte s)) (take_all (length text - c.args.from) (drop c.args.from text) (omega (arith, length-drop c.args.from text))))
