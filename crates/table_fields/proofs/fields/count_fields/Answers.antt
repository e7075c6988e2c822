-- `count_fields` counts the tabs of the line, and one.
use Rattle.std.proofs.Common.{arith, rules, tests}
use Rattle.std.proofs.lemmas.Iterator.{YieldsList-from_slice}
use Rattle.std.proofs.lemmas.Iterator.Consumers.{YieldsList-from_filter, count_from_yields_List}
use Rattle.std.proofs.lemmas.List.Sums.{length-filter}
use lib.Dec.{eqb}
use Rattle.table_fields.proofs.Finding.{counted}
use Rattle.table_fields.proofs.fields.count_fields.Goals as goal

pub returns : goal.returns
returns c =
    let line = c.args.line.now in
    let tabs =
    count_from_yields_List _ _ c.count.ensures.ran
    (YieldsList-from_filter _ (λ b. eqb b 9) (YieldsList-from_slice line cc) c.filter.ensures.closure (λ x b q k. search (rules, tests)))
    in
    omega (arith, tabs, length-filter (λ b. eqb b 9) line, counted line)
