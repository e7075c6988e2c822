-- `field` takes one of the parts that tabs cut the line into.
use Rattle.std.proofs.Common.{rules, tests, refl}
use Rattle.std.proofs.lemmas.Iterator.Consumers.{nth_from_yields_List}
use Rattle.std.proofs.lemmas.Iterator.Splits.{YieldsList-from_slice_split}
use lib.Dec.{eqb}
use Rattle.table_fields.proofs.Finding.{field_found}
use Rattle.table_fields.proofs.fields.field.Goals as goal

pub returns : goal.returns
returns c =
    let cut = c.split.ensures in
    rw c.unwrap_or.ensures
    (field_found c.args.line.now c.args.n _ _ refl
    (nth_from_yields_List _ _ _ c.nth.ensures.ran
    (YieldsList-from_slice_split _ (λ b. eqb b 9) c.args.line.now cut.rest cut.done cut.closure (λ x b q k. search (rules, tests)))))
