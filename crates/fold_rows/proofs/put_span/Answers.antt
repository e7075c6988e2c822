-- `put_span` stores the two words behind a row's elements, and leaves every other word.
use mathlib.Core.Path.{ap}
use Prim.Native.Nat.{◌+◌}
use native.Mathlib.Omega.{arith}
use Rattle.plan.specs.Measures.{span_start}
use Rattle.fold_rows.proofs.Stood.{span_stored}
use Rattle.fold_rows.proofs.put_span.Goals as goal

pub returns : goal.returns
returns c =
    let args = c.args in
    span_stored args.plan.now args.r args.first args.end (omega arith) (ap (λ k. k + span_start) c.start-at.ensures)
