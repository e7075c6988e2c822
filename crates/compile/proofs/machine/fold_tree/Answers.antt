-- `fold_tree` writes word 0 and zeros behind the rows.
use native.Mathlib.Omega.{arith}
use Rattle.compile.proofs.Assembled.{assembled}
use Rattle.compile.proofs.machine.fold_tree.Goals as goal

pub start-behind-requires : goal.start-behind-requires
start-behind-requires c =
    let tree = c.requires in
    (c.fold_nodes-rows.ensures tree.0 tree.1 tree.2).few

pub returns : goal.returns
returns c =
    let args = c.args in
    let done = c.fold_nodes-rows in
    λ t comp w. assembled args.grid.start args.grid.step args.plan.now done.new.plan t done.result
    (omega arith) (omega arith)
    (done.ensures t comp w) c.start-behind.ensures (c.fill.ensures.after (λ y same. same))
