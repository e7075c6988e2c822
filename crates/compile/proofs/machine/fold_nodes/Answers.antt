use native.Mathlib.Omega.{arith}
use Rattle.compile.proofs.Turns.{counted, turn_first, turn_node, turn_next, turn_done}
use Rattle.compile.proofs.machine.fold_nodes.Goals as goal

pub loop-n-init : goal.loop-n-init
loop-n-init c =
    let plan = c.args.plan.now in
    let tree = c.requires in
    (omega (arith, counted plan tree.0 tree.2, tree.1.few), λ t comp w. turn_first _ _ t comp plan w)

pub fold_place-end-requires : goal.fold_place-end-requires
fold_place-end-requires c =
    let tree = c.requires in
    let inv = c.loop-n.invariant in record {
      at_bound = omega (arith, inv.0);
      at_place = turn_node _ _ tree.0 tree.1 (inv.1 tree.0 tree.1 tree.2) (omega (arith, counted c.args.plan.now tree.0 tree.2));
    }

pub loop-n-preserved : goal.loop-n-preserved
loop-n-preserved c =
    let inv = c.loop-n.invariant in (
      inv.0,
      λ t comp w. turn_next _ _ t comp (inv.1 t comp w) (omega (arith, counted c.args.plan.now t w)) c.fold_place-end.ensures,
    )

pub returns : goal.returns
returns c =
    λ t comp w. turn_done _ _ t comp (c.loop-n.invariant.1 t comp w) (omega (arith, counted c.args.plan.now t w))
