-- `fold_place` folds the node at a place of the plan and puts its span on the root row of its tree.
use Rattle.std.proofs.Common.{◌≡◌, get_or, arith, rules}
use Rattle.formula.specs.Words.{kind_number}
use Rattle.compile.proofs.NodeKinds.{next_kind}
use Rattle.compile.proofs.Nodes.{root_row, spanned}
use Rattle.compile.proofs.machine.fold_place.Goals as goal

pub overflow_sub-root : goal.overflow_sub-root
overflow_sub-root c =
    let (t, words, comp, work) = c.requires.at_place in
    let told : kind_number c.unwrap-kind.result ≡ get_or c.args.plan.now c.args.at 0 = search rules in
    let grown = c.fold_node-behind.ensures t words _ _ comp (next_kind told work) in
    omega (arith, (root_row _ _ _ _ (omega arith) grown).0)

pub put_span-requires : goal.put_span-requires
put_span-requires c =
    let (t, words, comp, work) = c.requires.at_place in
    let told : kind_number c.unwrap-kind.result ≡ get_or c.args.plan.now c.args.at 0 = search rules in
    let grown = c.fold_node-behind.ensures t words _ _ comp (next_kind told work) in
    let rows = root_row _ _ _ _ (omega arith) grown in
    omega (arith, rows.0, rows.1, grown.few)

pub returns : goal.returns
returns c =
    let told : kind_number c.unwrap-kind.result ≡ get_or c.args.plan.now c.args.at 0 = search rules in
    λ t words comp work.
    spanned _ _ _ _ (omega arith) (c.fold_node-behind.ensures t words _ _ comp (next_kind told work)) comp c.put_span.ensures
