-- `compile` refuses, or folds the tree that it reads into the end of the plan.
use Rattle.std.proofs.Common.{refl, rules}
use Rattle.std.proofs.lemmas.Result.{err_from_is_err_and}
use Rattle.formula.proofs.Refused.{refused-some}
use Rattle.fold.specs.Compiling.{too_short}
use Rattle.compile.proofs.Assembled.{accepted_compilable, read-refused, read-accepted, read_compiled}
use Rattle.compile.proofs.compile.Goals as goal

pub fold_tree-requires : goal.fold_tree-requires
fold_tree-requires c =
    let own = c.in-Some.ensures.cases in
    let found = read-accepted c.args.text.now c.args.plan.now own.enough own.same {r = record { number = 0; place = 0 }} (search rules) refl in
    (found.0, accepted_compilable _ _ found.1, found.2)

pub returns-in_default : goal.returns-in_default
returns-in_default c = too_short c.in_default.ensures.cases

pub returns-in_err-read_spanned : goal.returns-in_err-read_spanned
returns-in_err-read_spanned c =
    let own = c.in-Some.ensures.cases in
    let exit = err_from_is_err_and c.from_residual.result c.from_residual.ensures.1 in
    rw (exit.1, exit.2)
    (read-refused c.args.text.now c.args.plan.now own.enough own.same _ _ c.in_err-read_spanned.ensures (refused-some _))

pub returns : goal.returns
returns c =
    let own = c.in-Some.ensures.cases in
    read_compiled c.args.text.now c.args.plan.now own.enough own.same _ _ c.in_ok-read_spanned.ensures refl c.fold_tree.ensures
