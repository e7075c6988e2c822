-- `put_constant` writes the row of a constant.
use Rattle.fold_operands.proofs.Leaving.{constant-put}
use Rattle.fold_operands.proofs.put_constant.Goals as goal

pub returns : goal.returns
returns c =
    let args = c.args in
    constant-put args.plan.now args.r args.c c.zeros-e.ensures c.write.ensures
