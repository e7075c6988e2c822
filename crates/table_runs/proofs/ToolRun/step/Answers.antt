-- A step writes no more than the rear of the output buffer holds.
use mathlib.Core.Path.{refl}
use native.Mathlib.Omega.{arith}
use Rattle.table_progress.proofs.OutRoom.{step-within}
use Rattle.table_runs.proofs.ToolRun.step.Goals as goal

pub overflow_add-self : goal.overflow_add-self
overflow_add-self c =
    let within = step-within c.args.self.now.tool c.args.self.now.progress c.in_ok-stepped.ensures in
    omega (arith, within.wrote, c.step.auto.out)

pub invariant_of-self-2 : goal.invariant_of-self-2
invariant_of-self-2 c =
    let within = step-within c.args.self.now.tool c.args.self.now.progress c.in_ok-stepped.ensures in
    omega (arith, within.wrote, c.step.auto.out)

pub returns-clause-used_in_bounds : goal.returns-clause-used_in_bounds
returns-clause-used_in_bounds c = (step-within c.args.self.now.tool c.args.self.now.progress c.in_ok-stepped.ensures).used

pub returns-clause-moves : goal.returns-clause-moves
returns-clause-moves c = (step-within c.args.self.now.tool c.args.self.now.progress c.in_ok-stepped.ensures).moves refl
