-- The end of the input writes no more than the output buffer holds.
use native.Mathlib.Omega.{arith}
use Rattle.table_progress.proofs.OutRoom.{end-within}
use Rattle.table_runs.proofs.ToolRun.end.Goals as goal

pub shared_ref_as_front-write : goal.shared_ref_as_front-write
shared_ref_as_front-write g c =
    let within = end-within c.args.self.now.tool c.args.self.now.progress c.in-Ok.ensures in
    omega (arith, within.wrote)
