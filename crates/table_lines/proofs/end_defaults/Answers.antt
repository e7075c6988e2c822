-- `end_defaults` keeps the defaults line, or ends the run.
use mathlib.Core.Path.{refl, sym, ap}
use mathlib.Core.List.{◌++◌}
use native.Mathlib.Omega.{arith}
use lib.ListN.{length, drop}
use lib.Seq.{length-take-le}
use Rattle.table_progress.proofs.LinesEnded.{defaults-refused, defaults-taken, defaults-short}
use Rattle.table_lines.proofs.end_defaults.Goals as goal

pub slice_bounds-copy_from_slice-end : goal.slice_bounds-copy_from_slice-end
slice_bounds-copy_from_slice-end c = omega (arith, defaults-short c.args.line.now c.in_default.ensures refl)

pub slice_bounds-copy_from_slice-end-2 : goal.slice_bounds-copy_from_slice-end-2
slice_bounds-copy_from_slice-end-2 c =
    sym (length-take-le (length c.args.line.now) c.args.defaults.now (omega (arith, defaults-short c.args.line.now c.in_default.ensures refl)))

pub copy_from_slice-requires : goal.copy_from_slice-requires
copy_from_slice-requires c =
    length-take-le (length c.args.line.now) c.args.defaults.now (omega (arith, defaults-short c.args.line.now c.in_default.ensures refl))

pub returns-in-Err : goal.returns-in-Err
returns-in-Err c =
    let args = c.args in
    let so =
    defaults-refused args.line.now args.defaults.now args.out.now _ c.in-Err.ensures refl c.ended.ensures c.print_bad_line.ensures in
    record { progress_value = so.0; wrote = so.1.0; defaults_after = so.1.1 }

pub returns : goal.returns
returns c =
    let args = c.args in
    let so =
    defaults-taken args.line.now args.defaults.now args.out.now _ c.in_default.ensures refl
    (ap (λ s. s ++ drop (length args.line.now) args.defaults.now) c.copy_from_slice.ensures.after) in
    record { progress_value = rw c.ended-2.ensures so.0; wrote = so.1.0; defaults_after = so.1.1 }
