-- `crossed` tells the four ways of two words apart: whether they add past the largest word, and whether the second reads as a number below 0.
use Rattle.std.proofs.Common.{sym, arith}
use Rattle.chain.proofs.CrossingLaws.{crosses_up, stays_low, crosses_down, stays_high}
use Rattle.chain_arrays.proofs.crossed.Goals as goal

pub returns-then-room-b : goal.returns-then-room-b
returns-then-room-b c =
    sym (crosses_up 64 c.args.a c.args.b c.ranges.a.fits c.ranges.b.fits (omega arith) (omega arith))

pub returns-then-b-lt-NEGATIVE : goal.returns-then-b-lt-NEGATIVE
returns-then-b-lt-NEGATIVE c =
    sym (stays_low 64 c.args.a c.args.b c.ranges.a.fits c.ranges.b.fits (omega arith) (omega arith))

pub returns-then-room-b-2 : goal.returns-then-room-b-2
returns-then-room-b-2 c =
    sym (stays_high 64 c.args.a c.args.b c.ranges.a.fits c.ranges.b.fits (omega arith) (omega arith))

pub returns : goal.returns
returns c =
    sym (crosses_down 64 c.args.a c.args.b c.ranges.a.fits c.ranges.b.fits (omega arith) (omega arith))
