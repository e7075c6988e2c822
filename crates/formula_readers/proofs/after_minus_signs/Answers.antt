use Rattle.formula_scan.proofs.Readings.{minus_starts, minus_goes_on}
use Rattle.formula_readers.proofs.after_minus_signs.Goals as goal

pub loop-place-init : goal.loop-place-init
loop-place-init c = minus_starts c.args.text.now c.args.at c.requires

pub loop-place-preserved : goal.loop-place-preserved
loop-place-preserved c = minus_goes_on c.args.text.now c.args.at c.loop-place.place c.loop-place.invariant c.if-text-place-ne45.false
