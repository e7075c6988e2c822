use Rattle.std.proofs.Common.{sym, refl, ◌∙◌, arith}
use Rattle.plan.specs.Plan.{rows_from, sound_from}
use Rattle.plan.proofs.SoundLaws.{sound-next, sound-not}
use Rattle.plan_sound.proofs.rows_are_sound.Goals as goal

pub loop-r-init : goal.loop-r-init
unfolding rows_from sound_from
loop-r-init c = (omega arith, refl)

pub returns-then-not-row_is_sound : goal.returns-then-not-row_is_sound
returns-then-not-row_is_sound c =
    sym (sound-not c.args.plan.now c.loop-r.r c.args.count (omega arith) (sym c.row_is_sound.ensures ∙ c.if-not-row_is_sound.true))

pub loop-r-preserved : goal.loop-r-preserved
loop-r-preserved c = (omega arith, sound-next c.args.plan.now c.loop-r.r c.loop-r.invariant.1 (sym c.row_is_sound.ensures ∙ c.if-not-row_is_sound.false))
