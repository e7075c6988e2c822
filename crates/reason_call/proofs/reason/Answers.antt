-- `reason` passes the refusal on, answers nothing for a row that is not counted, and else the row's reason and span.
use Rattle.std.proofs.Common.{◌≡◌, rules, ap, arith, Err}
use Rattle.plan.specs.Answers.{SoundAnswer}
use Rattle.plan.specs.Row.{Row, first_byte, end_byte}
use Rattle.plan.proofs.Accepting.{accepted, found_sound}
use Rattle.plan.proofs.Decoding.{refused-some}
use Rattle.plan.proofs.SoundLaws.{sound-count}
use Rattle.reason.specs.Explaining.{not-counted}
use Rattle.reason.proofs.Answers.{answer-refused, answer-counted}
use Rattle.reason_call.proofs.reason.Goals as goal

pub returns-in_err-sound : goal.returns-in_err-sound
returns-in_err-sound c =
    let refusal = c.in_err-sound.field-0.0 in
    let same : c.from_residual.result ≡ Err refusal = search rules in
    rw same
    (answer-refused 64 c.args.plan.now c.args.r (ap (λ (x : SoundAnswer). x.number) c.in_err-sound.ensures) (refused-some refusal))

pub returns-then-plan-r : goal.returns-then-plan-r
returns-then-plan-r c = not-counted (found_sound c.args.plan.now c.in_ok-sound.ensures) c.if-plan-r.true

pub row-words-requires-clause-r_lt_most_rows : goal.row-words-requires-clause-r_lt_most_rows
row-words-requires-clause-r_lt_most_rows c =
    let plan = c.args.plan.now in
    let good = accepted plan (found_sound plan c.in_ok-sound.ensures) in
    omega (arith, sound-count plan good.1)

pub returns : goal.returns
returns c =
    let plan = c.args.plan.now in
    let words = c.row-words.ensures.result_value in
    answer-counted 64 plan c.args.r (found_sound plan c.in_ok-sound.ensures) (omega arith) c.row_reason.ensures
    (ap (λ (x : Row). first_byte x) words) (ap (λ (x : Row). end_byte x) words)
