-- `shift` answers the trimmed shift of the trimmed input, and how its first element crossed.
use Rattle.std.proofs.Common.{◌∙◌, get_or, w64, Fits, rules}
use mir.ValLaws.{to_z-of_z}
use Rattle.chain.proofs.CrossingLaws.{shift-done}
use Rattle.chain_calls.proofs.shift.Goals as goal

pub returns : goal.returns
returns c =
    let f = c.args.f in
    let given = c.in_ok-words.ensures in
    let crossed = c.crossed-crossing in
    let fits : Fits w64 (get_or c.in_ok-words.words 0 0) = search rules in
    shift-done f.elements f.length (search rules) given.0 given.1 fits.fits c.shift_part.ensures c.accepted-chain.ensures
    (to_z-of_z w64 crossed.result (record { sfits = crossed.type_inv }) ∙ crossed.ensures)
