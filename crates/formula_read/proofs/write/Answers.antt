-- `write` leaves the words of an accepted text's tree over all lent words.
use Prim.Native.Nat.{suc, ◌-◌}
use mathlib.Core.Path.{◌≡◌, ◌∙◌, ap, refl}
use native.Mathlib.Omega.{arith}
use lib.ListN.{length, replicate}
use Rattle.formula_scan.specs.Fields.{as_parsed}
use Rattle.formula_scan.specs.Readers.{over_words}
use Rattle.formula_scan.proofs.Deciding.{over-written}
use Rattle.formula_cursor.proofs.Wholes.{formula_read, never_lost}
use Rattle.formula_read.proofs.write.Goals as goal

pub returns-in-Ok : goal.returns-in-Ok
returns-in-Ok c = let size : length c.args.tree.now ≡ suc (length c.clear.new.words - 1) = omega (arith, c.requires.tree_nonzero, c.clear.auto.words) in λ t acc. over-written c.args.text.now c.clear.new.words c.read_whole.new.tree (length c.clear.new.words - 1) (as_parsed c.in-Ok.whole) t ((c.clear.ensures) ∙ ap (λ n. replicate n 0) size) (formula_read c.in-Ok.ensures acc.means) acc ∙ ap (λ n. over_words n t) c.clear.auto.words

pub returns-in_default : goal.returns-in_default
returns-in_default c = λ t acc. absurd (never_lost c.in_default.ensures acc.means refl)
