use mathlib.Core.Path.{◌∙◌, ap, refl, sym}
use Prim.Native.Nat.{◌-◌}
use native.Mathlib.Omega.{arith}
use native.Mathlib.Nat.{sub_self}
use Rattle.formula.specs.Tree.{span}
use Rattle.formula_scan.specs.Fields.{as_parsed}
use Rattle.formula_scan.specs.Readers.{put, wrote_minus}
use Rattle.formula_scan.proofs.Readings.{negated_starts, negated_goes_on, minus-put}
use Rattle.formula_nodes.proofs.negated.Goals as goal

pub loop-place-init : goal.loop-place-init
unfolding wrote_minus
loop-place-init c =
    let power = c.args.power in
    record {
      within = c.requires.at_le_first;
      counted = negated_starts (as_parsed power) _ (sub_self c.args.first) refl;
      put = ap (λ k. wrote_minus k c.args.first power.at power.nodes c.args.tree.now) (sym (sub_self c.args.first));
      same_length = refl;
    }

pub loop-place-preserved : goal.loop-place-preserved
loop-place-preserved c =
    let power = as_parsed c.args.power in
    let so = c.loop-place in
    let negative = as_parsed so.negative in
    let noted = c.noted-negative in
    record {
      within = omega (arith, c.loop-place-test.true);
      counted = negated_goes_on power negative (as_parsed noted.result) (c.args.first - so.place) _ (omega (arith, c.loop-place-test.true, so.auto.place)) so.invariant.counted noted.ensures.value;
      put = minus-put power negative c.args.first so.place _ _ _ so.auto.place (omega (arith, c.loop-place-test.true)) so.invariant.counted so.invariant.put
          (noted.ensures.tree_after ∙ ap (λ kind. put so.tree negative.nodes kind 0 (span (so.place - 1) negative.at)) c.from.ensures);
      same_length = noted.auto.tree ∙ so.invariant.same_length;
    }
