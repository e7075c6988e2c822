-- `trimmed_length` looks at the chain's elements alone.
use Rattle.std.proofs.Common.{◌≡◌, ◌∙◌, ◌+◌, ◌-◌, ◌<◌, ◌≤◌, List, ℕ, length, arith, take, drop, sym, ap, length-take}
use lib.Seq.{take-take}
use Rattle.chain.specs.Chain.{trimmed}
use Rattle.chain.proofs.Trimming.{take-trimmed}
use Rattle.plan.specs.Row.{word_a}
use Rattle.plan.specs.Points.{chain_of}
use Rattle.reason_call.proofs.operands.trimmed_length.Goals as goal

pub returns : goal.returns
returns c =
    let row = c.args.row.now in
    let k = word_a row in
    let unit = c.args.unit in
    let looked : List ℕ = take (3 + k + 1 - 3) (drop 3 row) in
    let count : 3 + k + 1 - 3 ≡ 1 + k = omega arith in
    let same : looked ≡ chain_of row = ap (λ n. take n (drop 3 row)) count ∙ sym (take-take (1 + k) 17 (drop 3 row) (omega arith)) in
    let some : 0 < length looked = omega arith in
    let kept = length (trimmed unit looked) in
    let long : length looked ≤ 17 = omega arith in
    record {
      value = c.trimmed_length.ensures ∙ ap (λ f. length (trimmed unit f) - 1) same;
      upper_bound = omega (arith, c.trimmed_length.ensures, ap length (take-trimmed unit looked some), length-take kept looked, long);
    }
