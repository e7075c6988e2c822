use Rattle.std.proofs.Common.{ℕ, ◌∙◌, arith}
use Rattle.word.specs.Word as Word
use Rattle.chain_values.proofs.Passing.{done_none, done_all, done_turn}
use Rattle.chain_values.proofs.raise.Goals as goal

abbrev to : ℕ → ℕ → ℕ
to n a = Word.power 64 a n

pub loop-a-init : goal.loop-a-init
loop-a-init c = let args = c.args in done_none (to args.n) args.f.now

pub loop-a-preserved : goal.loop-a-preserved
loop-a-preserved c =
    let turn = c.loop-a in
    let args = c.args in
    done_turn (to args.n) turn.a-index args.f.now (omega arith) turn.invariant c.power.ensures

pub returns : goal.returns
returns c =
    let turn = c.loop-a in
    let args = c.args in
    turn.invariant ∙ done_all (to args.n) turn.a-index args.f.now (omega arith)
