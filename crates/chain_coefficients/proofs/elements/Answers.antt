use Rattle.std.proofs.Common.{sym, ◌∙◌, arith}
use Rattle.chain.proofs.Rows.{row_store, row-filled}
use Rattle.chain.proofs.CoefficientLaws.{entry_coefficients}
use Rattle.chain_coefficients.proofs.elements.Goals as goal

pub loop-m-preserved : goal.loop-m-preserved
loop-m-preserved c = row_store 17 _ _ (omega arith) c.loop-m.invariant (c.element.ensures ∙ sym (entry_coefficients 64 c.args.a.now c.loop-m.m (omega arith)))

pub returns : goal.returns
returns c = row-filled 17 _ c.loop-m.m c.loop-m.invariant (omega arith)
