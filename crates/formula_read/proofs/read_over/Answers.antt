-- `read_over` judges, and writes only what is accepted.
use mathlib.Core.Path.{refl}
use Rattle.std.specs.Prelude.{Ok}
use Rattle.std.proofs.Common.{rules}
use Rattle.std.proofs.lemmas.Result.{err_from_is_err_and}
use Rattle.formula.specs.Answer.{refused_answer, as_read_answer}
use Rattle.formula.proofs.Refused.{refused-some}
use Rattle.formula_scan.proofs.Deciding.{over-refused, over-accepted}
use Rattle.formula_scan.proofs.Packing.{judged_packs}
use Rattle.formula_read.proofs.read_over.Goals as goal

pub returns-in_err-judged : goal.returns-in_err-judged
returns-in_err-judged c =
    let refusal = c.in_err-judged.field-0.0 in
    let passed = err_from_is_err_and c.from_residual.result c.from_residual.ensures.1 in
    rw (passed.1, passed.2) (over-refused c.args.text.now c.args.tree.now (refused_answer refusal) (search rules) (refused-some refusal))

pub write-requires : goal.write-requires
write-requires c = record { tree_nonzero = c.requires; text_len_bound = judged_packs {w = 64} c.args.text.now (as_read_answer (Ok tt)) (search rules) refl }

pub returns : goal.returns
returns c = over-accepted c.args.text.now c.args.tree.now (as_read_answer (Ok tt)) _ (search rules) refl c.write.ensures
