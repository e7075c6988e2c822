-- `all_zero` tests each word.
use Rattle.std.proofs.Common.{◌≡◌, ℕ, List, [], ◌∷◌, refl, ap, ◌∙◌, rules, tests}
use Rattle.std.specs.Prelude.{◌&&◌, eqb}
use Rattle.std.specs.List.{list_all}
use Rattle.std.proofs.lemmas.Iterator.{YieldsList-from_slice}
use Rattle.std.proofs.lemmas.Iterator.Search.{all_from_yields_List}
use Rattle.plan.specs.Row.{all_zero}
use Rattle.plan_row_checks.proofs.all_zero.Goals as goal

each_zero : (words : List ℕ) → list_all (λ word. eqb word 0) words ≡ all_zero words
unfolding all_zero
each_zero [] = refl
each_zero (word ∷ words) = ap (λ b. eqb word 0 && b) (each_zero words)

pub returns : goal.returns
returns c =
    let words = c.args.words.now in
    all_from_yields_List (λ word. eqb word 0) _ _ _ c.all.ensures.ran (YieldsList-from_slice words cc) (λ x b q k. search (rules, tests)) ∙ each_zero words
