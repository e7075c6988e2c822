-- The closed inputs of specs/Examples.antt, decided by one computation: each prints what the table says, however it is cut.
use mathlib.Core.Path.{◌≡◌, refl, sym, ap₂, subst, ◌∙◌}
use mathlib.Core.List.{List, ◌∷◌, map}
use Prim.Native.Nat.{ℕ}
use lib.ListN.{get_or, get_or-map}
use Rattle.formula.specs.Bytes.{digits_from}
use Rattle.formula.specs.Refusals.{count}
use Rattle.formula.specs.Tree.{Tree}
use Rattle.formula_scan.proofs.Closed.{judges}
use Rattle.chain.specs.Chain as Chain
use Rattle.chain.specs.SumChain as SumChain
use Rattle.plan.specs.Plan as Plan
use Rattle.plan.specs.Row.{kind_facts}
use Rattle.plan.specs.Points.{values_from, root_value, shifted_row, shifted_from, shifted_plan}
use Rattle.plan.specs.Filling.{point_values}
use Rattle.fold.specs.Folded.{Folded}
use Rattle.fold.specs.Folding.{fold_sum, fold_minus, fold_difference, fold_product, fold_power, fold_raise, fold}
use Rattle.fold.specs.Layout as Layout
use Rattle.fold.proofs.Origins.{kind_of}
use Rattle.reason.specs.RowTrees.{operator_over, tree_over, trees}
use Rattle.reason.specs.Wording.{reason_text}
use Rattle.reason.proofs.Numbers.{reason_of}
use Rattle.table.specs.Decimal.{last_digits}
use Rattle.table.specs.NumberField.{all_digits, is_number, number_up_to}
use Rattle.table.specs.declared.Tool.{Tool}
use Rattle.table.specs.Parts.{in_first, lines, before, after, after_tabs}
use Rattle.table.specs.Judged.{JobLine, same_bytes, judged_defaults, judged_job}
use Rattle.table.specs.Lines.{point_lines}
use Rattle.table.specs.Run.{RunPrints}
use Rattle.table_progress.specs.Printed.{rows_print, verdict_prints, judged_prints, job_prints}
use Rattle.table_progress.specs.Run.{line_prints, after_line, end_prints, lines_print, run}
use Rattle.table_progress.specs.Steps.{started}
use Rattle.table_progress.specs.Examples.{Example, paper, examples}
use Rattle.table_progress.proofs.Adding.{adds_up}
use Rattle.table_progress.proofs.RunPrints.{run-prints}
use Rattle.table_progress.specs.Runs.{Runs}

-- ---- unfolded all the way
-- A product of chains, a folded tree, a plan's cost and points, what is judged of a job line, and what a job prints.
unfoldable pub multiplies : List ℕ → ℕ → List ℕ
unfolding Chain.shift Chain.joined SumChain.times SumChain.product_by SumChain.power
multiplies f n = SumChain.power f n

unfoldable pub folds : ℕ → ℕ → Tree → Folded
unfolding multiplies Chain.with_last Chain.without_trailing Chain.trimmed fold_sum fold_minus fold_difference fold_product fold_power fold_raise fold
folds start step t = fold 64 start step t

unfoldable pub fills : ℕ → List ℕ → List ℕ
unfolding Chain.shift Plan.rows_from Plan.cost_of kind_facts values_from root_value shifted_row shifted_from shifted_plan point_values
fills points p = Plan.cost p ∷ point_values 64 points p

unfoldable pub judges_line : List ℕ → List ℕ → JobLine
unfolding digits_from count all_digits is_number number_up_to before after after_tabs judged_job
judges_line l defaults = judged_job l defaults

unfoldable pub decides : Folded → ℕ
unfolding reason_of
decides t = reason_of t

unfoldable pub explains : List ℕ → List ℕ → ℕ → List ℕ
unfolding Chain.trimmed Chain.without_trailing trees tree_over operator_over kind_of decides reason_text rows_print
explains formula p r = rows_print formula p r

unfoldable pub prints : Tool → ℕ → List ℕ → List ℕ → List ℕ
unfolding judges folds Chain.row Layout.row_count Layout.rows_from Layout.words_of fills explains judges_line last_digits point_lines verdict_prints judged_prints
prints tool n l defaults = job_prints tool n l defaults

-- What an input prints: name it on the `unfolding` line, and `refl` decides.
unfoldable pub printed : Tool → List ℕ → List ℕ
unfolding prints in_first lines same_bytes judged_defaults line_prints after_line end_prints lines_print
printed tool input = run tool input

-- ---- the table
-- One computed test over the whole table, and what it says of each line.
test : map (λ (e : Example). run e.tool e.input) examples ≡ map (λ (e : Example). e.output) examples
unfolding printed
test = refl

paper-printed : run paper.tool paper.input ≡ paper.output
unfolding printed
paper-printed = refl

-- A place past the table's end gives the paper's example again.
pub example-printed : (i : ℕ) → run (get_or examples i paper).tool (get_or examples i paper).input ≡ (get_or examples i paper).output
example-printed i =
    sym (get_or-map (λ (e : Example). run e.tool e.input) examples i paper)
    ∙ ap₂ (λ l e. get_or l i e) test paper-printed
    ∙ get_or-map (λ (e : Example). e.output) examples i paper

-- So does every run over it, however it is cut.
pub example_runs : (i : ℕ) {line defaults output : List ℕ} → Runs (get_or examples i paper).tool started line defaults (get_or examples i paper).input output
    → output ≡ (get_or examples i paper).output
example_runs i runs = adds_up runs ∙ example-printed i

-- And it is what `RunPrints` says of the input.
pub example_said : (i : ℕ) → RunPrints (get_or examples i paper).tool (get_or examples i paper).input (get_or examples i paper).output
example_said i =
    let e = get_or examples i paper in subst (RunPrints e.tool e.input) (example-printed i) (run-prints e.tool e.input)
