-- A plan that is not refused costs so little that a budget of all words pays for a whole table; what is printed by it.
use mathlib.Core.Path.{◌≡◌, refl, sym, ap, subst, ◌∙◌}
use mathlib.Core.Bool.{true}
use mathlib.Core.List.{List, ◌++◌, append-nil}
use Prim.Native.Nat.{ℕ, zero, suc, ◌*◌, ◌≤◌}
use native.Mathlib.Nat.{le_trans, mul-le-mul_right, min-eq_left, le-div_iff_mul-le}
use native.Mathlib.Numerals.{add-one}
use native.Mathlib.Omega.{arith}
use lib.ListN.{length}
use lib.Seq.{drop-length}
use Rattle.plan.specs.Measures.{plan_length}
use Rattle.plan.specs.Plan.{row_count, rows_from, first_rows, sound, cost_of, cost, refusal}
use Rattle.plan.specs.Filling.{point_cost, points_for, point_values, filled, fill}
use Rattle.plan.proofs.RowLaws.{cost-next}
use Rattle.plan.proofs.SoundLaws.{sound-count, row_facts}
use Rattle.plan.proofs.Accepting.{accepted, fill-accepted}
use Rattle.table_fields.specs.Writing.{Wrote}
use Rattle.table_fields.proofs.Joining.{wrote_same, joined}
use Rattle.table.specs.Lines.{job_line, point_lines}
use Rattle.table.specs.declared.Tool.{Tool}
use Rattle.table.specs.declared.Tool.TheVariants.{Tables}
use Rattle.table_progress.specs.Printed.{tool_prints, plan_left, table_left, PlanPrinted}

-- ---- "The plan's cost is the sum over its rows", 128 a row at most
no_cost : (p : List ℕ) → cost_of (first_rows 0 p) ≡ 0
unfolding rows_from cost_of
no_cost p = refl

cost_up_to : (p : List ℕ) (r : ℕ) → plan_length ≤ length p → sound p ≡ true → r ≤ row_count p → cost_of (first_rows r p) ≤ 128 * r
cost_up_to p zero long e h = omega (arith, no_cost p)
cost_up_to p (suc r) long e h =
    omega (arith, cost_up_to p r long e (omega arith), (row_facts p r long e h refl).cost, cost-next r p, ap (λ n. cost_of (first_rows n p)) (add-one r))

pub cost-most : (p : List ℕ) → refusal p ≡ 0 → cost p ≤ 16384
cost-most p e =
    let (long, good) = accepted p e in
    omega (arith, cost_up_to p (row_count p) long good (omega arith), sound-count p good)

-- ---- a whole table
module _ (p table : List ℕ) (budget : ℕ) (e : refusal p ≡ 0) (few : length table ≤ 4096) (enough : 4096 * 16385 ≤ budget) where
  every_point : points_for p (length table) budget ≡ length table
  every_point =
      min-eq_left
      ((le-div_iff_mul-le {k = point_cost p} (omega arith)).1
      (le_trans (mul-le-mul_right (point_cost p) few) (omega (arith, cost-most p e))))

  fill-all : fill 64 p table budget ≡ filled 64 (length table) p table
  fill-all = fill-accepted 64 p table budget e ∙ ap (λ n. filled 64 n p table) every_point

  fills-all : (fill 64 p table budget).table ≡ point_values 64 (length table) p
  fills-all =
      ap (λ f. f.table) fill-all
      ∙ ap (λ l. point_values 64 (length table) p ++ l) (drop-length table)
      ∙ append-nil (point_values 64 (length table) p)

  -- The lines of its points, as the code of a plan that is not refused leaves them.
  pub points-printed : {out out' table' plan' : List ℕ} {at r : ℕ} → table' ≡ (fill 64 p table budget).table → plan' ≡ (fill 64 p table budget).plan
      → Wrote out at (point_lines 0 table') r out'
      → Wrote out at (point_lines 0 (point_values 64 (length table) p)) r out'
      × ((plan' ≡ plan_left Tables (length table) p) × (table' ≡ table_left Tables (length table) p table))
  points-printed fills leaves points = (
    wrote_same (ap (λ values. point_lines 0 values) (fills ∙ fills-all)) points,
    (leaves ∙ ap (λ f. f.plan) fill-all, fills ∙ ap (λ f. f.table) fill-all),
  )

-- The `job` line of a plan, and behind it what the tool prints.
module _ {tool : Tool} (n : ℕ) (formula p table : List ℕ) {spent : ℕ} {out between : List ℕ} {at : ℕ} (costs : spent ≡ cost p)
    (line : Wrote out 0 (job_line n (row_count p) spent) at between) {out' p' table' : List ℕ} {r : ℕ} where
  pub plan-printed : {by : Tool} → tool ≡ by → Wrote between at (tool_prints by (length table) formula p) r out'
      → p' ≡ plan_left by (length table) p → table' ≡ table_left by (length table) p table → PlanPrinted tool n formula p table out r p' table' out'
  plan-printed {by} told behind leaves fills =
      subst (λ t. PlanPrinted t n formula p table out r p' table' out') (sym told)
      (record {
        prints = wrote_same (ap (λ k. job_line n (row_count p) k ++ tool_prints by (length table) formula p) costs) (joined (omega arith) line behind);
        leaves = leaves;
        fills = fills;
      })
