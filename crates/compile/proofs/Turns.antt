-- All nodes folded one after the other: what holds after n of them, at the beginning, from one to the next, and at the end.
use mathlib.Core.Path.{◌≡◌, refl, sym, ap, subst, ◌∙◌}
use mathlib.Core.List.{List, [], ◌∷◌}
use Prim.Native.Nat.{ℕ, ◌+◌, ◌-◌, ◌*◌, ◌≤◌, ◌<◌}
use native.Mathlib.Nat.{add-zero, suc-ne-zero}
use native.Mathlib.Omega.{arith}
use lib.ListN.{length, get_or, take, drop, replicate}
use lib.Seq.{drop-drop, take-take, take_at, get_or-drop, get_or-take}
use Rattle.plan.specs.Measures.{plan_length}
use Rattle.plan.proofs.RowLaws.{drop-take}
use Rattle.formula.specs.Tree.{Tree, nodes}
use Rattle.formula_scan.specs.Readers.{spanned, spanned_length, laid_out, spanned_tree}
use Rattle.formula_scan.proofs.Written.{spanned-length}
use Rattle.compile.specs.Machine.{Finishes, Stack, Compilable, Working, node_at, AtPlace, FoldsPlace, Written, FoldedAt, nodes_start, tree_start}
use Rattle.compile.proofs.Finishing.{finishes-all, nodes-left, none_left}
use Rattle.compile.proofs.Stacking.{stack_rows, stack_done}

-- After n nodes: the node words left stand in the plan from word 2305 + 4n on.
pub record Turn (t : Tree) (start step : ℕ) (p₀ p : List ℕ) (end n : ℕ) : Type 0 where
  pub words : List ℕ
  pub work : Working t start step p end words
  pub left : take (length words) (drop (nodes_start + 4 * n) p) ≡ words
  pub size : length words + 4 * n ≡ 4 * nodes t
  pub behind : drop plan_length p ≡ drop plan_length p₀

-- ---- at the beginning
pub counted : (p : List ℕ) (t : Tree) → Written p t → get_or p tree_start 0 ≡ nodes t
counted p t e = sym (get_or-drop tree_start p 0 0) ∙ sym (get_or-take spanned_tree (drop tree_start p) 0 0 (omega arith)) ∙ ap (λ l. get_or l 0 0) e

module _ (start step : ℕ) (t : Tree) (comp : Compilable start step t) where
  node-count : length (laid_out spanned t) ≤ spanned_length
  node-count = omega (arith, spanned-length t, comp.few)

  pub turn_first : (p : List ℕ) → Written p t → Turn t start step p p 0 0
  unfolding Stack
  turn_first p e = record {
    words = laid_out spanned t;
    work = record { done = []; stands = refl; finishes = finishes-all t };
    left =
        sym (take-take (length (laid_out spanned t)) spanned_length (drop nodes_start p) node-count)
        ∙ ap (λ l. take (length (laid_out spanned t)) (take spanned_length l)) (sym (drop-drop 1 tree_start p))
        ∙ ap (take (length (laid_out spanned t))) (sym (drop-take 1 spanned_length (drop tree_start p)) ∙ ap (λ l. drop 1 l) e)
        ∙ take_at (laid_out spanned t) (replicate (spanned_length - length (laid_out spanned t)) 0) (length (laid_out spanned t)) refl;
    size = omega (arith, spanned-length t);
    behind = refl;
  }

  -- ---- from one node to the next
  four_words : (f p : List ℕ) (at : ℕ) → take (length f) (drop at p) ≡ f → 4 ≤ length f → (more : List ℕ) × (f ≡ node_at p at more)
  four_words [] p at e h = absurd (omega arith)
  four_words (x ∷ []) p at e h = absurd (omega arith)
  four_words (x ∷ y ∷ []) p at e h = absurd (omega arith)
  four_words (x ∷ y ∷ z ∷ []) p at e h = absurd (omega arith)
  four_words (x ∷ y ∷ z ∷ w ∷ more) p at e h = (more, λ i. first i ∷ read 1 (omega arith) i ∷ read 2 (omega arith) i ∷ read 3 (omega arith) i ∷ more)
    where
      read : (k : ℕ) → k < 4 → get_or (x ∷ y ∷ z ∷ w ∷ more) k 0 ≡ get_or p (at + k) 0
      read k few = ap (λ f. get_or f k 0) (sym e) ∙ get_or-take (length (x ∷ y ∷ z ∷ w ∷ more)) (drop at p) k 0 (omega arith) ∙ get_or-drop at p k 0

      first : x ≡ get_or p at 0
      first = read 0 (omega arith) ∙ ap (λ k. get_or p k 0) (add-zero at)

  module _ {p₀ p : List ℕ} {end n : ℕ} (turn : Turn t start step p₀ p end n) where
    -- No more rows stand than nodes are read.
    pub rows-read : end ≤ n
    rows-read =
        omega (arith, stack_rows start step p turn.work.done end turn.work.stands, nodes-left turn.work.finishes, turn.size)

    module _ (some : n < nodes t) where
      seen : (more : List ℕ) × (turn.words ≡ node_at p (nodes_start + 4 * n) more)
      seen = four_words turn.words p (nodes_start + 4 * n) turn.left (omega (arith, turn.size))

      at_work : Working t start step p end (node_at p (nodes_start + 4 * n) seen.0)
      at_work = subst (Working t start step p end) seen.1 turn.work

      pub turn_node : AtPlace start step p end (nodes_start + 4 * n)
      turn_node = (t, seen.0, comp, at_work)

      pub turn_next : {q : List ℕ} {end' : ℕ} → FoldsPlace start step p end (nodes_start + 4 * n) q end' → Turn t start step p₀ q end' (n + 1)
      turn_next folds =
          let done = folds t seen.0 comp at_work in
          record {
            words = seen.0;
            work = done.0;
            left =
                ap (take (length seen.0)) (done.1 (nodes_start + 4 * (n + 1)) (omega (arith, rows-read, comp.few)) ∙ later)
                ∙ sym (drop-take 4 (length seen.0) (drop (nodes_start + 4 * n) p))
                ∙ ap (λ k. drop 4 (take k (drop (nodes_start + 4 * n) p))) (sym long)
                ∙ ap (λ l. drop 4 l) (turn.left ∙ seen.1);
            size = omega (arith, turn.size, long);
            behind = done.1 plan_length (omega (arith, rows-read, comp.few)) ∙ turn.behind;
          }
        where
          long : length turn.words ≡ 4 + length seen.0
          long = omega (arith, ap length seen.1)

          further : nodes_start + 4 * (n + 1) ≡ nodes_start + 4 * n + 4
          further = omega arith

          later : drop (nodes_start + 4 * (n + 1)) p ≡ drop 4 (drop (nodes_start + 4 * n) p)
          later = ap (λ k. drop k p) further ∙ sym (drop-drop 4 (nodes_start + 4 * n) p)

    -- ---- at the end
    pub turn_done : n ≡ nodes t → FoldedAt start step p₀ t p end
    turn_done all =
        let found = stack_done start step p t end (subst (λ done. Stack start step p done end) one turn.work.stands) in
        record { rows = found.1; few = omega (arith, rows-read, comp.few); stands = found.0; behind = turn.behind }
      where
        nothing : (f : List ℕ) → length f ≡ 0 → f ≡ []
        nothing [] e = refl
        nothing (a ∷ f) e = absurd (suc-ne-zero (length f) e)

        one : turn.work.done ≡ t ∷ []
        one = none_left (subst (Finishes t turn.work.done) (nothing turn.words (omega (arith, turn.size))) turn.work.finishes)
