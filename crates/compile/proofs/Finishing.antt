-- The node words of a tree finish it; what the next node does with the trees that are finished, and how many nodes are left.
use mathlib.Core.Path.{◌≡◌, refl, sym, subst}
use mathlib.Core.Bool.{cond}
use mathlib.Core.List.{List, [], ◌∷◌, ◌++◌, append-nil, append_assoc}
use Prim.Native.Nat.{ℕ, ◌+◌, ◌*◌, ◌<◌}
use native.Mathlib.Omega.{arith}
use lib.Dec.{eqb}
use lib.ListN.{length}
use Rattle.formula.specs.Tree.{span, Tree, nodes}
use Rattle.formula.specs.Refusals.{Part, itself, sum_left, sum-right, difference-left, difference-right}
use Rattle.formula.specs.Refusals.{product-left, product-right, under-minus, under-power, in_base, in_exponent}
use Rattle.formula_scan.specs.Readers.{spanned, laid_out}
use Rattle.compile.specs.Machine.{Finishes, finished, number, variable, sum, difference, product, minus, power, raise}

-- ---- the words of a whole tree
-- After the node words of u, the tree u is finished.
pub finishes-tree : {t : Tree} {done : List Tree} {words : List ℕ} (u : Tree) → Finishes t (u ∷ done) words → Finishes t done (laid_out spanned u ++ words)
unfolding laid_out
finishes-tree (Tree.number (span first end) place v) h = number place v h
finishes-tree (Tree.variable (span first end)) h = variable h
finishes-tree (Tree.sum (span first end) a b) h = rw (append_assoc, append_assoc) (finishes-tree a (finishes-tree b (sum h)))
finishes-tree (Tree.difference (span first end) a b) h = rw (append_assoc, append_assoc) (finishes-tree a (finishes-tree b (difference h)))
finishes-tree (Tree.product (span first end) a b) h = rw (append_assoc, append_assoc) (finishes-tree a (finishes-tree b (product h)))
finishes-tree (Tree.minus (span first end) a) h = rw append_assoc (finishes-tree a (minus h))
finishes-tree (Tree.literal_power (span first end) a place n) h = rw append_assoc (finishes-tree a (power place n h))
finishes-tree (Tree.raise (span first end) a place b) h = rw (append_assoc, append_assoc) (finishes-tree a (finishes-tree b (raise place h)))

pub finishes-all : (t : Tree) → Finishes t [] (laid_out spanned t)
finishes-all t = rw (sym (append-nil (laid_out spanned t))) (finishes-tree t finished)

-- ---- finished trees are parts of the tree
pub part-part : {u a t : Tree} → Part u a → Part a t → Part u t
part-part h itself = h
part-part h (sum_left k) = sum_left (part-part h k)
part-part h (sum-right k) = sum-right (part-part h k)
part-part h (difference-left k) = difference-left (part-part h k)
part-part h (difference-right k) = difference-right (part-part h k)
part-part h (product-left k) = product-left (part-part h k)
part-part h (product-right k) = product-right (part-part h k)
part-part h (under-minus k) = under-minus (part-part h k)
part-part h (under-power k) = under-power (part-part h k)
part-part h (in_base k) = in_base (part-part h k)
part-part h (in_exponent k) = in_exponent (part-part h k)

unfoldable pub AllParts : Tree → List Tree → Type 0
AllParts t [] = Unit {0}
AllParts t (u ∷ done) = Part u t × AllParts t done

pub finishes-part : {t : Tree} {done : List Tree} {words : List ℕ} → Finishes t done words → AllParts t done
unfolding AllParts
finishes-part finished = (itself, tt)
finishes-part (number place v h) = (finishes-part h).1
finishes-part (variable h) = (finishes-part h).1
finishes-part (sum h) = let k = finishes-part h in (part-part (sum-right itself) k.0, (part-part (sum_left itself) k.0, k.1))
finishes-part (difference h) =
    let k = finishes-part h in
    (part-part (difference-right itself) k.0, (part-part (difference-left itself) k.0, k.1))
finishes-part (product h) = let k = finishes-part h in (part-part (product-right itself) k.0, (part-part (product-left itself) k.0, k.1))
finishes-part (minus h) = let k = finishes-part h in (part-part (under-minus itself) k.0, k.1)
finishes-part (power place n h) = let k = finishes-part h in (part-part (under-power itself) k.0, k.1)
finishes-part (raise place h) = let k = finishes-part h in (part-part (in_exponent itself) k.0, (part-part (in_base itself) k.0, k.1))

pub top_part : {t u : Tree} {done : List Tree} {words : List ℕ} → Finishes t (u ∷ done) words → Part u t
unfolding AllParts
top_part h = (finishes-part h).0

-- ---- the next node
-- What a node of two operands does.
abbrev pub TakesTwo : Tree → (Tree → Tree → Tree) → List Tree → List ℕ → Type 0
TakesTwo t operator done words = (a : Tree) × (b : Tree) × (rest : List Tree) × (done ≡ b ∷ a ∷ rest) × Finishes t (operator a b ∷ rest) words

-- What the node of kind k with the word v and the span from `first` to `end` does.
unfoldable Turn : Tree → List Tree → List ℕ → (v first end k : ℕ) → Type 0
Turn t done words v first end k =
    cond (eqb k 0) ((place : ℕ) × Finishes t (Tree.number (span first end) place v ∷ done) words)
    (cond (eqb k 1) (Finishes t (Tree.variable (span first end) ∷ done) words)
    (cond (eqb k 3) (TakesTwo t (Tree.sum (span first end)) done words)
    (cond (eqb k 4) (TakesTwo t (Tree.difference (span first end)) done words)
    (cond (eqb k 5) (TakesTwo t (Tree.product (span first end)) done words)
    (cond (eqb k 6) ((a : Tree) × (rest : List Tree) × (done ≡ a ∷ rest) × Finishes t (Tree.minus (span first end) a ∷ rest) words)
    (cond (eqb k 7)
    ((place : ℕ) × (a : Tree) × (rest : List Tree) × (done ≡ a ∷ rest) × Finishes t (Tree.literal_power (span first end) a place v ∷ rest) words)
    (cond (eqb k 8)
    ((place : ℕ) × (a : Tree) × (b : Tree) × (rest : List Tree) × (done ≡ b ∷ a ∷ rest) × Finishes t (Tree.raise (span first end) a place b ∷ rest) words)
    ⊥)))))))

turn : {t : Tree} {done : List Tree} {words : List ℕ} {k v first end : ℕ} → Finishes t done (k ∷ v ∷ first ∷ end ∷ words) → Turn t done words v first end k
unfolding Turn
turn (number place v h) = (place, h)
turn (variable h) = h
turn (sum h) = (_, _, _, refl, h)
turn (difference h) = (_, _, _, refl, h)
turn (product h) = (_, _, _, refl, h)
turn (minus h) = (_, _, refl, h)
turn (power place n h) = (place, _, _, refl, h)
turn (raise place h) = (place, _, _, _, refl, h)

module _ {t : Tree} {done : List Tree} {words : List ℕ} {k v first end : ℕ} (h : Finishes t done (k ∷ v ∷ first ∷ end ∷ words)) where
  pub view_number : k ≡ 0 → (place : ℕ) × Finishes t (Tree.number (span first end) place v ∷ done) words
  unfolding Turn
  view_number e = subst (Turn t done words v first end) e (turn h)

  pub view_variable : k ≡ 1 → Finishes t (Tree.variable (span first end) ∷ done) words
  unfolding Turn
  view_variable e = subst (Turn t done words v first end) e (turn h)

  pub view_sum : k ≡ 3 → TakesTwo t (Tree.sum (span first end)) done words
  unfolding Turn
  view_sum e = subst (Turn t done words v first end) e (turn h)

  pub view_difference : k ≡ 4 → TakesTwo t (Tree.difference (span first end)) done words
  unfolding Turn
  view_difference e = subst (Turn t done words v first end) e (turn h)

  pub view_product : k ≡ 5 → TakesTwo t (Tree.product (span first end)) done words
  unfolding Turn
  view_product e = subst (Turn t done words v first end) e (turn h)

  pub view_minus : k ≡ 6 → (a : Tree) × (rest : List Tree) × (done ≡ a ∷ rest) × Finishes t (Tree.minus (span first end) a ∷ rest) words
  unfolding Turn
  view_minus e = subst (Turn t done words v first end) e (turn h)

  pub view_power : k ≡ 7
      → (place : ℕ) × (a : Tree) × (rest : List Tree) × (done ≡ a ∷ rest) × Finishes t (Tree.literal_power (span first end) a place v ∷ rest) words
  unfolding Turn
  view_power e = subst (Turn t done words v first end) e (turn h)

  pub view_raise : k ≡ 8
      → (place : ℕ) × (a : Tree) × (b : Tree) × (rest : List Tree) × (done ≡ b ∷ a ∷ rest) × Finishes t (Tree.raise (span first end) a place b ∷ rest) words
  unfolding Turn
  view_raise e = subst (Turn t done words v first end) e (turn h)

pub node-kind : {t : Tree} {done : List Tree} {words : List ℕ} {k v first end : ℕ} → Finishes t done (k ∷ v ∷ first ∷ end ∷ words) → (k < 9) × (k ≡ 2 → ⊥)
node-kind (number place v h) = (omega arith, λ e. omega (arith, e))
node-kind (variable h) = (omega arith, λ e. omega (arith, e))
node-kind (sum h) = (omega arith, λ e. omega (arith, e))
node-kind (difference h) = (omega arith, λ e. omega (arith, e))
node-kind (product h) = (omega arith, λ e. omega (arith, e))
node-kind (minus h) = (omega arith, λ e. omega (arith, e))
node-kind (power place n h) = (omega arith, λ e. omega (arith, e))
node-kind (raise place h) = (omega arith, λ e. omega (arith, e))

-- ---- how many nodes are left
unfoldable pub sum_nodes : List Tree → ℕ
sum_nodes [] = 0
sum_nodes (u ∷ done) = nodes u + sum_nodes done

-- Four words for each node that is not yet read.
pub nodes-left : {t : Tree} {done : List Tree} {words : List ℕ} → Finishes t done words → 4 * sum_nodes done + length words ≡ 4 * nodes t
unfolding sum_nodes nodes
nodes-left finished = omega arith
nodes-left (number place v h) = omega (arith, nodes-left h)
nodes-left (variable h) = omega (arith, nodes-left h)
nodes-left (sum h) = omega (arith, nodes-left h)
nodes-left (difference h) = omega (arith, nodes-left h)
nodes-left (product h) = omega (arith, nodes-left h)
nodes-left (minus h) = omega (arith, nodes-left h)
nodes-left (power place n h) = omega (arith, nodes-left h)
nodes-left (raise place h) = omega (arith, nodes-left h)

-- When no words are left, the tree is the one that stands.
pub none_left : {t : Tree} {done : List Tree} → Finishes t done [] → done ≡ t ∷ []
none_left finished = refl
