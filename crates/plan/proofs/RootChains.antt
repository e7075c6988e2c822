-- The root of a plan as a chain, before and after a shift, and the words that the code reads of it.
use mathlib.Core.Path.{◌≡◌, refl, sym, ap, ap₂, subst, ◌∙◌}
use mathlib.Core.Bool.{Bool, true, false, cond, false≢true}
use mathlib.Core.List.{List, [], ◌∷◌}
use Prim.Native.Nat.{ℕ, zero, suc, ◌+◌, ◌-◌, ◌*◌, ◌^◌, ◌≤◌, ◌<◌}
use native.Mathlib.Nat.{mod-lt, mod-eq_of_lt}
use native.Mathlib.Omega.{arith}
use borrow.Author.Tests.{eqb-true, eq-eqb, ne_eqb}
use lib.Dec.{eqb}
use lib.IntN.{pos}
use lib.ListN.{get_or, take, drop}
use lib.Pow.{pow_pos}
use lib.Seq.{get_or-take, get_or-drop}
use Rattle.word.specs.Signed.{signed}
use Rattle.chain.specs.Chain.{value, rest, words, shift}
use Rattle.chain.specs.SumChain.{sum_shift}
use Rattle.chain.specs.Crossing.{crossed_by, crossing}
use Rattle.chain.proofs.Rows.{entry_words, entry_value, entry_rest}
use Rattle.chain.proofs.CrossingLaws.{crossing-first}
use Rattle.plan.specs.Measures.{elements_start, element_count, row_length}
use Rattle.plan.specs.Row.{Row, kind, word_a, elements, first_element, is_chain}
use Rattle.plan.specs.Plan.{row_count, row, sound}
use Rattle.plan.specs.Points.{chain_of, shifted_row, shifted_plan}
use Rattle.plan.specs.Eras.{root_row, as_chain, root_chain, constant_or_sum, AreWords}
use Rattle.plan.proofs.RowLaws.{row_at}
use Rattle.plan.proofs.SoundLaws.{sound-count, sound_keeps, kept_some}
use Rattle.plan.proofs.Keeping.{kind-shifted, chain-shifted, shifted_other, count-shifted, row-shifted}

-- ---- the root after a shift
pub root_shifted : (w : ℕ) (p : List ℕ) → sound p ≡ true → root_row (shifted_plan w p) ≡ shifted_row w (root_row p)
root_shifted w p e =
    ap (λ n. row (shifted_plan w p) (n - 1)) (count-shifted w p) ∙ row-shifted w p (row_count p - 1) (omega (arith, sound-count p e))

pub root_kind : (w : ℕ) (p : List ℕ) → sound p ≡ true → kind (root_row (shifted_plan w p)) ≡ kind (root_row p)
root_kind w p e = ap (λ x. kind x) (root_shifted w p e) ∙ kind-shifted w (root_row p)

-- A sum chain's row has its chain shifted, and a constant stays; its element is a word.
pub as_chain-shifted : (w : ℕ) (x : Row) → constant_or_sum x ≡ true → ((i : ℕ) → get_or (as_chain x) i 0 < 2 ^ w)
    → as_chain (shifted_row w x) ≡ words w (sum_shift (as_chain x))
unfolding shift
as_chain-shifted w x told fits = go (eqb (kind x) 1) refl
  where
    go : (b : Bool) → eqb (kind x) 1 ≡ b → as_chain (shifted_row w x) ≡ words w (sum_shift (as_chain x))
    go true e =
        rw (kind-shifted w x, e) (chain-shifted w x (eqb-true (kind x) 1 e))
    go false e =
        rw (shifted_other w x (stays (eqb (kind x) 0) refl (eqb (kind x) 1) refl), e) (ap (λ a. a ∷ []) (sym (mod-eq_of_lt (rw e at (fits 0)))))
      where
        stays : (c : Bool) → eqb (kind x) 0 ≡ c → (b : Bool) → eqb (kind x) 1 ≡ b → is_chain (kind x) ≡ false
        stays true z b u = ap (λ k. is_chain k) (eqb-true (kind x) 0 z)
        stays false z true u = absurd (false≢true (sym e ∙ u))
        stays false z false u = absurd (false≢true (sym (rw (z, u)) ∙ told))

-- ---- the words of a row that is a chain
entry_chain : (x : Row) (i : ℕ) → i < 1 + word_a x → i < element_count → get_or (chain_of x) i 0 ≡ get_or x (elements_start + i) 0
entry_chain x i h k =
    get_or-take (1 + word_a x) (elements x) i 0 h ∙ get_or-take element_count (drop elements_start x) i 0 k ∙ get_or-drop elements_start x i 0

pub first_of : (x : Row) → value 0 (as_chain x) ≡ first_element x
first_of x = go (eqb (kind x) 1)
  where
    go : (b : Bool) → value 0 (cond b (chain_of x) (first_element x ∷ [])) ≡ first_element x
    go true = sym (entry_value (chain_of x)) ∙ entry_chain x 0 (omega arith) (omega arith)
    go false = refl

-- What the code answers of the root's crossing, by its kind.
pub crosses_by_words : (w : ℕ) (x : Row) → kind x ≡ 1 → 1 ≤ word_a x → first_element x < 2 ^ w
    → crossed_by w (first_element x) (signed w (get_or x (elements_start + 1) 0)) ≡ crossing w (as_chain x)
crosses_by_words w x e some fits =
    sym (crossing-first w (as_chain x) (rw (first_of x) fits) ∙ ap₂ (λ a b. crossed_by w a (signed w b)) (first_of x) second)
  where
    second : value 0 (rest (as_chain x)) ≡ get_or x (elements_start + 1) 0
    second =
        sym (entry_value (rest (as_chain x)))
        ∙ entry_rest (as_chain x) 0
        ∙ ap (λ b. get_or (cond b (chain_of x) (first_element x ∷ [])) 1 0) (eq-eqb (kind x) 1 e)
        ∙ entry_chain x 1 (omega arith) (omega arith)

pub crosses_not : (w : ℕ) (x : Row) → (kind x ≡ 1 → ⊥) → crossing w (as_chain x) ≡ pos 0
crosses_not w x other = ap (λ b. crossing w (cond b (chain_of x) (first_element x ∷ []))) (ne_eqb (kind x) 1 other)

-- The words that the code reads of a sound plan's root: its kind, and the first two elements.
pub root_crosses : (w : ℕ) (p : List ℕ) → sound p ≡ true → {k a b : ℕ} → k ≡ kind (root_row p) → k ≡ 1 → a ≡ first_element (root_row p) → a < 2 ^ w
    → b ≡ get_or (root_row p) (elements_start + 1) 0 → crossed_by w a (signed w b) ≡ crossing w (root_chain p)
root_crosses w p e {a = a} known sum first fits second =
    ap₂ (λ x y. crossed_by w x (signed w y)) first second
    ∙ crosses_by_words w (root_row p) (sym known ∙ sum) some (rw (sym first) fits)
  where
    within : row_count p - 1 < row_count p
    within = omega (arith, sound-count p e)

    some : 1 ≤ word_a (root_row p)
    some = kept_some (row_count p - 1) (root_row p) (sound_keeps p (row_count p - 1) e within) (ap (λ k. is_chain k) (sym known ∙ sum))

-- ---- the root of a plan of words has words
module _ (m : ℕ) (some : 0 < m) where
  abbrev Below : List ℕ → Type 0
  Below l = (i : ℕ) → get_or l i 0 < m

  below_take : (n : ℕ) (l : List ℕ) → Below l → Below (take n l)
  below_take zero l h i = some
  below_take (suc n) [] h i = some
  below_take (suc n) (a ∷ l) h zero = h 0
  below_take (suc n) (a ∷ l) h (suc i) = below_take n l (λ j. h (suc j)) i

  below_drop : (n : ℕ) (l : List ℕ) → Below l → Below (drop n l)
  below_drop n l h i = rw (get_or-drop n l i 0) (h (n + i))

  below_chain : (x : Row) → Below x → Below (as_chain x)
  below_chain x h = go (eqb (kind x) 1)
    where
      alone : (a : ℕ) → a < m → Below (a ∷ [])
      alone a k zero = k
      alone a k (suc i) = some

      go : (b : Bool) → Below (cond b (chain_of x) (first_element x ∷ []))
      go true = below_take (1 + word_a x) (elements x) (below_take element_count (drop elements_start x) (below_drop elements_start x h))
      go false = alone (first_element x) (h elements_start)

  below_row : (p : List ℕ) (r : ℕ) → Below p → Below (row p r)
  below_row p r h = subst Below (sym (row_at p r)) (below_take row_length (drop (row_length * r) (drop 1 p)) (below_drop (row_length * r) (drop 1 p) (below_drop 1 p h)))

pub root_words : (w : ℕ) (p : List ℕ) → AreWords w p → AreWords w (root_chain p)
root_words w p fits = below_chain (2 ^ w) (pow_pos w) (root_row p) (below_row (2 ^ w) (pow_pos w) p (row_count p - 1) fits)

-- The root's chain after a shift.
pub root_chain-shifted : (w : ℕ) (p : List ℕ) → sound p ≡ true → constant_or_sum (root_row p) ≡ true → AreWords w (root_chain p)
    → root_chain (shifted_plan w p) ≡ words w (sum_shift (root_chain p))
root_chain-shifted w p e told fits = ap as_chain (root_shifted w p e) ∙ as_chain-shifted w (root_row p) told fits

pub root_words-shifted : (w : ℕ) (p : List ℕ) → sound p ≡ true → constant_or_sum (root_row p) ≡ true → AreWords w (root_chain p)
    → AreWords w (root_chain (shifted_plan w p))
root_words-shifted w p e told fits i =
    rw (root_chain-shifted w p e told fits, entry_words w (sum_shift (root_chain p)) i) (mod-lt _ (pow_pos w))
