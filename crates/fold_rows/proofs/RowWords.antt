-- How many elements a row has, the words of a row written one after the other, and words put into a plan.
use mathlib.Core.Path.{◌≡◌, refl, sym, ap, ap₂, ◌∙◌}
use mathlib.Core.List.{List, [], ◌∷◌, ◌++◌, append_assoc}
use Prim.Native.Nat.{ℕ, ◌+◌, ◌-◌, ◌≤◌}
use native.Mathlib.Omega.{arith}
use lib.ListN.{length, take, drop, set, length-append, length-drop}
use lib.Seq.{length-take-le, drop-drop, set_at}
use Rattle.plan.specs.Measures.{elements_start, element_count, row_length}
use Rattle.plan.specs.Row.{Row, elements}
use Rattle.plan.proofs.RowLaws.{part_put}
use Rattle.fold_rows.specs.Standing.{with_words}

-- ---- elements
pub length-elements : (row : Row) → length row ≡ row_length → length (elements row) ≡ element_count
length-elements row long = length-take-le element_count (drop elements_start row) (omega (arith, length-drop elements_start row))

-- ---- a row written: three words, the elements, and no span behind them
first_three : (l : List ℕ) (a b c : ℕ) → 3 ≤ length l → set (set (set l 0 a) 1 b) 2 c ≡ a ∷ b ∷ c ∷ drop 3 l
first_three [] a b c h = absurd (omega arith)
first_three (x ∷ []) a b c h = absurd (omega arith)
first_three (x ∷ y ∷ []) a b c h = absurd (omega arith)
first_three (x ∷ y ∷ z ∷ f) a b c h = refl

last_two : (f t : List ℕ) → length f ≡ 20 → length t ≡ 2 → set (set (f ++ t) 20 0) 21 0 ≡ f ++ 0 ∷ 0 ∷ []
last_two f [] h two = absurd (omega arith)
last_two f (x ∷ []) h two = absurd (omega arith)
last_two f (x ∷ y ∷ []) h two =
    ap (λ l. set l 21 0) (set_at f x (y ∷ []) 0 20 h ∙ sym (append_assoc f (0 ∷ []) (y ∷ [])))
    ∙ set_at (f ++ 0 ∷ []) y [] 0 21 (length-append f (0 ∷ []) ∙ omega (arith, h))
    ∙ append_assoc f (0 ∷ []) (0 ∷ [])
last_two f (x ∷ y ∷ z ∷ t) h two = absurd (omega arith)

pub row_written : (l e : List ℕ) (a b c : ℕ) {new : List ℕ} → length l ≡ row_length → length e ≡ element_count → new ≡ e
    → set (set (take 3 (set (set (set l 0 a) 1 b) 2 c) ++ (new ++ drop 17 (drop 3 (set (set (set l 0 a) 1 b) 2 c)))) 20 0) 21 0
    ≡ a ∷ b ∷ c ∷ e ++ 0 ∷ 0 ∷ []
row_written l e a b c long whole copied =
    ap₂ (λ m f. set (set (take 3 m ++ (f ++ drop 17 (drop 3 m))) 20 0) 21 0) (first_three l a b c (omega arith)) copied
    ∙ last_two (a ∷ b ∷ c ∷ e) (drop 17 (drop 3 l)) (omega (arith, whole))
    (omega (arith, length-drop 3 l, length-drop 17 (drop 3 l)))

pub length_row : (a b c : ℕ) (e : List ℕ) → length e ≡ element_count → length (a ∷ b ∷ c ∷ e ++ 0 ∷ 0 ∷ []) ≡ row_length
length_row a b c e h = length-append (a ∷ b ∷ c ∷ e) (0 ∷ 0 ∷ []) ∙ omega (arith, h)

-- ---- a part put back into a plan
pub words-put : (p : List ℕ) (n at : ℕ) {from : ℕ} {new words : List ℕ} → from ≡ at → new ≡ words → length words ≡ n
    → part_put from (from + n) p new ≡ with_words p at words
words-put p n at {words = words} place e h =
    ap₂ (λ k x. part_put k (k + n) p x) place e
    ∙ ap (λ f. take at p ++ (words ++ f)) (drop-drop (at + n - at) at p ∙ ap (λ k. drop k p) end)
  where
    end : at + (at + n - at) ≡ at + length words
    end = omega (arith, h)
