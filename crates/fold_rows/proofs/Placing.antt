-- Rows that a folded tree stands as: the row of a constant or a chain, and a row moved down by one.
use mathlib.Core.Path.{◌≡◌, sym, ap, ap₂, ◌∙◌}
use mathlib.Core.Bool.{cond}
use mathlib.Core.List.{List, [], ◌∷◌, ◌++◌, append-nil}
use Prim.Native.Nat.{ℕ, suc, ◌+◌, ◌-◌, ◌<◌}
use native.Mathlib.Nat.{not-suc-le-zero}
use native.Mathlib.Omega.{arith}
use lib.Dec.{eqb, ltb}
use lib.ListN.{length, get_or, take}
use borrow.Author.Tests.{ne_eqb}
use Rattle.chain.specs.Chain.{row}
use Rattle.chain.specs.Chain as Chain
use Rattle.chain.proofs.Trimming.{take-trimmed, length-trimmed_some}
use Rattle.plan.specs.Row.{Row, kind, word_a, word_b, elements, first_byte, end_byte, operand_count}
use Rattle.fold.specs.Folded.{of_sum, of_product, trimmed_product}
use Rattle.fold.specs.Layout.{row_words, rows_from, words_of}
use Rattle.fold_rows.specs.Standing.{with_row, placed, no_span, lowered}

-- The row of a chain of this kind with these elements, without a span; a chain of length 0 is a constant.
abbrev pub chain_words : ℕ → List ℕ → List ℕ
chain_words kind t = cond (eqb (length t - 1) 0) 0 kind ∷ (length t - 1) ∷ 0 ∷ row 17 t ++ 0 ∷ 0 ∷ []

longer : (kind : ℕ) (a b : ℕ) (t : List ℕ) → row_words kind (length (a ∷ b ∷ t) - 1) 0 (a ∷ b ∷ t) no_span ≡ chain_words kind (a ∷ b ∷ t)
longer kind a b t =
    ap {B = List ℕ} (λ k. k ∷ (length (a ∷ b ∷ t) - 1) ∷ 0 ∷ row 17 (a ∷ b ∷ t) ++ 0 ∷ 0 ∷ [])
    (sym (ap (λ x. cond x 0 kind) (ne_eqb (length (a ∷ b ∷ t) - 1) 0 (λ e. some (length t) e))))
  where
    some : (n : ℕ) → suc (suc n) - 1 ≡ 0 → ⊥
    some n e = omega (arith, e)

pub sum_row_lem : (n : ℕ) (t : List ℕ) → 0 < length t → words_of (rows_from n no_span (of_sum t)) ≡ chain_words 1 t
unfolding words_of rows_from
sum_row_lem n [] h = absurd (not-suc-le-zero h)
sum_row_lem n (a ∷ []) h = append-nil (row_words 0 0 0 (a ∷ []) no_span)
sum_row_lem n (a ∷ b ∷ t) h = append-nil (row_words 1 (length (a ∷ b ∷ t) - 1) 0 (a ∷ b ∷ t) no_span) ∙ longer 1 a b t

pub product-row : (n : ℕ) (t : List ℕ) → 0 < length t → words_of (rows_from n no_span (of_product t)) ≡ chain_words 2 t
unfolding words_of rows_from
product-row n [] h = absurd (not-suc-le-zero h)
product-row n (a ∷ []) h = append-nil (row_words 0 0 0 (a ∷ []) no_span)
product-row n (a ∷ b ∷ t) h = append-nil (row_words 2 (length (a ∷ b ∷ t) - 1) 0 (a ∷ b ∷ t) no_span) ∙ longer 2 a b t

-- "A product chain with f0 = 0 is the constant 0"; otherwise its trailing ones are dropped.
pub product-zero : (n : ℕ) (f : List ℕ) → 0 < length f → get_or f 0 0 ≡ 0
    → words_of (rows_from n no_span (trimmed_product f)) ≡ 0 ∷ 0 ∷ 0 ∷ row 17 [] ++ 0 ∷ 0 ∷ []
unfolding row
product-zero n [] h e = absurd (not-suc-le-zero h)
product-zero n (a ∷ f) h e = rw e (product-row n (0 ∷ []) (omega arith))

pub product-trimmed : (n : ℕ) (f : List ℕ) → 0 < length f → (get_or f 0 0 ≡ 0 → ⊥)
    → words_of (rows_from n no_span (trimmed_product f)) ≡ chain_words 2 (Chain.trimmed 1 f)
unfolding Chain.trimmed
product-trimmed n [] h other = absurd (not-suc-le-zero h)
product-trimmed n (a ∷ f) h other = rw (ne_eqb a 0 other) (product-row n (Chain.trimmed 1 (a ∷ f)) (omega arith))

-- Row r of a plan, moved down.
pub lowered-row : (row : Row) {k n x y a b first end : ℕ} {e : List ℕ} → k ≡ kind row → n ≡ operand_count k → x ≡ word_a row → y ≡ word_b row
    → a ≡ cond (ltb 0 n) (x - 1) x → b ≡ cond (eqb n 2) (y - 1) y → e ≡ elements row → first ≡ first_byte row → end ≡ end_byte row
    → k ∷ a ∷ b ∷ e ++ first ∷ end ∷ [] ≡ lowered row
lowered-row row {k} {n} hk hn hx hy ha hb he from upto =
    λ i. hk i
    ∷ (ha ∙ ap₂ (λ m z. cond (ltb 0 m) (z - 1) z) count hx) i
    ∷ (hb ∙ ap₂ (λ m z. cond (eqb m 2) (z - 1) z) count hy) i
    ∷ (he i ++ from i ∷ upto i ∷ [])
  where
    count : n ≡ operand_count (kind row)
    count = hn ∙ ap operand_count hk

-- What the code puts into a row is the product chain, trimmed.
module _ (p : List ℕ) (r : ℕ) (f : List ℕ) (long : length f ≡ 17) where
  pub put-zero : {e q : List ℕ} → get_or f 0 0 ≡ 0 → e ≡ row 17 [] → q ≡ with_row p r (0 ∷ 0 ∷ 0 ∷ e ++ 0 ∷ 0 ∷ [])
      → q ≡ placed p r no_span (trimmed_product f)
  put-zero z he hq = hq ∙ ap (λ x. with_row p r x) (ap {B = List ℕ} (λ g. 0 ∷ 0 ∷ 0 ∷ g ++ 0 ∷ 0 ∷ []) he ∙ sym (product-zero r f (omega arith) z))

  pub put-trimmed : {last : ℕ} {e q : List ℕ} → (get_or f 0 0 ≡ 0 → ⊥) → last ≡ length (Chain.trimmed 1 f) - 1 → e ≡ row 17 (take (last + 1) f)
      → q ≡ with_row p r (cond (eqb last 0) 0 2 ∷ last ∷ 0 ∷ e ++ 0 ∷ 0 ∷ []) → q ≡ placed p r no_span (trimmed_product f)
  put-trimmed {last} {e} z count kept hq =
      hq
      ∙ ap₂ (λ n g. with_row p r (cond (eqb n 0) 0 2 ∷ n ∷ 0 ∷ g ++ 0 ∷ 0 ∷ [])) count (kept ∙ ap (row 17) whole)
      ∙ ap (λ x. with_row p r x) (sym (product-trimmed r f (omega arith) z))
    where
      all : last + 1 ≡ length (Chain.trimmed 1 f)
      all = omega (arith, count, length-trimmed_some 1 f)

      whole : take (last + 1) f ≡ Chain.trimmed 1 f
      whole = ap (λ n. take n f) all ∙ take-trimmed 1 f (omega arith)
