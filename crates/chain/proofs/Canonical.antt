-- Canonicity of sum chains: the first n values modulo 2^w decide the first n elements, so trimmed chains of length up to 16 are
-- equal exactly when their values agree at indices 0 to 16.
use mathlib.Core.Path.{◌≡◌, refl, sym, ap, ap₂, ◌∙◌}
use mathlib.Core.Logic.{◌↔◌}
use mathlib.Core.List.{List, ◌∷◌}
use Prim.Native.Nat.{ℕ, zero, suc, ◌+◌, ◌%◌, ◌^◌, ◌<◌, ◌≤◌}
use native.Mathlib.Nat.{zero-mod, add_comm, le_of_suc-le-suc, not-suc-le-zero}
use native.Mathlib.Omega.{arith}
use lib.ListN.{length, length-map}
use lib.Pow.{pow_pos}
use Rattle.word.proofs.Modulo.{add_same, cancel}
use Rattle.chain.specs.Chain.{value, rest, words, trimmed, row}
use Rattle.chain.specs.SumChain.{sum_at}
use Rattle.chain.proofs.SumLaws.{sum-now, sum-next}
use Rattle.chain.proofs.Trimming.{trimmed-row}
use Rattle.chain.proofs.Values as Values

-- A row of n elements has the chain's first n values.
pub value_row : (n : ℕ) (f : List ℕ) (i : ℕ) → i < n → sum_at (row n f) i ≡ sum_at f i
unfolding row
value_row zero f i h = absurd (not-suc-le-zero h)
value_row (suc n) f zero h = sum-now (row (suc n) f) ∙ sym (sum-now f)
value_row (suc n) f (suc i) h =
    sum-next (row (suc n) f) i
    ∙ ap₂ ◌+◌ (value_row (suc n) f i (omega arith)) (value_row n (rest f) i (omega arith))
    ∙ sym (sum-next f i)

pub row_words : (w n : ℕ) (f : List ℕ) → row (suc n) (words w f) ≡ (value 0 f % 2 ^ w) ∷ row n (words w (rest f))
unfolding row
row_words w n f =
    ap₂ {B = List ℕ} {C = List ℕ} ◌∷◌
    (Values.value-map (λ a. a % 2 ^ w) 0 0 (zero-mod (2 ^ w)) f)
    (ap (λ g. row n g) (Values.rest-map (λ a. a % 2 ^ w) f))

-- Values that agree modulo 2^w at the first n indices make the first n elements equal, as words.
pub same_row : (w n : ℕ) (f g : List ℕ) → ((i : ℕ) → i < n → sum_at f i % 2 ^ w ≡ sum_at g i % 2 ^ w)
    → row n (words w f) ≡ row n (words w g)
unfolding row
same_row w zero f g same = refl
same_row w (suc n) f g same =
    row_words w n f
    ∙ ap₂ {B = List ℕ} {C = List ℕ} ◌∷◌
    (ap (λ z. z % 2 ^ w) (sym (sum-now f)) ∙ same 0 (omega arith) ∙ ap (λ z. z % 2 ^ w) (sum-now g))
    (same_row w n (rest f) (rest g) below)
    ∙ sym (row_words w n g)
  where
    below : (i : ℕ) → i < n → sum_at (rest f) i % 2 ^ w ≡ sum_at (rest g) i % 2 ^ w
    below i h =
        cancel (2 ^ w) (sum_at (rest f) i) (sum_at (rest g) i) (sum_at f i) (pow_pos w)
        (ap (λ z. z % 2 ^ w) (add_comm (sum_at (rest f) i) (sum_at f i) ∙ sym (sum-next f i))
        ∙ same (suc i) (omega arith)
        ∙ ap (λ z. z % 2 ^ w) (sum-next g i ∙ add_comm (sum_at g i) (sum_at (rest g) i))
        ∙ add_same (2 ^ w) (sum_at (rest g) i) (sum_at (rest g) i) (sum_at g i) (sum_at f i) refl (sym (same i (omega arith))))

pub same_trimmed : (w n : ℕ) (f g : List ℕ) → length f ≤ suc n → length g ≤ suc n
    → ((i : ℕ) → i ≤ n → sum_at f i % 2 ^ w ≡ sum_at g i % 2 ^ w) → trimmed 0 (words w f) ≡ trimmed 0 (words w g)
same_trimmed w n f g p q same =
    sym (trimmed-row n (words w f) (rw (length-map f (λ a. a % 2 ^ w)) p))
    ∙ ap (λ h. trimmed 0 h) (same_row w (suc n) f g (λ i h. same i (le_of_suc-le-suc h)))
    ∙ trimmed-row n (words w g) (rw (length-map g (λ a. a % 2 ^ w)) q)

-- Canonicity, of chains of words that are their own trimmed forms.
pub canonical : (w : ℕ) (f g : List ℕ) → f ≡ trimmed 0 (words w f) → g ≡ trimmed 0 (words w g) → length f ≤ 17 → length g ≤ 17
    → (f ≡ g) ↔ ((i : ℕ) → i ≤ 16 → sum_at f i % 2 ^ w ≡ sum_at g i % 2 ^ w)
canonical w f g tf tg p q =
    (λ e i h. ap (λ c. sum_at c i % 2 ^ w) e, λ same. tf ∙ same_trimmed w 16 f g p q same ∙ sym tg)
