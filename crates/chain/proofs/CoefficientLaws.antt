-- Coefficient lists: the chain's value after i shifts is the polynomial's value at i.
-- The chain of i^j has the elements m! * S(j, m), since the chain of i * f has the elements m * (fm + f(m-1)).
use mathlib.Core.Path.{◌≡◌, refl, sym, ap, ap₂, ◌∙◌}
use mathlib.Core.List.{List, [], ◌∷◌}
use Prim.Native.Nat.{ℕ, zero, suc, ◌+◌, ◌*◌, ◌%◌, ◌^◌, ◌<◌, ◌≤◌}
use native.Mathlib.Nat.{add-zero, mul-zero, zero-mul, mod-add-mod, add-mod-mod, mod-eq_of_lt, zero-add, pow-zero, pow-suc, add-suc, suc-add, le_of_suc-le-suc, not-suc-le-zero}
use native.Mathlib.Omega.{arith}
use native.Mathlib.Numerals.{add-one}
use lib.ListN.{length, get_or, drop, drop_of_length-le, length-map}
use lib.Seq.{drop-cons}
use Rattle.chain.specs.Chain.{joined, words, trimmed, row}
use Rattle.chain.specs.SumChain.{sum_at, sum, scaled}
use Rattle.chain.specs.Coefficients.{stirling, factorial, onto, polynomial_from, polynomial, element_from, tabulated, from_coefficients}
use Rattle.chain.proofs.Rows.{entry_words, row-whole}
use Rattle.chain.proofs.SumLaws.{sum-now, sum-next, sum-none, sum-constant, value-sum, value-scaled, value-words}
use Rattle.chain.proofs.Trimming.{value-trimmed-sum}
use Rattle.chain.proofs.Values as Values

-- ---- the chain of i * f
by_index : ℕ → ℕ → List ℕ → List ℕ
by_index k p [] = (k * p) ∷ []
by_index k p (a ∷ f) = (k * (a + p)) ∷ by_index (suc k) a f

by_index_lem : (k p : ℕ) (f : List ℕ) (i : ℕ) → sum_at (by_index k p f) i ≡ (k + i) * sum_at f i + k * sum_at (p ∷ f) i
unfolding by_index
by_index_lem k p [] i = sum-constant (k * p) i ∙ sym (ap₂ (λ x y. (k + i) * x + k * y) (sum-none i) (sum-constant p i) ∙ omega arith)
by_index_lem k p (a ∷ f) zero =
    sum-now (by_index k p (a ∷ f))
    ∙ sym (ap₂ (λ x y. (k + 0) * x + k * y) (sum-now (a ∷ f)) (sum-now (p ∷ a ∷ f)) ∙ omega arith)
by_index_lem k p (a ∷ f) (suc i) =
    sum-next (by_index k p (a ∷ f)) i
    ∙ ap₂ ◌+◌ (by_index_lem k p (a ∷ f) i) (by_index_lem (suc k) a f i)
    ∙ spread (sum_at (a ∷ f) i) (sum_at f i) (sum_at (p ∷ a ∷ f) i)
    ∙ sym (ap₂ (λ x y. (k + suc i) * x + k * y) (sum-next (a ∷ f) i) (sum-next (p ∷ a ∷ f) i))
  where
    spread : (x u y : ℕ) → ((k + i) * x + k * y) + ((suc k + i) * u + suc k * x) ≡ (k + suc i) * (x + u) + k * (y + x)
    spread x u y = omega arith

-- ---- the chain of i^j: the table's numbers
pub onto-start : onto 0 0 ≡ 1
unfolding onto factorial stirling
onto-start = refl

pub onto-none : (m : ℕ) → onto 0 (suc m) ≡ 0
unfolding onto stirling
onto-none m = mul-zero (factorial (suc m))

pub onto-zero : (j : ℕ) → onto (suc j) 0 ≡ 0
unfolding onto stirling
onto-zero j = mul-zero (factorial 0)

pub onto-next : (j m : ℕ) → onto (suc j) (suc m) ≡ suc m * (onto j (suc m) + onto j m)
unfolding onto stirling factorial
onto-next j m = omega arith

onto-over : (j m : ℕ) → j < m → onto j m ≡ 0
onto-over j zero h = absurd (not-suc-le-zero h)
onto-over zero (suc m) h = onto-none m
onto-over (suc j) (suc m) h =
    onto-next j m
    ∙ ap₂ (λ x y. suc m * (x + y)) (onto-over j (suc m) (omega arith)) (onto-over j m (le_of_suc-le-suc h))
    ∙ mul-zero (suc m)

by_index_onto : (j m n : ℕ) → j ≤ m + n → by_index (suc m) (onto j m) (tabulated (onto j) (suc m) n) ≡ tabulated (onto (suc j)) (suc m) (suc n)
unfolding by_index tabulated
by_index_onto j m zero h =
    ap (λ z. z ∷ [])
    (ap (λ z. suc m * z) (sym (ap (λ z. z + onto j m) (onto-over j (suc m) (omega arith)) ∙ omega arith)) ∙ sym (onto-next j m))
by_index_onto j m (suc n) h =
    ap₂ {B = List ℕ} {C = List ℕ} ◌∷◌ (sym (onto-next j m)) (by_index_onto j (suc m) n (omega arith))

next_power : (j n : ℕ) → j ≤ n → by_index 0 0 (tabulated (onto j) 0 (suc n)) ≡ tabulated (onto (suc j)) 0 (suc (suc n))
unfolding by_index tabulated
next_power j n h =
    ap₂ {B = List ℕ} {C = List ℕ} ◌∷◌ (zero-mul (onto j 0 + 0) ∙ sym (onto-zero j)) (by_index_onto j 0 n (omega arith))

value-nothing : (F : ℕ → ℕ) (m n i : ℕ) → ((k : ℕ) → m ≤ k → F k ≡ 0) → sum_at (tabulated F m n) i ≡ 0
unfolding tabulated
value-nothing F m zero i none = sum-none i
value-nothing F m (suc n) zero none = sum-now (tabulated F m (suc n)) ∙ none m (omega arith)
value-nothing F m (suc n) (suc i) none =
    sum-next (tabulated F m (suc n)) i
    ∙ ap₂ ◌+◌ (value-nothing F m (suc n) i none) (value-nothing F (suc m) n i (λ k h. none k (omega arith)))

-- The chain with elements m! * S(j, m) has the value i^j.
pub value-onto : (j n i : ℕ) → j < n → sum_at (tabulated (onto j) 0 n) i ≡ i ^ j
unfolding tabulated
value-onto j zero i h = absurd (not-suc-le-zero h)
value-onto zero (suc n) i h =
    Values.value-cons ◌+◌ 0 add-zero (onto 0 0) (tabulated (onto 0) 1 n) [] (λ k. value-nothing (onto 0) 1 n k none ∙ sym (sum-none k)) i
    ∙ sum-constant (onto 0 0) i
    ∙ onto-start
    ∙ sym (pow-zero i)
  where
    none : (k : ℕ) → 1 ≤ k → onto 0 k ≡ 0
    none zero p = absurd (not-suc-le-zero p)
    none (suc k) p = onto-none k
value-onto (suc j) (suc zero) i h = absurd (not-suc-le-zero (le_of_suc-le-suc h))
value-onto (suc j) (suc (suc n)) i h =
    ap (λ f. sum_at f i) (sym (next_power j n (omega arith)))
    ∙ by_index_lem 0 0 (tabulated (onto j) 0 (suc n)) i
    ∙ ap (λ z. (0 + i) * z + 0 * sum_at (0 ∷ tabulated (onto j) 0 (suc n)) i) (value-onto j (suc n) i (omega arith))
    ∙ rw (pow-suc i j) (omega arith)

-- ---- the sum over the coefficients
tabulated_linear : (c : ℕ) (F G : ℕ → ℕ) (m n : ℕ)
    → tabulated (λ k. c * F k + G k) m n ≡ sum (scaled c (tabulated F m n)) (tabulated G m n)
unfolding tabulated joined
tabulated_linear c F G m zero = refl
tabulated_linear c F G m (suc n) = ap {B = List ℕ} (λ l. (c * F m + G m) ∷ l) (tabulated_linear c F G (suc m) n)

value-from : (a : List ℕ) (j n i : ℕ) → j + length a ≤ n → sum_at (tabulated (element_from j a) 0 n) i ≡ polynomial_from j a i
unfolding element_from polynomial_from
value-from [] j n i h = value-nothing (element_from j []) 0 n i (λ k p. refl)
value-from (a ∷ later) j n i h =
    ap (λ f. sum_at f i) (tabulated_linear a (onto j) (element_from (suc j) later) 0 n)
    ∙ value-sum (scaled a (tabulated (onto j) 0 n)) (tabulated (element_from (suc j) later) 0 n) i
    ∙ ap₂ ◌+◌
    (value-scaled a (tabulated (onto j) 0 n) i ∙ ap (λ z. a * z) (value-onto j n i (omega arith)))
    (value-from later (suc j) n i (omega arith))

-- The chain of up to 17 coefficients has the polynomial's value at every index, trimmed and reduced too.
pub value_coefficients : (a : List ℕ) (i : ℕ) → length a ≤ 17 → sum_at (from_coefficients a) i ≡ polynomial a i
value_coefficients a i h = value-from a 0 17 i (omega arith)

pub value_coefficient_chain : (w : ℕ) (a : List ℕ) (i : ℕ) → length a ≤ 17
    → sum_at (trimmed 0 (words w (from_coefficients a))) i % 2 ^ w ≡ polynomial a i % 2 ^ w
value_coefficient_chain w a i h =
    ap (λ z. z % 2 ^ w) (value-trimmed-sum (words w (from_coefficients a)) i)
    ∙ value-words w (from_coefficients a) i
    ∙ ap (λ z. z % 2 ^ w) (value_coefficients a i h)

-- ---- entries, for the loops
pub entry_tabulated : (F : ℕ → ℕ) (m n k : ℕ) → k < n → get_or (tabulated F m n) k 0 ≡ F (m + k)
unfolding tabulated
entry_tabulated F m zero k h = absurd (not-suc-le-zero h)
entry_tabulated F m (suc n) zero h = ap F (sym (add-zero m))
entry_tabulated F m (suc n) (suc k) h = entry_tabulated F (suc m) n k (le_of_suc-le-suc h) ∙ ap F (suc-add m k ∙ sym (add-suc m k))

-- One turn of the sum over the coefficients, modulo M: what is left to add goes down by one coefficient.
pub element_turn : (M : ℕ) (a : List ℕ) (j m total : ℕ) {term next : ℕ} → j < length a → term ≡ (get_or a j 0 * onto j m) % M
    → next ≡ (total + term) % M → (next + element_from (j + 1) (drop (j + 1) a) m) % M ≡ (total + element_from j (drop j a) m) % M
unfolding element_from
element_turn M a j m total h e q =
    rw (q, e, add-one j)
    (mod-add-mod (total + (get_or a j 0 * onto j m) % M) M (element_from (suc j) (drop (suc j) a) m)
    ∙ ap (λ z. z % M) (swap total ((get_or a j 0 * onto j m) % M) (element_from (suc j) (drop (suc j) a) m))
    ∙ add-mod-mod (total + element_from (suc j) (drop (suc j) a) m) (get_or a j 0 * onto j m) M
    ∙ ap (λ z. z % M) (back total (get_or a j 0 * onto j m) (element_from (suc j) (drop (suc j) a) m))
    ∙ ap (λ l. (total + element_from j l m) % M) (sym (drop-cons a j 0 h)))
  where
    swap : (x y z : ℕ) → x + y + z ≡ x + z + y
    swap x y z = omega arith

    back : (x y z : ℕ) → x + z + y ≡ x + (y + z)
    back x y z = omega arith

pub element_done : (M : ℕ) (a : List ℕ) (j m total : ℕ) → total < M → length a ≤ j → (total + element_from j (drop j a) m) % M ≡ total
unfolding element_from
element_done M a j m total fits h =
    ap (λ l. (total + element_from j l m) % M) (drop_of_length-le a h) ∙ ap (λ z. z % M) (add-zero total) ∙ mod-eq_of_lt fits

pub entry_coefficients : (w : ℕ) (a : List ℕ) (m : ℕ) → m < 17 → get_or (words w (from_coefficients a)) m 0 ≡ element_from 0 a m % 2 ^ w
entry_coefficients w a m h =
    entry_words w (from_coefficients a) m
    ∙ ap (λ z. z % 2 ^ w) (entry_tabulated (element_from 0 a) 0 17 m h ∙ ap (element_from 0 a) (zero-add m))

length-tabulated : (F : ℕ → ℕ) (m n : ℕ) → length (tabulated F m n) ≡ n
unfolding tabulated
length-tabulated F m zero = refl
length-tabulated F m (suc n) = ap suc (length-tabulated F (suc m) n)

-- The 17 elements are a whole row.
pub row_coefficients : (w : ℕ) (a : List ℕ) → row 17 (words w (from_coefficients a)) ≡ words w (from_coefficients a)
row_coefficients w a =
    row-whole 17 (words w (from_coefficients a)) (length-map (from_coefficients a) (λ x. x % 2 ^ w) ∙ length-tabulated (element_from 0 a) 0 17)
