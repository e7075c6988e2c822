-- The value of a tree without x is the same for every x, and the parity that is noted of such a tree is its value's,
-- where each raise in it has an odd base.
use mathlib.Core.Path.{◌≡◌, refl, sym, ap, ap₂, ◌∙◌}
use mathlib.Core.Bool.{Bool, true, false, cond, ◌||◌, true≢false}
use Prim.Native.Nat.{ℕ, zero, suc, ◌+◌, ◌-◌, ◌*◌, ◌/◌, ◌%◌, ◌^◌, ◌≤◌, ◌<◌}
use native.Mathlib.Nat.{mod-lt, mod-eq_of_lt, le_of_lt, div-add-mod', mul-add-mod_self_right, pow-zero, pow-suc}
use native.Mathlib.Omega.{arith}
use lib.Dec.{eqb}
use lib.Pow.{pow_pos}
use borrow.Author.Tests.{ne_eqb}
use Rattle.word.proofs.Modulo.{mul_same, pow_same}
use Rattle.word.proofs.OddBase.{one_pow}
use Rattle.formula.specs.Tree.{Span, Tree, number, variable, sum, difference, product, minus, literal_power, raise, holds_x}
use Rattle.formula.specs.Value.{value_for}
use Rattle.formula.specs.Refusals.{Part, itself, sum_left, sum-right, difference-left, difference-right, product-left, product-right, under-minus, under-power, in_base, in_exponent}
use Rattle.formula_scan.specs.Readers.{parity}
use Rattle.formula_scan.proofs.Readings.{odd_product}
use Rattle.word.specs.Word as Word

-- ---- trees without x
pub neither : (a b : Bool) → (a || b) ≡ false → (a ≡ false) × (b ≡ false)
neither true b e = absurd (true≢false e)
neither false b e = (refl, e)

-- An operation on two trees without x, with the values of each for two numbers that x may stand for.
joined : (f : ℕ → ℕ → ℕ) (a b : Tree) {k l m n : ℕ} → (holds_x a ≡ false → k ≡ m) → (holds_x b ≡ false → l ≡ n)
    → (holds_x a || holds_x b) ≡ false → f k l ≡ f m n
joined f a b left right none = let h = neither (holds_x a) (holds_x b) none in ap₂ f (left h.0) (right h.1)

pub value_without_x : (w x y : ℕ) (t : Tree) → holds_x t ≡ false → value_for w x t ≡ value_for w y t
unfolding holds_x value_for
value_without_x w x y (number s p v) none = refl
value_without_x w x y (variable s) none = absurd (true≢false none)
value_without_x w x y (sum s a b) none = joined (Word.sum w) a b (value_without_x w x y a) (value_without_x w x y b) none
value_without_x w x y (difference s a b) none = joined (Word.difference w) a b (value_without_x w x y a) (value_without_x w x y b) none
value_without_x w x y (product s a b) none = joined (Word.product w) a b (value_without_x w x y a) (value_without_x w x y b) none
value_without_x w x y (minus s a) none = ap (Word.negation w) (value_without_x w x y a none)
value_without_x w x y (literal_power s a p n) none = ap (λ k. Word.power w k n) (value_without_x w x y a none)
value_without_x w x y (raise s a p b) none = joined (Word.power w) a b (value_without_x w x y a) (value_without_x w x y b) none

-- ---- parities of words
mod_even : (a m k : ℕ) → m ≡ k * 2 → a % m % 2 ≡ a % 2
mod_even a m k e =
    sym (mul-add-mod_self_right (a / m * k) 2 (a % m))
    ∙ ap (λ z. (z + a % m) % 2) (regroup ∙ ap (λ z. a / m * z) (sym e))
    ∙ ap (λ z. z % 2) (div-add-mod' a m)
  where
    regroup : a / m * k * 2 ≡ a / m * (k * 2)
    regroup = omega arith

-- 2 divides 2^w.
twice : (w : ℕ) → 0 < w → (k : ℕ) × (2 ^ w ≡ k * 2)
twice zero pos = absurd (omega arith)
twice (suc w) pos = (2 ^ w, pow-suc 2 w)

pub word-parity : (w a : ℕ) → 0 < w → Word.word w a % 2 ≡ a % 2
word-parity w a pos = let h = twice w pos in mod_even a (2 ^ w) h.0 h.1

product-parity : (a b m n : ℕ) → a % 2 ≡ m → b % 2 ≡ n → (a * b) % 2 ≡ m * n
product-parity a b m n p q = mul_same 2 a m b n (omega arith) (omega arith) ∙ mod-eq_of_lt (odd_product m n (omega arith) (omega arith))

odd_power : (b n : ℕ) → b % 2 ≡ 1 → b ^ n % 2 ≡ 1
odd_power b n odd = pow_same 2 b 1 n odd ∙ ap (λ z. z % 2) (one_pow n)

literal_parity : (b m n : ℕ) → b % 2 ≡ m → b ^ n % 2 ≡ cond (eqb n 0) 1 m
literal_parity b m zero e = ap (λ z. z % 2) (pow-zero b)
literal_parity b m (suc n) e =
    ap (λ z. z % 2) (pow-suc b n)
    ∙ product-parity (b ^ n) b (cond (eqb n 0) 1 m) m (literal_parity b m n e) e
    ∙ once (eqb n 0) m (omega arith)
    ∙ ap (λ t. cond t 1 m) (sym (ne_eqb (suc n) 0 (omega arith)))
  where
    once : (t : Bool) (m : ℕ) → m < 2 → cond t 1 m * m ≡ m
    once true m h = omega arith
    once false zero h = refl
    once false (suc zero) h = refl
    once false (suc (suc m)) h = absurd (omega arith)

difference-parity : (w a b : ℕ) → 0 < w → Word.difference w a b % 2 ≡ (a + b) % 2
difference-parity w a b pos =
    word-parity w (a + (2 ^ w - b % 2 ^ w)) pos
    ∙ go (2 ^ w) (b % 2 ^ w) (twice w pos).0 (twice w pos).1 (le_of_lt (mod-lt b (pow_pos w))) (word-parity w b pos)
  where
    go : (m r k : ℕ) → m ≡ k * 2 → r ≤ m → r % 2 ≡ b % 2 → (a + (m - r)) % 2 ≡ (a + b) % 2
    go m r k e h q = omega arith

-- ---- the parity that is noted
-- Whatever is good of a base, if a good base is odd where its parity is right.
module _ (w x : ℕ) (pos : 0 < w) (Good : Tree → Type 0)
    (odd : (a : Tree) → holds_x a ≡ false → Good a → value_for w x a % 2 ≡ parity a → value_for w x a % 2 ≡ 1) where
  abbrev Bases : Tree → Type 0
  Bases t = (k : Span) (a b : Tree) (p : ℕ) → Part (raise k a p b) t → Good a

  abbrev Agrees : Tree → Type 0
  Agrees t = holds_x t ≡ false → Bases t → value_for w x t % 2 ≡ parity t

  both : {a b t : Tree} → Agrees a → Agrees b → ((u : Tree) → Part u a → Part u t) → ((u : Tree) → Part u b → Part u t)
      → (holds_x a || holds_x b) ≡ false → Bases t → (value_for w x a % 2 ≡ parity a) × (value_for w x b % 2 ≡ parity b)
  both {a} {b} f g in_left in_right none good =
      let h = neither (holds_x a) (holds_x b) none in
      (f h.0 (λ s c d p k. good s c d p (in_left (raise s c p d) k)), g h.1 (λ s c d p k. good s c d p (in_right (raise s c p d) k)))

  agrees : (t : Tree) → Agrees t
  unfolding holds_x value_for parity
  agrees (number s p v) none good = word-parity w v pos
  agrees (variable s) none good = absurd (true≢false none)
  agrees (sum s a b) none good =
      let h = both (agrees a) (agrees b) (λ u. sum_left) (λ u. sum-right) none good in
      word-parity w (value_for w x a + value_for w x b) pos ∙ omega arith
  agrees (difference s a b) none good =
      let h = both (agrees a) (agrees b) (λ u. difference-left) (λ u. difference-right) none good in
      difference-parity w (value_for w x a) (value_for w x b) pos ∙ omega arith
  agrees (product s a b) none good =
      let h = both (agrees a) (agrees b) (λ u. product-left) (λ u. product-right) none good in
      word-parity w (value_for w x a * value_for w x b) pos
      ∙ product-parity (value_for w x a) (value_for w x b) (parity a) (parity b) h.0 h.1
  agrees (minus s a) none good =
      let h = agrees a none (λ m c d p k. good m c d p (under-minus k)) in
      difference-parity w 0 (value_for w x a) pos ∙ omega arith
  agrees (literal_power s a p n) none good =
      word-parity w (value_for w x a ^ n) pos
      ∙ literal_parity (value_for w x a) (parity a) n (agrees a none (λ m c d q k. good m c d q (under-power k)))
  agrees (raise s a p b) none good =
      let h = both (agrees a) (agrees b) (λ u. in_base) (λ u. in_exponent) none good in
      word-parity w (value_for w x a ^ value_for w x b) pos
      ∙ odd_power (value_for w x a) (value_for w x b) (odd a (neither (holds_x a) (holds_x b) none).0 (good s a b p itself) h.0)

-- Each raise has a base without x, of odd value.
abbrev pub OddBases : ℕ → Tree → Type 0
OddBases w t = (k : Span) (a b : Tree) (p : ℕ) → Part (raise k a p b) t → (holds_x a ≡ false) × (value_for w 0 a % 2 ≡ 1)

pub parity-value : (w x : ℕ) → 0 < w → (t : Tree) → holds_x t ≡ false → OddBases w t → value_for w x t % 2 ≡ parity t
parity-value w x pos t none good =
    agrees w x pos (λ a. value_for w 0 a % 2 ≡ 1) (λ a h g e. ap (λ v. v % 2) (value_without_x w x 0 a h) ∙ g) t none
    (λ s a b p k. (good s a b p k).1)

-- The same where each base is noted as odd.
pub parity-noted : (w x : ℕ) → 0 < w → (t : Tree) → holds_x t ≡ false
    → ((k : Span) (a b : Tree) (p : ℕ) → Part (raise k a p b) t → parity a ≡ 1) → value_for w x t % 2 ≡ parity t
parity-noted w x pos t none good = agrees w x pos (λ a. parity a ≡ 1) (λ a h g e. e ∙ g) t none good
