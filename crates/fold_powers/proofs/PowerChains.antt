-- Chains of 17 words to a literal power: what they trim to.
use mathlib.Core.Path.{◌≡◌, sym, ap, ◌∙◌}
use mathlib.Core.List.{List}
use Prim.Native.Nat.{ℕ, zero, suc, ◌+◌, ◌*◌, ◌%◌, ◌^◌, ◌≤◌}
use native.Mathlib.Nat.{mul-le-mul, mul-le-mul_left}
use native.Mathlib.Omega.{arith}
use lib.ListN.{length, take, length-take}
use mir.Syntax.{w64}
use mir.Val.{Fits}
use Rattle.word.proofs.OddBase.{one_pow}
use Rattle.chain.specs.Chain.{words, trimmed, row}
use Rattle.chain.specs.SumChain.{power}
use Rattle.chain.specs.ProductChain.{trimmed_product, power_of_each}
use Rattle.chain.proofs.SumLaws.{value-power}
use Rattle.chain.proofs.Canonical.{value_row}
use Rattle.chain.proofs.Calls.{length-product, trimmed_as}
use Rattle.fold_rows.specs.Standing.{filled_with_ones}
use Rattle.fold_operands.proofs.OnesTrimmed.{map-filled, short-map, words-trimmed}

-- ---- "P^n: every element to the n", on 17 words filled with ones
pub power-trimmed : (f : List ℕ) (n : ℕ) → length f ≤ 17
    → trimmed_product (words 64 (power_of_each (filled_with_ones 17 f) n)) ≡ trimmed_product (words 64 (power_of_each f n))
power-trimmed f n short =
    words-trimmed (power_of_each f n) (short-map (λ a. a ^ n) f short) (map-filled (λ a. a ^ n) (one_pow n) 17 f)

-- ---- the power of a sum chain
length-power : (g : List ℕ) (k : ℕ) → length g ≤ suc k → (n : ℕ) → length (power g n) ≤ suc (k * n)
unfolding power
length-power g k h zero = omega arith
length-power g k h (suc n) = omega (arith, length-product (power g n) g (suc (k * n)) k (length-power g k h n) h)

-- What is answered of f's first k + 1 words to the n.
abbrev pub powered : List ℕ → ℕ → ℕ → List ℕ
powered f k n = trimmed 0 (words 64 (power (take (k + 1) f) n))

-- The power of the kept words trims to it.
pub power_trims : (f : List ℕ) (k n : ℕ) → length f ≡ 17 → k * n ≤ 16
    → trimmed 0 (row 17 (words 64 (power (row 17 (take (k + 1) f)) n))) ≡ powered f k n
power_trims f k n long few =
    trimmed_as 64 (power (row 17 (take (k + 1) f)) n) (power (take (k + 1) f) n) (omega (arith, few, length-power (take (k + 1) f) k short n))
    (λ i h. ap (λ z. z % 2 ^ 64) (value-power (row 17 (take (k + 1) f)) n i ∙ ap (λ z. z ^ n) (value_row 17 (take (k + 1) f) i h) ∙ sym (value-power (take (k + 1) f) n i)))
  where
    short : length (take (k + 1) f) ≤ suc k
    short = rw (length-take (k + 1) f) (omega arith)

pub once_short : (k n : ℕ) → 1 ≤ n → k * n ≤ 16 → k ≤ 16
once_short k n some few = omega (arith, mul-le-mul_left k some, few)

pub times_fits : (k n : ℕ) → k ≤ 16 → n ≤ 64 → Fits w64 (k * n)
times_fits k n few small = record { fits = omega (arith, mul-le-mul few small) }
