-- Product chains: the value after i shifts of a product, a scaling, a power, a trimmed chain and a raise, at every index.
use mathlib.Core.Path.{◌≡◌, sym, ap, ◌∙◌}
use mathlib.Core.List.{List}
use Prim.Native.Nat.{ℕ, ◌+◌, ◌*◌, ◌%◌, ◌^◌}
use native.Mathlib.Nat.{add-zero, mul-one, mul_assoc, mod-mod, pow-zero}
use native.Mathlib.Omega.{arith}
use lib.Pow.{pow-add}
use Rattle.word.proofs.Modulo.{mul_same}
use Rattle.word.proofs.Ring.{pow_of_mul}
use Rattle.word.proofs.OddBase.{odd_base, one_pow}
use Rattle.chain.specs.Chain.{words}
use Rattle.chain.specs.SumChain.{sum_at}
use Rattle.chain.specs.ProductChain.{product_at, joint_product, scaled_first, power_of_each, raised}
use Rattle.word.specs.Word as Word
use Rattle.chain.proofs.Values as Values
use Rattle.chain.proofs.SumLaws as SumLaws

pub value_joint : (f g : List ℕ) (i : ℕ) → product_at (joint_product f g) i ≡ product_at f i * product_at g i
value_joint f g i = Values.value-joined ◌*◌ 1 mul-one swap f g i
  where
    swap : (a b c d : ℕ) → (a * b) * (c * d) ≡ (a * c) * (b * d)
    swap a b c d = omega arith

pub value-scaled-first : (c : ℕ) (f : List ℕ) (i : ℕ) → product_at (scaled_first c f) i ≡ c * product_at f i
value-scaled-first c f i = Values.value-first ◌*◌ 1 mul-one mul_assoc c f i

pub value-power_of_each : (f : List ℕ) (n i : ℕ) → product_at (power_of_each f n) i ≡ product_at f i ^ n
value-power_of_each f n i =
    Values.value_mapped ◌*◌ ◌*◌ 1 1 mul-one mul-one (λ a. a ^ n) (one_pow n) (λ a b. pow_of_mul a b n) f i

pub value-product-words : (w : ℕ) (f : List ℕ) (i : ℕ) → product_at (words w f) i % 2 ^ w ≡ product_at f i % 2 ^ w
value-product-words w f i = Values.value_reduced ◌*◌ 1 mul-one (2 ^ w) (mul_same (2 ^ w)) (λ a. mod-mod a (2 ^ w)) f i

-- ---- C to a sum chain
pub value-raised : (c : ℕ) (f : List ℕ) (i : ℕ) → product_at (raised c f) i ≡ c ^ sum_at f i
value-raised c f i = Values.value_mapped ◌+◌ ◌*◌ 0 1 add-zero mul-one (λ a. c ^ a) (pow-zero c) (pow-add c) f i

-- For odd C the elements may be words: the value is C to the sum chain's word.
pub value-raised_odd : (w c : ℕ) (f : List ℕ) (i : ℕ) → c % 2 ≡ 1
    → product_at (words w (raised c (words w f))) i % 2 ^ w ≡ Word.power w c (sum_at f i % 2 ^ w)
value-raised_odd w c f i odd =
    value-product-words w (raised c (words w f)) i
    ∙ ap (λ z. z % 2 ^ w) (value-raised c (words w f) i)
    ∙ sym (odd_base w c (sum_at (words w f) i) odd)
    ∙ ap (λ z. Word.power w c z) (SumLaws.value-words w f i)
