-- Any two answers that meet a public contract of this crate are equal.
use Rattle.std.proofs.Common.{◌≡◌, ℕ, sym, ◌∙◌}
use Rattle.word.specs.Word.{product, power}

-- What equals one thing is equal: each theorem below, and its like in the crates above, is this.
pub both_are {ℓ} : {A : Type ℓ} {r s meant : A} → r ≡ meant → s ≡ meant → r ≡ s
both_are p q = p ∙ sym q

pub times-unique : (a b r s : ℕ) → r ≡ product 64 a b → s ≡ product 64 a b → r ≡ s
times-unique a b r s = both_are

pub power-unique : (b n r s : ℕ) → r ≡ power 64 b n → s ≡ power 64 b n → r ≡ s
power-unique b n r s = both_are
