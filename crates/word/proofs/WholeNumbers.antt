-- Laws that the library does not have itself: a test that passed or failed, sums in ℤ in another order, and a product with a sum. Nothing of words is here.
use Rattle.std.proofs.Common.{◌≡◌, zero, suc, Bool, true, false, T, ℤ, pos, negsuc, ◌+ℤ◌, ◌-ℤ◌, ◌*ℤ◌, neg_ℤ, sym, refl, ap, ◌∙◌, ap₂}
use lib.IntN.{suc_ℤ, pred_ℤ, +ℤ_idl, +ℤ_assoc, +ℤ_comm, suc_ℤ-+ℤ, pred_ℤ-+ℤ, zero-*ℤ, suc_ℤ-*ℤ, pred_ℤ-*ℤ, *ℤ_comm}

pub passed : (b : Bool) → T b → b ≡ true
passed true t = refl
passed false t = absurd t

pub failed : (b : Bool) → (T b → ⊥) → b ≡ false
failed true f = absurd (f tt)
failed false f = refl

pub last_two : (a b c : ℤ) → (a +ℤ b) +ℤ c ≡ (a +ℤ c) +ℤ b
last_two a b c = +ℤ_assoc a b c ∙ ap (λ z. a +ℤ z) (+ℤ_comm b c) ∙ sym (+ℤ_assoc a c b)

-- One more, or one less, of a first summand.
one_more : (a b k : ℤ) → (a +ℤ b) *ℤ k ≡ a *ℤ k +ℤ b *ℤ k → (suc_ℤ a +ℤ b) *ℤ k ≡ suc_ℤ a *ℤ k +ℤ b *ℤ k
one_more a b k e =
    ap (λ z. z *ℤ k) (suc_ℤ-+ℤ a b)
    ∙ suc_ℤ-*ℤ (a +ℤ b) k
    ∙ ap (λ z. z +ℤ k) e
    ∙ last_two (a *ℤ k) (b *ℤ k) k
    ∙ ap (λ z. z +ℤ b *ℤ k) (sym (suc_ℤ-*ℤ a k))

one_less : (a b k : ℤ) → (a +ℤ b) *ℤ k ≡ a *ℤ k +ℤ b *ℤ k → (pred_ℤ a +ℤ b) *ℤ k ≡ pred_ℤ a *ℤ k +ℤ b *ℤ k
one_less a b k e =
    ap (λ z. z *ℤ k) (pred_ℤ-+ℤ a b)
    ∙ pred_ℤ-*ℤ (a +ℤ b) k
    ∙ ap (λ z. z -ℤ k) e
    ∙ last_two (a *ℤ k) (b *ℤ k) (neg_ℤ k)
    ∙ ap (λ z. z +ℤ b *ℤ k) (sym (pred_ℤ-*ℤ a k))

none-times : (b k : ℤ) → (pos zero +ℤ b) *ℤ k ≡ pos zero *ℤ k +ℤ b *ℤ k
none-times b k = ap (λ z. z *ℤ k) (+ℤ_idl b) ∙ sym (+ℤ_idl (b *ℤ k)) ∙ ap (λ z. z +ℤ b *ℤ k) (sym (zero-*ℤ k))

sum-times : (a b k : ℤ) → (a +ℤ b) *ℤ k ≡ a *ℤ k +ℤ b *ℤ k
sum-times (pos zero) b k = none-times b k
sum-times (pos (suc n)) b k = one_more (pos n) b k (sum-times (pos n) b k)
sum-times (negsuc zero) b k = one_less (pos zero) b k (none-times b k)
sum-times (negsuc (suc n)) b k = one_less (negsuc n) b k (sum-times (negsuc n) b k)

pub times-sum : (k a b : ℤ) → k *ℤ (a +ℤ b) ≡ k *ℤ a +ℤ k *ℤ b
times-sum k a b = *ℤ_comm k (a +ℤ b) ∙ sum-times a b k ∙ ap₂ ◌+ℤ◌ (*ℤ_comm a k) (*ℤ_comm b k)
