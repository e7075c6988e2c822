-- Three words stored in lent words, and an array laid behind them: a row of a plan and an answer at the door are written so.
use Rattle.std.proofs.Common.{◌≡◌, ℕ, suc, ◌+◌, ◌≤◌, List, [], ◌∷◌, ◌++◌, length, take, drop, set, refl, ap, ◌∙◌, ap₂, append-nil, le_of_suc-le-suc, not-suc-le-zero, arith, length-drop, drop_of_length-le}

three_words : (l : List ℕ) (a b c : ℕ) → 3 ≤ length l → set (set (set l 0 a) 1 b) 2 c ≡ a ∷ b ∷ c ∷ drop 3 l
three_words [] a b c h = absurd (not-suc-le-zero h)
three_words (x ∷ []) a b c h = absurd (not-suc-le-zero (le_of_suc-le-suc h))
three_words (x ∷ y ∷ []) a b c h = absurd (not-suc-le-zero (le_of_suc-le-suc (le_of_suc-le-suc h)))
three_words (x ∷ y ∷ z ∷ f) a b c h = refl

-- What the code leaves: the part behind the first three words is put back as e.
pub laid-behind : (l e : List ℕ) (a b c : ℕ) {new : List ℕ} → length l ≡ 3 + 17 → new ≡ e
    → take 3 (set (set (set l 0 a) 1 b) 2 c) ++ (new ++ drop 17 (drop 3 (set (set (set l 0 a) 1 b) 2 c))) ≡ a ∷ b ∷ c ∷ e
laid-behind l e a b c long laid =
    ap₂ (λ m f. take 3 m ++ (f ++ drop 17 (drop 3 m))) (three_words l a b c (omega arith)) laid
    ∙ ap {B = List ℕ} (λ f. a ∷ b ∷ c ∷ f)
    (ap (λ f. e ++ f) (drop_of_length-le (drop 3 l) {i = 17} (omega (arith, length-drop 3 l))) ∙ append-nil e)

pub length-laid : (a b c : ℕ) (e : List ℕ) → length e ≡ 17 → length (a ∷ b ∷ c ∷ e) ≡ 3 + 17
length-laid a b c e h = ap (λ n. suc (suc (suc n))) h
