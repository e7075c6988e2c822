-- The number of a row's reason, worked out from what the folding rules see of its operands: their kinds, the lengths of their chains and their first
-- elements. That it is the number of the row's reason is in Deciding.antt.
use mathlib.Core.Path.{◌≡◌, refl, ap}
use mathlib.Core.Bool.{Bool, true, false, cond, not, ◌&&◌, ◌||◌}
use Prim.Native.Nat.{ℕ, ◌+◌, ◌*◌}
use lib.Dec.{eqb, leb, ltb}
use Rattle.fold.specs.Folded.{Folded, constant, sum_chain, product_chain, sum_row, difference_row, product_row, minus_row, power_row, raise_row}
use Rattle.fold.specs.Folding.{word_of, is, length_of}
use Rattle.fold.proofs.Origins.{kind_of}
use Rattle.fold.proofs.KindTests.{constant_test}
use Rattle.reason.specs.declared.Seen.{Seen}
use Rattle.reason.specs.Reasons.{is_operator}

-- ---- what is seen of an operand
abbrev pub seen : Folded → Seen
seen a = record { kind = kind_of a; length = length_of a; first = word_of a }

-- The constant n; one of two is; an operator; one of two is.
abbrev pub is_word : ℕ → Seen → Bool
is_word n x = eqb x.kind 0 && eqb x.first n

abbrev pub has_word : ℕ → Seen → Seen → Bool
has_word n a b = is_word n a || is_word n b

abbrev pub operates : Seen → Bool
operates x = ltb 2 x.kind

abbrev pub has_operator : Seen → Seen → Bool
has_operator a b = operates a || operates b

pub word-seen : (n : ℕ) (a : Folded) → is n a ≡ is_word n (seen a)
word-seen n a = ap (λ t. t && eqb (word_of a) n) (constant_test a)

pub operator-seen : (a : Folded) → is_operator a ≡ operates (seen a)
unfolding kind_of
operator-seen (constant c) = refl
operator-seen (sum_chain f) = refl
operator-seen (product_chain f) = refl
operator-seen (sum_row s a b) = refl
operator-seen (difference_row s a b) = refl
operator-seen (product_row s a b) = refl
operator-seen (minus_row s a) = refl
operator-seen (power_row s a n) = refl
operator-seen (raise_row s a b) = refl

-- ---- whether 01 folds the row
-- Under + and -: a 0, or two constants or sum chains.
abbrev pub sum_folds : Seen → Seen → Bool
sum_folds a b = has_word 0 a b || (ltb a.kind 2 && ltb b.kind 2)

-- Under *: a 1, a 0; of constants and chains those of one kind, sum chains if they are not too long together, and a constant with any.
abbrev pub alike_folds : Seen → Seen → Bool
alike_folds a b = cond (eqb a.kind 1) (leb (a.length + b.length) 16) true

abbrev pub product_folds : Seen → Seen → Bool
product_folds a b =
    has_word 1 a b
    || (has_word 0 a b || cond (has_operator a b) false (cond (eqb a.kind b.kind) (alike_folds a b) (eqb a.kind 0 || eqb b.kind 0)))

-- Under minus: constants and chains; under a literal power too, a sum chain if it is not too long.
abbrev pub minus_folds : Seen → Bool
minus_folds a = not (operates a)

abbrev pub power_folds : Seen → ℕ → Bool
power_folds a n = cond (operates a) false (cond (eqb a.kind 1) (leb (a.length * n) 16) true)

-- A raise of a constant: by a constant or a sum chain.
abbrev pub raise_folds : Seen → Bool
raise_folds b = ltb b.kind 2

-- ---- the number where it doesn't
-- Under + - and *: one operand is an operator, or both are chains of kind k, or a sum chain or constant stands against a product chain.
abbrev pub joined_number : (k n : ℕ) → Seen → Seen → ℕ
joined_number k n a b = cond (has_operator a b) 1 (cond (eqb a.kind k && eqb b.kind k) n 4)

abbrev pub power_other : Seen → ℕ
power_other a = cond (operates a) 1 3

-- ---- "The last is judged first"
abbrev pub judged : Bool → ℕ → ℕ
judged folds other = cond folds 7 other

abbrev pub sum_number : Seen → Seen → ℕ
sum_number a b = judged (sum_folds a b) (joined_number 2 5 a b)

abbrev pub product_number : Seen → Seen → ℕ
product_number a b = judged (product_folds a b) (joined_number 1 2 a b)

abbrev pub minus_number : Seen → ℕ
minus_number a = judged (minus_folds a) 1

abbrev pub power_number : Seen → ℕ → ℕ
power_number a n = judged (power_folds a n) (power_other a)

abbrev pub raise_number : Seen → ℕ
raise_number b = judged (raise_folds b) 6

-- The number of a row; a constant and a chain have none.
unfoldable pub reason_of : Folded → ℕ
reason_of (constant c) = 0
reason_of (sum_chain f) = 0
reason_of (product_chain f) = 0
reason_of (sum_row s a b) = sum_number (seen a) (seen b)
reason_of (difference_row s a b) = sum_number (seen a) (seen b)
reason_of (product_row s a b) = product_number (seen a) (seen b)
reason_of (minus_row s a) = minus_number (seen a)
reason_of (power_row s a n) = power_number (seen a) n
reason_of (raise_row s a b) = raise_number (seen b)

-- The same where 01 doesn't fold the row.
unfoldable pub other_of : Folded → ℕ
other_of (constant c) = 0
other_of (sum_chain f) = 0
other_of (product_chain f) = 0
other_of (sum_row s a b) = joined_number 2 5 (seen a) (seen b)
other_of (difference_row s a b) = joined_number 2 5 (seen a) (seen b)
other_of (product_row s a b) = joined_number 1 2 (seen a) (seen b)
other_of (minus_row s a) = 1
other_of (power_row s a n) = power_other (seen a)
other_of (raise_row s a b) = 6
