-- The decimal digits of a number: one digit at a time, how many there are, and that the grammar reads them back as the number.
use mathlib.Core.Path.{◌≡◌, refl, sym, ap, ap₂, ◌∙◌, subst}
use mathlib.Core.Bool.{Bool, true, false}
use mathlib.Core.List.{List, [], ◌∷◌, ◌++◌, append-nil}
use Prim.Native.Nat.{ℕ, zero, suc, ◌+◌, ◌-◌, ◌*◌, ◌/◌, ◌%◌, ◌^◌, ◌≤◌, ◌<◌}
use native.Mathlib.Nat.{not-suc-le-zero, le_of_suc-le-suc, pow-suc}
use native.Mathlib.Omega.{arith}
use lib.Dec.{ltb}
use lib.ListN.{length, get_or, length-append}
use lib.Seq.{append_snoc}
use borrow.Author.Tests.{lt-ltb, le-ltb, ltb-true, ltb-false, ne_eqb}
use Rattle.formula.specs.Bytes.{Digit, digits_from}
use Rattle.formula.specs.Grammar.{Digits, no_digit, digit, Number, nought, digits}
use Rattle.formula.specs.Refusals.{count}
use Rattle.formula.proofs.DigitLists.{digits-both, value-both}
use Rattle.table.specs.Decimal.{last_digits, decimal}

-- ---- lists of digits
pub digit_at : {s : List ℕ} → Digits s → (i : ℕ) → i < length s → Digit (get_or s i 0)
digit_at no_digit i h = absurd (not-suc-le-zero h)
digit_at (digit d more) zero h = d
digit_at (digit d more) (suc i) h = digit_at more i (le_of_suc-le-suc h)

-- No byte below 48 is among them: no tab, no line feed.
pub none_below : {s : List ℕ} → Digits s → (b : ℕ) → b < 48 → count b s ≡ 0
unfolding count
none_below no_digit b h = refl
none_below (digit {d} {ds} small more) b h = rw (ne_eqb d b (λ e. omega (arith, e, small))) (none_below more b h)

-- ---- one digit, or the last digit behind the others
lone : (k n : ℕ) → n < 10 → last_digits (suc k) n ≡ (48 + n) ∷ []
unfolding last_digits
lone k n h = rw (lt-ltb n 10 h)

behind : (k n : ℕ) → 10 ≤ n → last_digits (suc k) n ≡ last_digits k (n / 10) ++ (48 + n % 10) ∷ []
unfolding last_digits
behind k n h = rw (le-ltb n 10 h)

-- More room for digits than there are changes nothing.
roomy : (k m n : ℕ) → n < k → n < m → last_digits k n ≡ last_digits m n
roomy zero m n p q = absurd (not-suc-le-zero p)
roomy (suc k) zero n p q = absurd (not-suc-le-zero q)
roomy (suc k) (suc m) n p q = go (ltb n 10) refl (λ h. roomy k m (n / 10) (omega arith) (omega arith))
  where
    go : (t : Bool) → ltb n 10 ≡ t → (10 ≤ n → last_digits k (n / 10) ≡ last_digits m (n / 10)) → last_digits (suc k) n ≡ last_digits (suc m) n
    go true e others = lone k n (ltb-true n 10 e) ∙ sym (lone m n (ltb-true n 10 e))
    go false e others =
        behind k n (ltb-false n 10 e)
        ∙ ap (λ s. s ++ (48 + n % 10) ∷ []) (others (ltb-false n 10 e))
        ∙ sym (behind m n (ltb-false n 10 e))

pub one_digit : (n : ℕ) → n < 10 → decimal n ≡ (48 + n) ∷ []
one_digit n h = lone n n h

pub last-digit : (n : ℕ) → 10 ≤ n → decimal n ≡ decimal (n / 10) ++ (48 + n % 10) ∷ []
last-digit n h = behind n n h ∙ ap (λ s. s ++ (48 + n % 10) ∷ []) (roomy n (suc (n / 10)) (n / 10) (omega arith) (omega arith))

-- What holds of numbers of one digit, and of n if it holds of n / 10, holds of all.
pub by_digits : (P : ℕ → Type 0) → ((n : ℕ) → n < 10 → P n) → ((n : ℕ) → 10 ≤ n → P (n / 10) → P n) → (n : ℕ) → P n
by_digits P few more n = up_to (suc n) n (omega arith)
  where
    choose : (n : ℕ) (t : Bool) → ltb n 10 ≡ t → (10 ≤ n → P (n / 10)) → P n
    choose n true e below = few n (ltb-true n 10 e)
    choose n false e below = more n (ltb-false n 10 e) (below (ltb-false n 10 e))

    up_to : (k n : ℕ) → n < k → P n
    up_to zero n h = absurd (not-suc-le-zero h)
    up_to (suc k) n h = choose n (ltb n 10) refl (λ g. up_to k (n / 10) (omega arith))

-- ---- how many digits
pub length_one_digit : (n : ℕ) → n < 10 → length (decimal n) ≡ 1
length_one_digit n h = ap length (one_digit n h)

pub length-last-digit : (n : ℕ) → 10 ≤ n → length (decimal n) ≡ length (decimal (n / 10)) + 1
length-last-digit n h = ap length (last-digit n h) ∙ length-append (decimal (n / 10)) ((48 + n % 10) ∷ [])

pub some_digit : (n : ℕ) → 1 ≤ length (decimal n)
some_digit = by_digits (λ n. 1 ≤ length (decimal n)) (λ n h. omega (arith, length_one_digit n h)) (λ n h below. omega (arith, length-last-digit n h))

pub most-digits : (k n : ℕ) → 1 ≤ k → n < 10 ^ k → length (decimal n) ≤ k
most-digits zero n some h = absurd (not-suc-le-zero some)
most-digits (suc zero) n some h = omega (arith, length_one_digit n (omega arith))
most-digits (suc (suc k)) n some h = go (ltb n 10) refl (λ g. most-digits (suc k) (n / 10) (omega arith) (fewer g))
  where
    fewer : 10 ≤ n → n / 10 < 10 ^ suc k
    fewer g = omega (arith, pow-suc 10 (suc k), h)

    go : (t : Bool) → ltb n 10 ≡ t → (10 ≤ n → length (decimal (n / 10)) ≤ suc k) → length (decimal n) ≤ suc (suc k)
    go true e others = omega (arith, length_one_digit n (ltb-true n 10 e))
    go false e others = omega (arith, length-last-digit n (ltb-false n 10 e), others (ltb-false n 10 e))

pub word-digits : (n : ℕ) → n < 2 ^ 64 → length (decimal n) ≤ 20
word-digits n h = most-digits 20 n (omega arith) (omega arith)

-- ---- every byte is a digit, and the grammar reads the number back
small_digit : (n : ℕ) → n < 10 → Digit (48 + n)
small_digit n h = (omega arith, omega arith)

pub all_digits : (n : ℕ) → Digits (decimal n)
all_digits =
    by_digits (λ n. Digits (decimal n))
    (λ n h. subst Digits (sym (one_digit n h)) (digit (small_digit n h) no_digit))
    (λ n h below. subst Digits (sym (last-digit n h)) (digits-both below (digit (small_digit (n % 10) (omega arith)) no_digit)))

pub decimal-value : (n : ℕ) → digits_from 0 (decimal n) ≡ n
unfolding digits_from
decimal-value =
    by_digits (λ n. digits_from 0 (decimal n) ≡ n)
    (λ n h. ap (λ s. digits_from 0 s) (one_digit n h) ∙ omega arith)
    (λ n h below.
    ap (λ s. digits_from 0 s) (last-digit n h)
    ∙ value-both 0 (decimal (n / 10)) ((48 + n % 10) ∷ [])
    ∙ omega (arith, below))

same_number : {s t : List ℕ} {v w : ℕ} → s ≡ t → v ≡ w → Number s v → Number t w
same_number {s} {w = w} e q h = subst (λ x. Number x w) e (subst (λ x. Number s x) q h)

-- More digits behind a number other than 0.
number_more : {s t : List ℕ} {v : ℕ} → Number s v → 0 < v → Digits t → Number (s ++ t) (digits_from v t)
number_more nought some more = absurd (not-suc-le-zero some)
number_more {t = t} (digits {d} {ds} low high others) some more =
    same_number refl (value-both 0 (d ∷ ds) t) (digits low high (digits-both others more))

from_one : (n : ℕ) → 0 < n → Number (decimal n) n
unfolding digits_from
from_one =
    by_digits (λ n. 0 < n → Number (decimal n) n)
    (λ n h some. same_number (sym (one_digit n h)) (alone n) (digits {d = 48 + n} (omega arith) (omega arith) no_digit))
    (λ n h below some.
    same_number (sym (last-digit n h)) (again n)
    (number_more (below (omega arith)) (omega arith) (digit (small_digit (n % 10) (omega arith)) no_digit)))
  where
    alone : (n : ℕ) → 10 * 0 + (48 + n - 48) ≡ n
    alone n = omega arith

    again : (n : ℕ) → 10 * (n / 10) + (48 + n % 10 - 48) ≡ n
    again n = omega arith

-- The round trip.
pub decimal-number : (n : ℕ) → Number (decimal n) n
decimal-number zero = same_number (sym (one_digit 0 (omega arith))) refl nought
decimal-number (suc n) = from_one (suc n) (omega arith)

-- ---- a number has no other digits than these
one_more : (v d : ℕ) → 0 < v → Digit d → decimal (10 * v + (d - 48)) ≡ decimal v ++ d ∷ []
one_more v d some small = last-digit (10 * v + (d - 48)) (omega arith) ∙ ap₂ (λ n c. decimal n ++ c ∷ []) front end
  where
    front : (10 * v + (d - 48)) / 10 ≡ v
    front = omega (arith, small)

    end : 48 + (10 * v + (d - 48)) % 10 ≡ d
    end = omega (arith, small)

pub decimal_more : {ds : List ℕ} → Digits ds → (v : ℕ) → 0 < v → decimal (digits_from v ds) ≡ decimal v ++ ds
unfolding digits_from
decimal_more no_digit v some = sym (append-nil (decimal v))
decimal_more (digit {d} {ds} small more) v some =
    decimal_more more (10 * v + (d - 48)) (omega arith)
    ∙ ap (λ s. s ++ ds) (one_more v d some small)
    ∙ append_snoc (decimal v) d ds

pub decimal_only : {s : List ℕ} {n : ℕ} → Number s n → s ≡ decimal n
unfolding digits_from
decimal_only nought = sym (one_digit 0 (omega arith))
decimal_only (digits {d} {ds} low high more) =
    sym (
    decimal_more more (10 * 0 + (d - 48)) (omega arith)
    ∙ ap (λ s. s ++ ds) (one_digit (10 * 0 + (d - 48)) (omega arith) ∙ ap (λ c. c ∷ []) first)
    )
  where
    first : 48 + (10 * 0 + (d - 48)) ≡ d
    first = omega arith
