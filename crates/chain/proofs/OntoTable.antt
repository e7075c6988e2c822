-- The table of 289 numbers: its recurrence is one test over all entries, and the law that gives each entry follows.
use mathlib.Core.Path.{◌≡◌, sym, ap, ap₂, ◌∙◌}
use mathlib.Core.Bool.{Bool, cond}
use mathlib.Core.List.{List, [], ◌∷◌}
use Prim.Native.Nat.{ℕ, zero, suc, ◌+◌, ◌-◌, ◌*◌, ◌%◌, ◌<◌}
use native.Mathlib.Omega.{arith}
use lib.Dec.{eqb, ltb, eqb→eq, eqb-suc-zero}
use lib.ListN.{get_or}
use borrow.Author.Tests.{lt-ltb, le-ltb, eq-eqb, ne_eqb}
use Rattle.chain.specs.Coefficients.{onto}
use Rattle.chain.proofs.Tables.{at_entry}
use Rattle.chain.proofs.CoefficientLaws.{onto-start, onto-none, onto-zero, onto-next}

-- Entry 17 * j + m.
unfoldable pub table : List ℕ
table =
    1 ∷ 0 ∷ 0 ∷ 0 ∷ 0 ∷ 0 ∷ 0 ∷ 0 ∷ 0 ∷ 0 ∷ 0 ∷ 0 ∷ 0 ∷ 0 ∷ 0 ∷ 0 ∷ 0 ∷
    0 ∷ 1 ∷ 0 ∷ 0 ∷ 0 ∷ 0 ∷ 0 ∷ 0 ∷ 0 ∷ 0 ∷ 0 ∷ 0 ∷ 0 ∷ 0 ∷ 0 ∷ 0 ∷ 0 ∷
    0 ∷ 1 ∷ 2 ∷ 0 ∷ 0 ∷ 0 ∷ 0 ∷ 0 ∷ 0 ∷ 0 ∷ 0 ∷ 0 ∷ 0 ∷ 0 ∷ 0 ∷ 0 ∷ 0 ∷
    0 ∷ 1 ∷ 6 ∷ 6 ∷ 0 ∷ 0 ∷ 0 ∷ 0 ∷ 0 ∷ 0 ∷ 0 ∷ 0 ∷ 0 ∷ 0 ∷ 0 ∷ 0 ∷ 0 ∷
    0 ∷ 1 ∷ 14 ∷ 36 ∷ 24 ∷ 0 ∷ 0 ∷ 0 ∷ 0 ∷ 0 ∷ 0 ∷ 0 ∷ 0 ∷ 0 ∷ 0 ∷ 0 ∷ 0 ∷
    0 ∷ 1 ∷ 30 ∷ 150 ∷ 240 ∷ 120 ∷ 0 ∷ 0 ∷ 0 ∷ 0 ∷ 0 ∷ 0 ∷ 0 ∷ 0 ∷ 0 ∷ 0 ∷ 0 ∷
    0 ∷ 1 ∷ 62 ∷ 540 ∷ 1560 ∷ 1800 ∷ 720 ∷ 0 ∷ 0 ∷ 0 ∷ 0 ∷ 0 ∷ 0 ∷ 0 ∷ 0 ∷ 0 ∷ 0 ∷
    0 ∷ 1 ∷ 126 ∷ 1806 ∷ 8400 ∷ 16800 ∷ 15120 ∷ 5040 ∷ 0 ∷ 0 ∷ 0 ∷ 0 ∷ 0 ∷ 0 ∷ 0 ∷ 0 ∷ 0 ∷
    0 ∷ 1 ∷ 254 ∷ 5796 ∷ 40824 ∷ 126000 ∷ 191520 ∷ 141120 ∷ 40320 ∷ 0 ∷ 0 ∷ 0 ∷ 0 ∷ 0 ∷ 0 ∷ 0 ∷ 0 ∷
    0 ∷ 1 ∷ 510 ∷ 18150 ∷ 186480 ∷ 834120 ∷ 1905120 ∷ 2328480 ∷ 1451520 ∷ 362880 ∷ 0 ∷ 0 ∷ 0 ∷ 0 ∷ 0 ∷ 0 ∷ 0 ∷
    0 ∷ 1 ∷ 1022 ∷ 55980 ∷ 818520 ∷ 5103000 ∷ 16435440 ∷ 29635200 ∷ 30240000 ∷ 16329600 ∷ 3628800 ∷ 0 ∷ 0 ∷ 0 ∷ 0 ∷ 0 ∷ 0 ∷
    0 ∷ 1 ∷ 2046 ∷ 171006 ∷ 3498000 ∷ 29607600 ∷ 129230640 ∷ 322494480 ∷ 479001600 ∷ 419126400 ∷ 199584000 ∷ 39916800 ∷ 0 ∷ 0 ∷ 0 ∷ 0 ∷ 0 ∷
    0 ∷ 1 ∷ 4094 ∷ 519156 ∷ 14676024 ∷ 165528000 ∷ 953029440 ∷ 3162075840 ∷ 6411968640 ∷ 8083152000 ∷ 6187104000 ∷ 2634508800 ∷ 479001600 ∷ 0 ∷ 0 ∷ 0 ∷ 0 ∷
    0 ∷ 1 ∷ 8190 ∷ 1569750 ∷ 60780720 ∷ 901020120 ∷ 6711344640 ∷ 28805736960 ∷ 76592355840 ∷ 130456085760 ∷ 142702560000 ∷ 97037740800 ∷ 37362124800 ∷ 6227020800 ∷ 0 ∷ 0 ∷ 0 ∷
    0 ∷ 1 ∷ 16382 ∷ 4733820 ∷ 249401880 ∷ 4809004200 ∷ 45674188560 ∷ 248619571200 ∷ 843184742400 ∷ 1863435974400 ∷ 2731586457600 ∷ 2637143308800 ∷ 1612798387200 ∷ 566658892800 ∷ 87178291200 ∷ 0 ∷ 0 ∷
    0 ∷ 1 ∷ 32766 ∷ 14250606 ∷ 1016542800 ∷ 25292030400 ∷ 302899156560 ∷ 2060056318320 ∷ 8734434508800 ∷ 24359586451200 ∷ 45950224320000 ∷ 59056027430400 ∷ 50999300352000 ∷ 28332944640000 ∷ 9153720576000 ∷ 1307674368000 ∷ 0 ∷
    0 ∷ 1 ∷ 65534 ∷ 42850116 ∷ 4123173624 ∷ 131542866000 ∷ 1969147121760 ∷ 16540688324160 ∷ 86355926616960 ∷ 297846188640000 ∷ 703098107712000 ∷ 1155068769254400 ∷ 1320663933388800 ∷ 1031319184896000 ∷ 524813313024000 ∷ 156920924160000 ∷ 20922789888000 ∷
    []

-- What stands at place k, by the recurrence, from the entries 17 and 18 places before: 1 at the first place, 0 in the rest of the
-- first row and of the first column, else m * (the entry above + the one before that).
expected : ℕ → ℕ
expected k =
    cond (ltb k 17) (cond (eqb k 0) 1 0) (cond (eqb (k % 17) 0) 0 (k % 17 * (get_or table (k - 17) 0 + get_or table (k - 18) 0)))

test : ℕ → ℕ → Bool
test k x = eqb x (expected k)

recurrence : (k : ℕ) → k < 289 → get_or table k 0 ≡ expected k
unfolding table test expected
recurrence k h = eqb→eq (get_or table k 0) (expected k) (at_entry test table tt k h)

first-row : (m : ℕ) → m < 17 → get_or table m 0 ≡ onto 0 m
unfolding expected
first-row m h = recurrence m (omega arith) ∙ rw (lt-ltb m 17 h) (go m)
  where
    go : (m : ℕ) → cond (eqb m 0) 1 0 ≡ onto 0 m
    go zero = sym onto-start
    go (suc m) = rw (eqb-suc-zero m) (sym (onto-none m))

pub table_entry : (j m : ℕ) → j < 17 → m < 17 → get_or table (17 * j + m) 0 ≡ onto j m
unfolding expected
table_entry zero m p q = ap (λ k. get_or table k 0) (omega arith) ∙ first-row m q
table_entry (suc j) zero p q = recurrence (17 * suc j + 0) (omega arith) ∙ rw (le-ltb (17 * suc j + 0) 17 (omega arith), eq-eqb ((17 * suc j + 0) % 17) 0 (omega arith)) (sym (onto-zero j))
table_entry (suc j) (suc m) p q =
    recurrence (17 * suc j + suc m) (omega arith)
    ∙ rw (le-ltb (17 * suc j + suc m) 17 (omega arith), ne_eqb ((17 * suc j + suc m) % 17) 0 (omega arith))
    (ap₂ ◌*◌ column
    (ap₂ ◌+◌
    (ap (λ k. get_or table k 0) above ∙ table_entry j (suc m) (omega arith) q)
    (ap (λ k. get_or table k 0) before ∙ table_entry j m (omega arith) (omega arith))))
    ∙ sym (onto-next j m)
  where
    column : (17 * suc j + suc m) % 17 ≡ suc m
    column = omega arith

    above : 17 * suc j + suc m - 17 ≡ 17 * j + suc m
    above = omega arith

    before : 17 * suc j + suc m - 18 ≡ 17 * j + m
    before = omega arith
