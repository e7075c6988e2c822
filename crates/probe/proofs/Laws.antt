-- Laws of the probe, over the width w wherever words are computed: uniqueness, the offset's range and meaning, the verdicts.
-- `◌<ℤ◌` and `◌≤ℤ◌` are the library's orders on signed numbers.
use Rattle.std.proofs.Common.{◌≡◌, ℕ, zero, suc, ◌+◌, ◌-◌, ◌%◌, ◌^◌, ◌<◌, ℤ, pos, negsuc, neg_ℤ, ◌≤ℤ◌, ◌<ℤ◌, refl, not-suc-le-zero, arith, ltb→lt, lt-ltb, ne_eqb, Result, Ok, Err, ap, ap₂, sym}
use lib.Signed.{lt_z, clash_ℤ, lt_z_yes}
use Rattle.word.specs.Word.{word, sum, difference}
use Rattle.word.proofs.Ring.{word_fits, difference-sum}
use Rattle.word.specs.Signed.{half, word_of}
use Rattle.word.proofs.SignedWords.{signed_range, signed_word}
use Rattle.word.proofs.WholeNumbers.{passed, failed}
use Rattle.word.proofs.Unique.{both_are}
use Rattle.probe.specs.declared.Verdict.{Verdict as Judgement}
use Rattle.probe.specs.declared.Verdict.TheVariants as Judged
use Rattle.probe.specs.declared.Reading.{Reading}
use Rattle.probe.specs.declared.ToleranceTooLarge.{ToleranceTooLarge}
use Rattle.probe.specs.Answer.{Behind, Unset, ProbeAnswer, as_verdict, as_probe_answer}
use Rattle.probe.specs.Probe.{offset, verdict, accepted, probe_answer, ahead, behind, within, verdict_word}

-- Any two answers that meet the contract are equal.
pub probe_unique : (reading expected tolerance : ℕ) (r s : ProbeAnswer)
    → r ≡ probe_answer reading expected tolerance → s ≡ probe_answer reading expected tolerance → r ≡ s
probe_unique reading expected tolerance r s = both_are

-- A result is all that its record says: verdicts with one name are one verdict, and results with one record are one result.
pub same-verdict : (v w : Judgement) → as_verdict v ≡ as_verdict w → v ≡ w
same-verdict Judged.Within Judged.Within e = refl
same-verdict Judged.Within Judged.Ahead e = cc
same-verdict Judged.Within Judged.Behind e = cc
same-verdict Judged.Within Judged.Unset e = cc
same-verdict Judged.Ahead Judged.Within e = cc
same-verdict Judged.Ahead Judged.Ahead e = refl
same-verdict Judged.Ahead Judged.Behind e = cc
same-verdict Judged.Ahead Judged.Unset e = cc
same-verdict Judged.Behind Judged.Within e = cc
same-verdict Judged.Behind Judged.Ahead e = cc
same-verdict Judged.Behind Judged.Behind e = refl
same-verdict Judged.Behind Judged.Unset e = cc
same-verdict Judged.Unset Judged.Within e = cc
same-verdict Judged.Unset Judged.Ahead e = cc
same-verdict Judged.Unset Judged.Behind e = cc
same-verdict Judged.Unset Judged.Unset e = refl

accepted-or-refused : (number : ℕ) → number ≡ 0 → number ≡ 10 → ⊥
accepted-or-refused number accepted refused = omega arith

pub same-result : (r s : Result Reading ToleranceTooLarge) → as_probe_answer r ≡ as_probe_answer s → r ≡ s
same-result (Ok r) (Ok s) e =
    ap₂ {C = Result Reading ToleranceTooLarge} (λ offset verdict. Ok (record { offset = offset; verdict = verdict }))
    (ap (λ (a : ProbeAnswer). a.offset) e) (same-verdict r.verdict s.verdict (ap (λ (a : ProbeAnswer). a.verdict) e))
same-result (Ok r) (Err y) e = absurd (accepted-or-refused 0 refl (ap (λ (a : ProbeAnswer). a.number) e))
same-result (Err x) (Ok s) e = absurd (accepted-or-refused 0 refl (ap (λ (a : ProbeAnswer). a.number) (sym e)))
same-result (Err x) (Err y) e = refl

-- ---- the offset
difference_fits : (w reading expected : ℕ) → difference w reading expected < 2 ^ w
difference_fits w reading expected = word_fits w (reading + (2 ^ w - expected % 2 ^ w))

-- "a signed number from -2^63 to 2^63 - 1".
pub offset_range : (w reading expected : ℕ) → 0 < w
    → (neg_ℤ (pos (half w)) ≤ℤ offset w reading expected) × (offset w reading expected ≤ℤ pos (half w - 1))
offset_range w reading expected some =
    signed_range w (difference w reading expected) some (difference_fits w reading expected)

-- "offset = reading - expected modulo 2^64": the offset's word added to what was expected is the reading.
pub offset_word : (w reading expected : ℕ) → sum w (word_of w (offset w reading expected)) expected ≡ word w reading
offset_word w reading expected =
    rw (signed_word w (difference w reading expected) (difference_fits w reading expected))
    (difference-sum w reading expected)

-- ---- the verdict
-- "Offset above T is *ahead*".
pub above_is-ahead : (z : ℤ) (t : ℕ) → pos t <ℤ z → verdict_word (verdict z t) ≡ ahead
above_is-ahead z t above = rw (passed (lt_z (pos t) z) above.lt)

-- "below -T is *behind*".
pub below_is-behind : (z : ℤ) (t : ℕ) → z <ℤ neg_ℤ (pos t) → verdict_word (verdict z t) ≡ behind
below_is-behind (pos n) zero below = absurd (not-suc-le-zero (ltb→lt n 0 below.lt))
below_is-behind (pos n) (suc t) below = absurd below.lt
below_is-behind (negsuc n) t below = rw (passed (lt_z (negsuc n) (neg_ℤ (pos t))) below.lt)

-- "else *within*".
pub else_is-within : (z : ℤ) (t : ℕ) → neg_ℤ (pos t) ≤ℤ z → z ≤ℤ pos t → verdict_word (verdict z t) ≡ within
else_is-within z t low high =
    rw (failed (lt_z (pos t) z) (λ above. clash_ℤ (lt_z_yes above) high), failed (lt_z z (neg_ℤ (pos t))) (λ below. clash_ℤ (lt_z_yes below) low))

-- "Offset -2^63 is always behind": at every tolerance that is accepted.
pub lowest_is-behind : (w t : ℕ) → t < half w → verdict (neg_ℤ (pos (half w))) t ≡ Behind
lowest_is-behind w t small = at (half w) t small
  where
    at : (n t : ℕ) → t < n → verdict (neg_ℤ (pos n)) t ≡ Behind
    at zero t h = absurd (not-suc-le-zero h)
    at (suc n) zero h = refl
    at (suc n) (suc t) h = rw (lt-ltb t n (omega arith))

-- "Reading 0 now gets a verdict of its own, *unset*, with offset 0", at every tolerance that is accepted.
pub zero-is-unset : (expected tolerance : ℕ) → tolerance < half 64 → probe_answer 0 expected tolerance ≡ accepted (pos 0) Unset
zero-is-unset expected tolerance fits = rw (lt-ltb tolerance (half 64) fits)

-- Every other reading is judged by its offset, whatever is expected.
pub other_is-judged : (reading expected tolerance : ℕ) → tolerance < half 64 → (reading ≡ 0 → ⊥)
    → probe_answer reading expected tolerance ≡ accepted (offset 64 reading expected) (verdict (offset 64 reading expected) tolerance)
other_is-judged reading expected tolerance fits set = rw (lt-ltb tolerance (half 64) fits, ne_eqb reading 0 set)
