-- The probe of a reading against what was expected, with a tolerance. The width w of words is a parameter; the box has w = 64.
-- Signed numbers are the library's ℤ, and `int_lt a b` is its test of a < b. Laws about these definitions are in proofs/Laws.antt.
use Rattle.std.specs.Prelude.{ℕ, Bool, true, cond, ◌&&◌, List, [], ◌∷◌, ℤ, pos, neg_ℤ, ◌==◌, int_lt, nat_lt}
use Rattle.word.specs.Word.{difference}
use Rattle.word.specs.Signed.{half, signed}
use Rattle.probe.specs.Answer.{Verdict, NoVerdict, Within, Ahead, Behind, Unset, ProbeAnswer}

-- "offset = reading - expected modulo 2^64, read as a signed number".
abbrev pub offset : ℕ → ℕ → ℕ → ℤ
offset w reading expected = signed w (difference w reading expected)

-- "Offset above T is *ahead*, below -T is *behind*, else *within*."
abbrev pub verdict : ℤ → ℕ → Verdict
verdict z t = cond (int_lt (pos t) z) Ahead (cond (int_lt z (neg_ℤ (pos t))) Behind Within)

-- "An accepted call answers number 0, place 0".
abbrev pub accepted : ℤ → Verdict → ProbeAnswer
accepted z v = record { number = 0; place = 0; offset = z; verdict = v }

-- Request Three of document 02: "Reading 0 now gets a verdict of its own, *unset*, with offset 0, for every expected word and tolerance. An expected word
-- of 0 stays ordinary." Whether a reading of 0 is no time at all is a parameter: in the 32-bit short format "A reading of 0 is ordinary".
abbrev pub is_unset : Bool → ℕ → Bool
is_unset zero_is_no_time reading = zero_is_no_time && reading == 0

abbrev pub judged : ℕ → Bool → ℕ → ℕ → ℕ → ProbeAnswer
judged w zero_is_no_time reading expected tolerance =
    cond (is_unset zero_is_no_time reading) (accepted (pos 0) Unset)
    (accepted (offset w reading expected) (verdict (offset w reading expected) tolerance))

-- Refusal 10 has place 0; "a refused probe returns offset 0 and no verdict".
abbrev pub refused : ProbeAnswer
refused = record { number = 10; place = 0; offset = pos 0; verdict = NoVerdict }

-- Refusal 10: "T is 2^63 or more"; "Refusal 10 still comes first".
abbrev pub probe_answer : ℕ → ℕ → ℕ → ProbeAnswer
probe_answer reading expected tolerance = cond (nat_lt tolerance (half 64)) (judged 64 true reading expected tolerance) refused

-- "*ahead*", "*behind*", "*within*", "*unset*": each word as its bytes.
abbrev pub ahead : List ℕ
ahead = 97 ∷ 104 ∷ 101 ∷ 97 ∷ 100 ∷ []

abbrev pub behind : List ℕ
behind = 98 ∷ 101 ∷ 104 ∷ 105 ∷ 110 ∷ 100 ∷ []

abbrev pub within : List ℕ
within = 119 ∷ 105 ∷ 116 ∷ 104 ∷ 105 ∷ 110 ∷ []

abbrev pub unset : List ℕ
unset = 117 ∷ 110 ∷ 115 ∷ 101 ∷ 116 ∷ []

-- The word that each verdict stands for; "no verdict" has no byte.
abbrev pub verdict_word : Verdict → List ℕ
verdict_word NoVerdict = []
verdict_word Within = within
verdict_word Ahead = ahead
verdict_word Behind = behind
verdict_word Unset = unset

-- The word that the whole answer's verdict stands for.
abbrev pub probe_word : ℕ → ℕ → ℕ → List ℕ
probe_word reading expected tolerance = verdict_word (probe_answer reading expected tolerance).verdict
