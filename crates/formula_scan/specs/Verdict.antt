-- The answer to a text as one function: its refusal, or its tree. Nobody has to believe this page: proofs/Verdicts.antt shows that it
-- says what `formula`'s Refusals.antt says.
use Rattle.std.specs.Prelude.{cond, List, [], ◌∷◌, ℕ, ◌+◌, ◌/◌, ◌%◌, eqb, ltb, length}
use Rattle.formula.specs.Bytes.{open_bracket, close_bracket}
use Rattle.formula.specs.Tree.{Tree}
use Rattle.formula_scan.specs.Scan.{Outcome, reads, stops, scanned}
use Rattle.formula_scan.specs.Readers.{fault_places, no_fault, code}

-- A refusal's number and place, or the tree of an accepted text.
pub data Verdict : Type 0 where
  refused : (number place : ℕ) → Verdict
  accepted : Tree → Verdict

-- One more if the byte is the one that is counted.
abbrev pub counting : ℕ → ℕ → ℕ → ℕ
counting which byte n = cond (eqb byte which) (n + 1) n

-- The first ( that opens more than 32, counted from `opened` and `closed` at place `at` on; the place of the end if there is none.
unfoldable pub deep_place : (opened closed at : ℕ) → List ℕ → ℕ
deep_place opened closed at [] = at
deep_place opened closed at (c ∷ s) =
    cond (ltb (32 + counting close_bracket c closed) (counting open_bracket c opened)) at
    (deep_place (counting open_bracket c opened) (counting close_bracket c closed) (at + 1) s)

-- 5 to 8, or none: a code has the number and the place.
abbrev pub code_verdict : Tree → ℕ → Verdict
code_verdict t c = cond (ltb c no_fault) (refused (c / fault_places) (c % fault_places)) (accepted t)

-- 4 to 8, or none, of what the scan makes of the text.
unfoldable pub outcome_verdict : ℕ → Outcome → Verdict
outcome_verdict w (stops p) = refused 4 p
outcome_verdict w (reads t) = code_verdict t (code w t)

-- 3 to 8, or none, of a text of that length with its first ( that is too deep at place p.
abbrev pub short_verdict : ℕ → ℕ → ℕ → Outcome → Verdict
short_verdict w size p o = cond (ltb p size) (refused 3 p) (outcome_verdict w o)

-- 2 to 8, or none, by words of width w; and by those of 64 bits.
unfoldable pub verdict_for : ℕ → List ℕ → Verdict
verdict_for w s = cond (ltb 1024 (length s)) (refused 2 1024) (short_verdict w (length s) (deep_place 0 0 0 s) (scanned s))

abbrev pub verdict : List ℕ → Verdict
verdict s = verdict_for 64 s
