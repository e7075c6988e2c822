-- Closed texts, decided by computation: what they mean, or where they leave the grammar; and their answer. Also for texts of 1,024 bytes
-- it takes no time to speak of.
use mathlib.Core.Path.{◌≡◌, refl, sym}
use mathlib.Core.Bool.{Bool, true, false, true≢false}
use mathlib.Core.List.{List, ◌∷◌, ◌++◌}
use Prim.Native.Nat.{ℕ}
use lib.ListN.{replicate}
use Rattle.formula.specs.Bytes.{bytes, open_bracket, close_bracket, letter_x}
use Rattle.formula.specs.Tree.{span, Tree, number, variable, sum, difference, product, minus, literal_power, raise, nodes, holds_x}
use Rattle.formula.specs.Grammar.{Formula}
use Rattle.formula.specs.Refusals.{StopsAt}
use Rattle.formula_scan.specs.Scan.{byte_of, negatives, product_with, sum_with, closed, after_power, after_atom, after_digit, after_literal_digit, before_operand, before_exponent, step, Outcome, reads, stops, ended, ending, run, scanned}
use Rattle.formula_scan.specs.Readers.{parity, faulted}
use Rattle.formula_scan.specs.Verdict.{Verdict, refused, accepted, deep_place, outcome_verdict, verdict_for, verdict}
use Rattle.formula_scan.proofs.GrammarScan.{sound, stops_at}

-- What the scan makes of a text, unfolded all the way: name it on the `unfolding` line, and `refl` decides.
unfoldable pub decides : List ℕ → Outcome
unfolding bytes byte_of negatives product_with sum_with closed after_power after_atom after_digit after_literal_digit before_operand before_exponent step ended ending run
decides s = scanned s

pub means : (s : List ℕ) (t : Tree) → decides s ≡ reads t → Formula s t
unfolding decides
means s t e = sound s t e

pub leaves : (s : List ℕ) (p : ℕ) → decides s ≡ stops p → StopsAt s p
unfolding decides
leaves s p e = stops_at s p e

-- ---- what small texts mean
pub left_to_right : Formula (bytes "5-x-1") (difference (span 0 5) (difference (span 0 3) (number (span 0 1) 0 5) (variable (span 2 3))) (number (span 4 5) 4 1))
unfolding decides
left_to_right = means _ _ refl

pub power-first : Formula (bytes "-2*(x+10)^2") (product (span 0 11) (minus (span 0 2) (number (span 1 2) 1 2))
    (literal_power (span 3 11) (sum (span 4 8) (variable (span 4 5)) (number (span 6 8) 6 10)) 9 2))
unfolding decides
power-first = means _ _ refl

pub raised_to_a_sum : Formula (bytes "3^(-x)") (raise (span 0 6) (number (span 0 1) 0 3) 1 (minus (span 3 5) (variable (span 4 5))))
unfolding decides
raised_to_a_sum = means _ _ refl

-- ---- where texts leave the grammar
pub nothing_stops : StopsAt (bytes "") 0
unfolding decides
nothing_stops = leaves _ _ refl

pub leading_zero-stops : StopsAt (bytes "x+007") 3
unfolding decides
leading_zero-stops = leaves _ _ refl

pub second-power-stops : StopsAt (bytes "x^2^3") 3
unfolding decides
second-power-stops = leaves _ _ refl

pub open_bracket_stops : StopsAt (bytes "(x+1") 4
unfolding decides
open_bracket_stops = leaves _ _ refl

pub space_stops : StopsAt (bytes "x + 1") 1
unfolding decides
space_stops = leaves _ _ refl

-- ---- long texts, whose trees need not be written
abbrev pub is_reads : Outcome → Bool
is_reads (reads t) = true
is_reads (stops p) = false

pub in_grammar : (s : List ℕ) → is_reads (decides s) ≡ true → (t : Tree) × Formula s t
in_grammar s e = go (decides s) refl e
  where
    go : (o : Outcome) → decides s ≡ o → is_reads o ≡ true → (t : Tree) × Formula s t
    go (reads t) q h = (t, means s t q)
    go (stops p) q h = absurd (true≢false (sym h))

-- 64 sums, 129 bytes.
pub x_to_64_sums :
    is_reads (decides (bytes "x+x+x+x+x+x+x+x+x+x+x+x+x+x+x+x+x+x+x+x+x+x+x+x+x+x+x+x+x+x+x+x+x+x+x+x+x+x+x+x+x+x+x+x+x+x+x+x+x+x+x+x+x+x+x+x+x+x+x+x+x+x+x+x+x")) ≡ true
unfolding decides
x_to_64_sums = refl

-- 100 brackets around x, 201 bytes.
pub x_in_100_brackets : is_reads (decides (replicate 100 open_bracket ++ letter_x ∷ replicate 100 close_bracket)) ≡ true
unfolding decides
x_in_100_brackets = refl

-- One bracket too few: the text only stops early.
pub x_in_brackets-left_open : StopsAt (replicate 100 open_bracket ++ letter_x ∷ replicate 99 close_bracket) 200
unfolding decides
x_in_brackets-left_open = leaves _ _ refl

-- ---- the whole answer
-- The answer to a text, unfolded all the way: name it on the `unfolding` line, and `refl` decides.
unfoldable pub judges : List ℕ → Verdict
unfolding decides nodes holds_x parity faulted deep_place outcome_verdict verdict_for
judges s = verdict s

pub even_base_refused : verdict (bytes "2^(3)") ≡ refused 8 1
unfolding judges
even_base_refused = refl

pub square_accepted : verdict (bytes "x^2") ≡ accepted (literal_power (span 0 3) (variable (span 0 1)) 1 2)
unfolding judges
square_accepted = refl

pub brackets_33_refused : verdict (replicate 33 open_bracket ++ letter_x ∷ replicate 33 close_bracket) ≡ refused 3 32
unfolding judges
brackets_33_refused = refl

pub bytes_1025_refused : verdict (replicate 1025 letter_x) ≡ refused 2 1024
unfolding judges
bytes_1025_refused = refl
