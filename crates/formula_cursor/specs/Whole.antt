-- What is found of a text from a place on, and of a whole text. What a sum reader finds is in `formula_scan`.
use Rattle.std.specs.Prelude.{◌≡◌, cond, ◌&&◌, List, ℕ, leb, length}
use Rattle.formula_scan.specs.Fields.{Found}
use Rattle.formula_scan.specs.Readers.{no_fault, stopping, SumRead}

-- What is found of the sum that begins at a place, with no node and no fault before it, and what is written of it over the words `out`.
abbrev pub Scanned : ℕ → List ℕ → ℕ → List ℕ → Found → List ℕ → Type 0
Scanned w l place out r now = SumRead w l place 0 no_fault out r now

-- What was found of a sum, if there is one and no byte of the text is left from a place on; else no formula goes on past that place.
abbrev pub if_ended : List ℕ → ℕ → Found → Found
if_ended l place sum = cond (sum.ok && leb (length l) place) sum (stopping place)

-- What is found of a whole text, and written over the words `out`: of the sum that begins at place 0, if the text ends with it.
pub record WholeRead (w : ℕ) (l out : List ℕ) (r : Found) (now : List ℕ) : Type 0 where
  pub sum : Found
  pub scanned : Scanned w l 0 out sum now
  pub is : r ≡ if_ended l sum.at sum
