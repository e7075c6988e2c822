-- What a reader found, read off one word: the nodes, the fault, the place and three flags, each in digits of its own.
-- The word travels in a register where the struct would travel over the stack. Nobody has to believe this page.
use Rattle.std.specs.Prelude.{◌≡◌, Bool, false, cond, Result, Ok, Err, List, ℕ, ◌/◌, ◌%◌, ◌≤◌, ◌<◌, eqb, length}
use Rattle.formula_scan.specs.declared.Parsed.{Parsed}
use Rattle.formula_scan.specs.Fields.{Found, Left, as_parsed}
use Rattle.formula_scan.specs.Readers.{fault_places, no_fault}

-- Above the code of any fault, and above `no_fault`.
abbrev pub fault_codes : ℕ
fault_codes = 32768

-- Above what three flags make.
abbrev pub flags : ℕ
flags = 8

-- A flag as a digit.
abbrev pub flag : Bool → ℕ
flag b = cond b 1 0

-- From the lowest digit on: whether there is a tree, whether x stands in it, its oddness, the place, the fault, the nodes.
abbrev pub unpacked : ℕ → Found
unpacked word = record {
  ok = eqb (word % 2) 1;
  variable = eqb (word / 2 % 2) 1;
  odd = word / 4 % 2;
  at = word / flags % fault_places;
  nodes = word / flags / fault_places / fault_codes;
  fault = word / flags / fault_places % fault_codes;
}

-- What waits on the left of a sign, read off one word: from the lowest digit on its oddness, whether x stands in it, the sign, the first byte.
abbrev pub left_of : ℕ → Left
left_of word = record { first = word / 4 / 256; sign = word / 4 % 256; variable = eqb (word / 2 % 2) 1; odd = word % 2 }

-- What a reader answers tells what is found: all of a tree, of a stop its place.
abbrev pub Tells : Found → Result Parsed ℕ → Type 0
Tells f (Ok p) = f ≡ as_parsed p
Tells f (Err at) = (f.ok ≡ false) × (f.at ≡ at)

-- What is found fits one word.
pub record Packable (f : Found) : Type 0 where
  pub odd_packs : f.odd < 2
  pub place_packs : f.at < fault_places
  pub nodes_pack : f.nodes < fault_places
  pub fault_packs : f.fault < fault_codes

-- A text, and the least fault before it, of which all that can be found fits one word.
abbrev pub Packs : List ℕ → ℕ → Type 0
Packs l f = (length l < fault_places) × (f ≤ no_fault)
