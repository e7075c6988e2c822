-- The grammar: which marks, bytes with their places, mean which tree. One constructor for each sentence of 01.
use Rattle.std.specs.Prelude.{List, [], ◌∷◌, ◌++◌, ℕ, suc, ◌≤◌}
use Rattle.formula.specs.Bytes.{open_bracket, close_bracket, star, plus_sign, minus_sign, caret, letter_x, Digit, digits_from}
use Rattle.formula.specs.Marks.{Mark, mark, marked}
use Rattle.formula.specs.Tree.{Span, span, Tree, number, variable, sum, difference, product, minus, literal_power, raise}

pub data Digits : List ℕ → Type 0 where
  no_digit : Digits []
  digit : {d : ℕ} {ds : List ℕ} → Digit d → Digits ds → Digits (d ∷ ds)

-- "A number is 0, or digits that don't begin with 0." It means their value.
pub data Number : List ℕ → ℕ → Type 0 where
  nought : Number (48 ∷ []) 0
  digits : {d : ℕ} {ds : List ℕ} → 49 ≤ d → d ≤ 57 → Digits ds → Number (d ∷ ds) (digits_from 0 (d ∷ ds))

-- What marks cover: from the first one's place to the byte after the last one.
unfoldable pub first_place : List Mark → ℕ
first_place [] = 0
first_place (mark p c ∷ m) = p

unfoldable pub end_place : List Mark → ℕ
end_place [] = 0
end_place (mark p c ∷ []) = suc p
end_place (mark p c ∷ m ∷ more) = end_place (m ∷ more)

abbrev pub covered : List Mark → Span
covered m = span (first_place m) (end_place m)

pub data Sort : Type 0 where
  a_sum : Sort
  a_product : Sort
  a_factor : Sort
  a_power : Sort
  an_atom : Sort

-- `Means sort marks tree`: the marks are of that sort and mean that tree. Each node knows what the marks that mean it cover: "with the brackets
-- around it counted only if they lie inside" (document 02, request Five). A number knows the place of its first digit, and its digits stand side by
-- side; a power knows the place of its ^.
pub data Means : Sort → List Mark → Tree → Type 0 where
  -- "A sum is products joined by + or -, left to right."
  one_product : {s : List Mark} {t : Tree} → Means a_product s t → Means a_sum s t
  joined_by_plus : (p : ℕ) {s r : List Mark} {t u : Tree} → Means a_sum s t → Means a_product r u
      → Means a_sum (s ++ mark p plus_sign ∷ r) (sum (covered (s ++ mark p plus_sign ∷ r)) t u)
  joined_by_minus : (p : ℕ) {s r : List Mark} {t u : Tree} → Means a_sum s t → Means a_product r u
      → Means a_sum (s ++ mark p minus_sign ∷ r) (difference (covered (s ++ mark p minus_sign ∷ r)) t u)
  -- "A product is factors joined by *, left to right."
  one_factor : {s : List Mark} {t : Tree} → Means a_factor s t → Means a_product s t
  joined_by_star : (p : ℕ) {s r : List Mark} {t u : Tree} → Means a_product s t → Means a_factor r u
      → Means a_product (s ++ mark p star ∷ r) (product (covered (s ++ mark p star ∷ r)) t u)
  -- "A factor is any number of leading minus signs, then a power."
  only_power : {s : List Mark} {t : Tree} → Means a_power s t → Means a_factor s t
  leading_minus : {p : ℕ} {s : List Mark} {t : Tree} → Means a_factor s t
      → Means a_factor (mark p minus_sign ∷ s) (minus (covered (mark p minus_sign ∷ s)) t)
  -- "A power is an atom, perhaps followed by one ^ and an exponent. An exponent is a number, or a sum in round brackets."
  only_atom : {s : List Mark} {t : Tree} → Means an_atom s t → Means a_power s t
  to_a_number : (p first : ℕ) {s : List Mark} {ds : List ℕ} {t : Tree} {n : ℕ} → Means an_atom s t → Number ds n
      → Means a_power (s ++ mark p caret ∷ marked first ds) (literal_power (covered (s ++ mark p caret ∷ marked first ds)) t p n)
  to_a_sum : (p opens closes : ℕ) {s r : List Mark} {t u : Tree} → Means an_atom s t → Means a_sum r u
      → Means a_power (s ++ mark p caret ∷ mark opens open_bracket ∷ r ++ mark closes close_bracket ∷ []) (raise (covered (s ++ mark p caret ∷ mark opens open_bracket ∷ r ++ mark closes close_bracket ∷ [])) t p u)
  -- "An atom is a number, x, or a sum in round brackets."
  a_number : {p : ℕ} {ds : List ℕ} {v : ℕ} → Number ds v → Means an_atom (marked p ds) (number (covered (marked p ds)) p v)
  an_x : {p : ℕ} → Means an_atom (mark p letter_x ∷ []) (variable (covered (mark p letter_x ∷ [])))
  bracketed_sum : {opens : ℕ} (closes : ℕ) {s : List Mark} {t : Tree} → Means a_sum s t
      → Means an_atom (mark opens open_bracket ∷ s ++ mark closes close_bracket ∷ []) t

-- A grammar text, and its tree: a sum whose first byte stands at place 0.
pub record Formula (s : List ℕ) (t : Tree) : Type 0 where
  pub as_a_sum : Means a_sum (marked 0 s) t
