-- A row of a plan: its words, the table of row kinds, and what 01's table and request Five ask of one row.
-- What a whole plan is, and when it is sound, is in Plan.antt.
use Rattle.std.specs.Prelude.{Bool, true, cond, ◌&&◌, ◌||◌, List, [], ◌∷◌, ℕ, ◌+◌, ◌-◌, ◌%◌, leb, ltb, eqb, length, get_or, take, drop}
use Rattle.plan.specs.Measures.{elements_start, element_count, span_start, longest_text}
use Rattle.plan.specs.declared.Kind.{Kind}

-- "kind, a, b, then 17 element words", and "two more words at its end, first byte and end byte (the byte after the last) of the text it came from".
abbrev pub Row : Type 0
Row = List ℕ

abbrev pub kind : Row → ℕ
kind row = get_or row 0 0

abbrev pub word_a : Row → ℕ
word_a row = get_or row 1 0

abbrev pub word_b : Row → ℕ
word_b row = get_or row 2 0

-- "then 17 element words": those, and no words after them.
abbrev pub elements : Row → List ℕ
elements row = take element_count (drop elements_start row)

abbrev pub first_element : Row → ℕ
first_element row = get_or row elements_start 0

abbrev pub first_byte : Row → ℕ
first_byte row = get_or row span_start 0

abbrev pub end_byte : Row → ℕ
end_byte row = get_or row (span_start + 1) 0

-- "a small constant table from row kind to fixed cost and operand count", for the kinds 0 to 8.
-- The cost of a chain is its length and that of a literal power n - 1; nothing of them is fixed.
abbrev pub costing : ℕ → ℕ → Kind
costing fixed count = record { cost = fixed; operands = count }

abbrev pub kind_table : List Kind
kind_table =
    costing 0 0 ∷ costing 0 0 ∷ costing 0 0 ∷ costing 1 2 ∷ costing 1 2 ∷ costing 1 2 ∷ costing 1 1 ∷ costing 0 1 ∷ costing 128 2 ∷ []

unfoldable pub kind_facts : ℕ → Kind
kind_facts k = get_or kind_table k (costing 0 0)

abbrev pub fixed_cost : ℕ → ℕ
fixed_cost k = (kind_facts k).cost

abbrev pub operand_count : ℕ → ℕ
operand_count k = (kind_facts k).operands

-- "1: sum chain", "2: product chain".
abbrev pub is_chain : ℕ → Bool
is_chain k = eqb k 1 || eqb k 2

-- The column "cost": "length", "n - 1", or the fixed cost.
abbrev pub row_cost : Row → ℕ
row_cost row = cond (is_chain (kind row)) (word_a row) (cond (eqb (kind row) 7) (word_b row - 1) (fixed_cost (kind row)))

-- ---- "it keeps this table, every operand row is earlier, every word named unused is 0"
abbrev pub between : ℕ → ℕ → ℕ → Bool
between least greatest n = leb least n && leb n greatest

-- The column a, in row r of kind k: "length 1..16", an earlier "row", or unused.
abbrev pub sound_a : ℕ → ℕ → ℕ → Bool
sound_a r k a = cond (is_chain k) (between 1 16 a) (cond (ltb 0 (operand_count k)) (ltb a r) (eqb a 0))

-- The column b: "n, 2..64", an earlier "row", or unused.
abbrev pub sound_b : ℕ → ℕ → ℕ → Bool
sound_b r k b = cond (eqb k 7) (between 2 64 b) (cond (eqb (operand_count k) 2) (ltb b r) (eqb b 0))

-- A constant has element 0, a chain of length a the elements 0 to a, an operator none.
abbrev pub elements_used : ℕ → ℕ → ℕ
elements_used k a = cond (eqb k 0) 1 (cond (is_chain k) (a + 1) 0)

unfoldable pub all_zero : List ℕ → Bool
all_zero [] = true
all_zero (a ∷ f) = eqb a 0 && all_zero f

abbrev pub keeps_table : ℕ → Row → Bool
keeps_table r row =
    ltb (kind row) 9
    && (sound_a r (kind row) (word_a row)
    && (sound_b r (kind row) (word_b row)
    && all_zero (drop (elements_used (kind row) (word_a row)) (elements row))))

-- "8: raise: constant row, odd".
abbrev pub odd_constant : Row → Bool
odd_constant row = eqb (kind row) 0 && eqb (first_element row % 2) 1

abbrev pub sound_base : List Row → Row → Bool
sound_base earlier row = cond (eqb (kind row) 8) (odd_constant (get_or earlier (word_a row) [])) true

-- "in each row counted by word 0, the first byte is below the end byte and the end is at most 1,024".
abbrev pub sound_span : Row → Bool
sound_span row = ltb (first_byte row) (end_byte row) && leb (end_byte row) longest_text

abbrev pub sound_row : List Row → Row → Bool
sound_row earlier row = keeps_table (length earlier) row && (sound_base earlier row && sound_span row)
