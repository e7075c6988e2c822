-- A folded tree that stands in a lent plan from row n on, under a span, and a plan into which one is put. The rest of the plan may hold anything.
use Rattle.std.specs.Prelude.{◌≡◌, cond, List, [], ◌∷◌, ◌++◌, ℕ, zero, suc, ◌+◌, ◌-◌, ◌*◌, eqb, ltb, length, take, drop}
use Rattle.plan.specs.Measures.{row_length, row_start, span_start}
use Rattle.chain.specs.Chain.{value, rest}
use Rattle.plan.specs.Row.{Row, kind, word_a, word_b, elements, first_byte, end_byte, operand_count}
use Rattle.plan.specs.Plan.{row}
use Rattle.formula.specs.Tree.{Span, span, first, end}
use Rattle.fold.specs.Folded.{Folded}
use Rattle.fold.specs.Layout.{row_count, rows_from, words_of}

-- A plan with other words from a place on.
abbrev pub with_words : List ℕ → ℕ → List ℕ → List ℕ
with_words p at new = take at p ++ (new ++ drop (at + length new) p)

abbrev pub with_row : List ℕ → ℕ → Row → List ℕ
with_row p r new = with_words p (row_start r) new

-- The rows of a stand in p from row n on, its root row under the span `whole`.
abbrev pub Stands : List ℕ → ℕ → Span → Folded → Type 0
Stands p n whole a = take (row_length * row_count a) (drop (row_start n) p) ≡ words_of (rows_from n whole a)

-- p with the rows of a put there.
abbrev pub placed : List ℕ → ℕ → Span → Folded → List ℕ
placed p n whole a = with_words p (row_start n) (words_of (rows_from n whole a))

-- "two more words at its end, first byte and end byte": a row with these two, whatever they were; and those of a row whose span is not put in yet.
abbrev pub with_span : Row → Span → Row
with_span row whole = take span_start row ++ first whole ∷ end whole ∷ []

abbrev pub no_span : Span
no_span = span 0 0

-- A product chain's elements with 1 for each element past its length: what "filled with ones" makes of 17 words.
unfoldable pub filled_with_ones : ℕ → List ℕ → List ℕ
filled_with_ones zero f = []
filled_with_ones (suc n) f = value 1 f ∷ filled_with_ones n (rest f)

-- A row that stands one row further down: the operand rows of an operator are one less, its span is the same.
abbrev pub lowered : Row → Row
lowered row =
    kind row
    ∷ cond (ltb 0 (operand_count (kind row))) (word_a row - 1) (word_a row)
    ∷ cond (eqb (operand_count (kind row)) 2) (word_b row - 1) (word_b row)
    ∷ elements row
    ++ first_byte row ∷ end_byte row ∷ []

-- The first n rows from a row on, each moved down by one, one after the other.
unfoldable pub moved_down : ℕ → ℕ → List ℕ → List ℕ
moved_down first zero p = p
moved_down first (suc n) p = with_row (moved_down first n p) (first + n - 1) (lowered (row (moved_down first n p) (first + n)))
