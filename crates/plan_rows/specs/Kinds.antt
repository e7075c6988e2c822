-- The number of each row kind, word 0 of its row, as 01's table counts them: one clause a kind. No other number is a kind's.
use Rattle.std.specs.Prelude.{◌≡◌, ℕ, ◌<◌, Result, MatchResult}
use Rattle.plan_rows.specs.declared.kinds.RowKind.{RowKind}
use Rattle.plan_rows.specs.declared.kinds.RowKind.TheVariants.{Constant, SumChain, ProductChain, Sum, Difference, Product, Minus, LiteralPower, Raise}
use Rattle.plan_rows.specs.declared.kinds.NoKind.{NoKind}

-- "0: constant", "1: sum chain", "2: product chain", "3, 4, 5: + - *", "6: minus", "7: literal power", "8: raise".
abbrev pub kind_number : RowKind → ℕ
kind_number Constant = 0
kind_number SumChain = 1
kind_number ProductChain = 2
kind_number Sum = 3
kind_number Difference = 4
kind_number Product = 5
kind_number Minus = 6
kind_number LiteralPower = 7
kind_number Raise = 8

-- A number read as a kind: the one that it is the number of, or none, past the last one's.
abbrev pub ReadsKind : ℕ → Result RowKind NoKind → Type 0
ReadsKind number read = MatchResult read (λ kind. kind_number kind ≡ number) (λ none. 8 < number)
