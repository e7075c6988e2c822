-- The direct value of a tree, with no chains in it, modulo 2^w.
use Rattle.std.specs.Prelude.{ℕ, ◌+◌, ◌*◌}
use Rattle.word.specs.Word as Word
use Rattle.formula.specs.Tree.{Tree, number, variable, sum, difference, product, minus, literal_power, raise}

-- The value where x stands for a given number. "A number right after ^ is a literal exponent n: the n-fold product, and every n = 0
-- gives 1, 0^0 too. A bracketed exponent is a raise: the base to the exponent's word, that word read as a whole number".
unfoldable pub value_for : ℕ → ℕ → Tree → ℕ
value_for w x (number s p v) = Word.word w v
value_for w x (variable s) = Word.word w x
value_for w x (sum s a b) = Word.sum w (value_for w x a) (value_for w x b)
value_for w x (difference s a b) = Word.difference w (value_for w x a) (value_for w x b)
value_for w x (product s a b) = Word.product w (value_for w x a) (value_for w x b)
value_for w x (minus s a) = Word.negation w (value_for w x a)
value_for w x (literal_power s a p n) = Word.power w (value_for w x a) n
value_for w x (raise s a p b) = Word.power w (value_for w x a) (value_for w x b)

-- "At index i, x is start + i * step modulo 2^64; i counts from 0 and the meaning exists for every whole i."
abbrev pub direct_value : ℕ → ℕ → ℕ → Tree → ℕ → ℕ
direct_value w start step t i = value_for w (start + i * step) t
