-- The words of request Six for each reason, as bytes, for what is printed of a row. Which reason a row has is in Reasons.antt.
use Rattle.std.specs.Prelude.{List, [], ◌∷◌, ℕ, get_or}

-- "an operand is itself of kinds 3 to 8"
abbrev pub operand_text : List ℕ
operand_text =
    97 ∷ 110 ∷ 32 ∷ 111 ∷ 112 ∷ 101 ∷ 114 ∷ 97 ∷ 110 ∷ 100 ∷ 32 ∷ 105 ∷ 115 ∷ 32 ∷ 105 ∷ 116 ∷ 115 ∷ 101 ∷ 108 ∷ 102 ∷ 32 ∷ 111 ∷
    102 ∷ 32 ∷ 107 ∷ 105 ∷ 110 ∷ 100 ∷ 115 ∷ 32 ∷ 51 ∷ 32 ∷ 116 ∷ 111 ∷ 32 ∷ 56 ∷ []

-- "lengths add over 16"
abbrev pub lengths_add_text : List ℕ
lengths_add_text = 108 ∷ 101 ∷ 110 ∷ 103 ∷ 116 ∷ 104 ∷ 115 ∷ 32 ∷ 97 ∷ 100 ∷ 100 ∷ 32 ∷ 111 ∷ 118 ∷ 101 ∷ 114 ∷ 32 ∷ 49 ∷ 54 ∷ []

-- "length times n over 16"
abbrev pub length_times_text : List ℕ
length_times_text =
    108 ∷ 101 ∷ 110 ∷ 103 ∷ 116 ∷ 104 ∷ 32 ∷ 116 ∷ 105 ∷ 109 ∷ 101 ∷ 115 ∷ 32 ∷ 110 ∷ 32 ∷ 111 ∷ 118 ∷ 101 ∷ 114 ∷ 32 ∷ 49 ∷ 54 ∷ []

-- "sum chain or constant against product chain"
abbrev pub against_product_text : List ℕ
against_product_text =
    115 ∷ 117 ∷ 109 ∷ 32 ∷ 99 ∷ 104 ∷ 97 ∷ 105 ∷ 110 ∷ 32 ∷ 111 ∷ 114 ∷ 32 ∷ 99 ∷ 111 ∷ 110 ∷ 115 ∷ 116 ∷ 97 ∷ 110 ∷ 116 ∷ 32 ∷ 97 ∷
    103 ∷ 97 ∷ 105 ∷ 110 ∷ 115 ∷ 116 ∷ 32 ∷ 112 ∷ 114 ∷ 111 ∷ 100 ∷ 117 ∷ 99 ∷ 116 ∷ 32 ∷ 99 ∷ 104 ∷ 97 ∷ 105 ∷ 110 ∷ []

-- "two product chains under + or -"
abbrev pub two_products_text : List ℕ
two_products_text =
    116 ∷ 119 ∷ 111 ∷ 32 ∷ 112 ∷ 114 ∷ 111 ∷ 100 ∷ 117 ∷ 99 ∷ 116 ∷ 32 ∷ 99 ∷ 104 ∷ 97 ∷ 105 ∷ 110 ∷ 115 ∷ 32 ∷ 117 ∷ 110 ∷ 100 ∷
    101 ∷ 114 ∷ 32 ∷ 43 ∷ 32 ∷ 111 ∷ 114 ∷ 32 ∷ 45 ∷ []

-- "exponent of a raise neither constant nor sum chain"
abbrev pub exponent_text : List ℕ
exponent_text =
    101 ∷ 120 ∷ 112 ∷ 111 ∷ 110 ∷ 101 ∷ 110 ∷ 116 ∷ 32 ∷ 111 ∷ 102 ∷ 32 ∷ 97 ∷ 32 ∷ 114 ∷ 97 ∷ 105 ∷ 115 ∷ 101 ∷ 32 ∷ 110 ∷ 101 ∷
    105 ∷ 116 ∷ 104 ∷ 101 ∷ 114 ∷ 32 ∷ 99 ∷ 111 ∷ 110 ∷ 115 ∷ 116 ∷ 97 ∷ 110 ∷ 116 ∷ 32 ∷ 110 ∷ 111 ∷ 114 ∷ 32 ∷ 115 ∷ 117 ∷ 109 ∷
    32 ∷ 99 ∷ 104 ∷ 97 ∷ 105 ∷ 110 ∷ []

-- "01 would have folded it"
abbrev pub would_fold_text : List ℕ
would_fold_text =
    48 ∷ 49 ∷ 32 ∷ 119 ∷ 111 ∷ 117 ∷ 108 ∷ 100 ∷ 32 ∷ 104 ∷ 97 ∷ 118 ∷ 101 ∷ 32 ∷ 102 ∷ 111 ∷ 108 ∷ 100 ∷ 101 ∷ 100 ∷ 32 ∷ 105 ∷
    116 ∷ []

-- The words of reason n, from 1 to 7; none for 0, a row that has no reason.
abbrev pub reason_texts : List (List ℕ)
reason_texts = [] ∷ operand_text ∷ lengths_add_text ∷ length_times_text ∷ against_product_text ∷ two_products_text ∷ exponent_text ∷ would_fold_text ∷ []

unfoldable pub reason_text : ℕ → List ℕ
reason_text n = get_or reason_texts n []
