-- Closed inputs and what they print, as one table: document 01's own job file, headers, defaults lines and last lines of every kind, and the row explainer's
-- reasons. -- proofs/Examples.antt computes it.
use Rattle.std.specs.Prelude.{List, [], ◌∷◌, ℕ}
use Prim.Native.String.{String}
use Rattle.formula.specs.Bytes.{bytes}
use Rattle.table.specs.declared.Tool.{Tool}
use Rattle.table.specs.declared.Tool.TheVariants.{Tables, Reasons}

pub record Example : Type 0 where
  pub tool : Tool
  pub input : List ℕ
  pub output : List ℕ

-- Of the table printer, and of the row explainer.
abbrev pub example : String → String → Example
example input output = record { tool = Tables; input = bytes input; output = bytes output }

abbrev pub explanation : String → String → Example
explanation input output = record { tool = Reasons; input = bytes input; output = bytes output }

-- The first is document 01's own.
abbrev pub paper : Example
paper =
    example "chain-jobs\t1\nx^2\t0\t1\t3\n\t\t\t\nx+3^(x)\t\t\t2\n2^(x)\t\t\t\n"
    "job\t1\t1\t2\n0\t0\n1\t1\n2\t4\njob\t2\t3\t3\n0\t1\n1\t4\nno\t3\t8\t1\n"

abbrev pub examples : List Example
examples =
    paper
    -- "a line `chain-jobs`, tab, `1`": no header, and headers that are something else. "A refused header .. ends the run."
    ∷ example "" "no\t0\t12\t0\n"
    ∷ example "\nx\t0\t1\t3\n" "no\t0\t12\t0\n"
    ∷ example "x\t0\t1\t3\n\t\t\t\n" "no\t0\t12\t0\n"
    ∷ example "chain-jobs 1\nx\t0\t1\t3\n" "no\t0\t12\t0\n"
    ∷ example "chain-jobs\t2\nx\t0\t1\t3\n" "no\t0\t12\t0\n"
    ∷ example "chain-jobs\t\nx\t0\t1\t3\n" "no\t0\t12\t0\n"
    ∷ example "chain-jobs\t1\t\nx\t0\t1\t3\n" "no\t0\t12\t0\n"
    ∷ example "chain-jobs\t1\r\nx\t0\t1\t3\r\n" "no\t0\t12\t0\n"
    -- "Place 0 also where the defaults line is absent", or has not four fields.
    ∷ example "chain-jobs\t1" "no\t0\t11\t0\n"
    ∷ example "chain-jobs\t1\n" "no\t0\t11\t0\n"
    ∷ example "chain-jobs\t1\n\nx\t0\t1\t3\n" "no\t0\t11\t0\n"
    ∷ example "chain-jobs\t1\nx\t0\t1\nx\t0\t1\t3\n" "no\t0\t11\t0\n"
    ∷ example "chain-jobs\t1\nx\t0\t1\t3\t\nx\t0\t1\t3\n" "no\t0\t11\t0\n"
    -- "the leftmost empty field is refused at its field number, ahead of bad numbers"
    ∷ example "chain-jobs\t1\n\t\t\t\n\t\t\t\n" "no\t0\t11\t1\n"
    ∷ example "chain-jobs\t1\nx\t\t1\t3\n\t\t\t\n" "no\t0\t11\t2\n"
    ∷ example "chain-jobs\t1\nx\t01\t\t2\n\t\t\t\n" "no\t0\t11\t3\n"
    ∷ example "chain-jobs\t1\nx\t01\t1\t\n\t\t\t\n" "no\t0\t11\t4\n"
    -- "then start, step, count bad, place 2, 3, 4"
    ∷ example "chain-jobs\t1\nx\t01\t01\t01\n\t\t\t\n" "no\t0\t11\t2\n"
    ∷ example "chain-jobs\t1\nx\t0\t-1\t01\n\t\t\t\n" "no\t0\t11\t3\n"
    ∷ example "chain-jobs\t1\nx\t0\t1\t4097\n\t\t\t\n" "no\t0\t11\t4\n"
    -- "its formula is not compiled": each job that takes it is refused by itself.
    ∷ example "chain-jobs\t1\n2^(x)\t0\t1\t1\n\t\t\t\n7\t\t\t\n" "no\t1\t8\t1\njob\t2\t1\t0\n0\t7\n"
    -- No job line, one without a line feed, and an empty one: "An empty job line has not four fields."
    ∷ example "chain-jobs\t1\nx\t7\t1\t1" ""
    ∷ example "chain-jobs\t1\nx\t7\t1\t1\n\t\t\t" "job\t1\t1\t1\n0\t7\n"
    ∷ example "chain-jobs\t1\nx\t7\t1\t1\n\n" "no\t1\t11\t0\n"
    -- "In a job line refusal 11 comes ahead of the formula's own."
    ∷ example "chain-jobs\t1\nx\t0\t1\t4096\n(\t\t\t4097\n(\t\t\t0\n" "no\t1\t11\t4\nno\t2\t4\t1\n"
    -- The row explainer: "for each row of kinds 3 to 8, its span and one reason", each of the six that a compiled row can have. The rest is the same.
    ∷ explanation "" "no\t0\t12\t0\n"
    ∷ explanation "chain-jobs\t1\nx\t01\t\t2\n\t\t\t\n" "no\t0\t11\t3\n"
    ∷ explanation "chain-jobs\t1\nx^2\t0\t1\t3\n\t\t\t\n2^(x)\t\t\t\n(\t\t\t4097" "job\t1\t1\t2\nno\t2\t8\t1\nno\t3\t11\t4\n"
    ∷ explanation "chain-jobs\t1\nx^8*x^9+3^(x)\t0\t1\t0\n\t\t\t\n"
    "job\t1\t5\t20\nrow\t2\t0\t7\t1\tlengths add over 16\tx^8*x^9\nrow\t4\t0\t13\t1\tan operand is itself of kinds 3 to 8\tx^8*x^9+3^(x)\n"
    ∷ explanation "chain-jobs\t1\nx^17\t0\t1\t0\n\t\t\t\n" "job\t1\t2\t17\nrow\t1\t0\t4\t16\tlength times n over 16\tx^17\n"
    ∷ explanation "chain-jobs\t1\nx+3^(x)\t0\t1\t0\n\t\t\t\n" "job\t1\t3\t3\nrow\t2\t0\t7\t1\tsum chain or constant against product chain\tx+3^(x)\n"
    ∷ explanation "chain-jobs\t1\n3^(x)-5^(x)\t0\t1\t0\n\t\t\t\n" "job\t1\t3\t3\nrow\t2\t0\t11\t1\ttwo product chains under + or -\t3^(x)-5^(x)\n"
    ∷ explanation "chain-jobs\t1\n3^(3^(x))\t0\t1\t0\n\t\t\t\n"
    "job\t1\t3\t129\nrow\t2\t0\t9\t128\texponent of a raise neither constant nor sum chain\t3^(3^(x))\n"
    ∷ []
