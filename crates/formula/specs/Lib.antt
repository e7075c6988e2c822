-- Formulas: their bytes, tree, grammar, direct value and refusals, and the words of a tree. The scan, and the forms that the readers' own
-- contracts go by, are in `formula_scan`.
pub mod Bytes
pub mod Tree
pub mod Marks
pub mod Grammar
pub mod Value
pub mod Words
pub mod Answer
pub mod Refusals
