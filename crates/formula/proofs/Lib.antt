-- Laws of digits, of a text's marks, and of where the parts of a tree stand. The laws of the grammar are in `formula_scan`.
pub mod DigitLists
pub mod TextMarks
pub mod Spans
pub mod Places
pub mod Refused
