-- What the contracts of `formula_cursor` cite: what is found of a text from a place on, and of a whole text.
pub mod Whole
