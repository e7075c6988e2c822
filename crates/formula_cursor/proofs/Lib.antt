-- Laws of what is found of a whole text, for this crate and for `formula_read`.
pub mod Wholes
