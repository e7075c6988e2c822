-- Laws of the kinds' numbers, for the crates above.
pub mod Numbering
