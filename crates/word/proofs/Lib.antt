-- Laws of words, for this crate's proofs and for the crates above.
pub mod Modulo
pub mod Ring
pub mod OddBase
pub mod HalfWords
pub mod Squaring
pub mod SignedWords
pub mod WholeNumbers
pub mod Unique
