-- Laws of rows that stand in a plan, for this crate's proofs and for the crates above.
pub mod RowWords
pub mod Ones
pub mod Placing
pub mod Moved
pub mod Stood
