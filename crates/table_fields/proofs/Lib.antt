-- Laws for this crate's proofs and for the crates above.
pub mod Joining
pub mod NumberTests
pub mod FieldReading
pub mod Finding
