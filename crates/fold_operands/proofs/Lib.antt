-- Laws of operands that stand in a plan, and of what an operator leaves of them, for this crate's proofs and for the crates above.
pub mod OperandLaws
pub mod Leaving
pub mod OnesTrimmed
pub mod CallsOnRows
