-- Laws of the reasons, for the crates above.
pub mod Operands
pub mod Staying
pub mod Numbers
pub mod Deciding
pub mod OneReason
pub mod TreeLaws
pub mod SoundRows
pub mod Answers
pub mod Decoding
pub mod Settled
pub mod CompiledRows
