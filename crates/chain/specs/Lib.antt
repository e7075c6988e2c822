-- What the contracts of the calls on chains cite: forward and backward chains of recurrences, coefficient lists, crossings of an era's end, and the answers of the public calls.
pub mod Chain
pub mod SumChain
pub mod BackwardChain
pub mod ProductChain
pub mod Coefficients
pub mod Crossing
pub mod Answer
pub mod BackwardAnswer
