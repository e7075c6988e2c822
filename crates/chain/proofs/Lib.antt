-- Laws of chains, for the crates above.
pub mod Values
pub mod Trimming
pub mod SumLaws
pub mod ProductLaws
pub mod Canonical
pub mod Rows
pub mod Shifting
pub mod Backward
pub mod Conversions
pub mod Calls
pub mod Tables
pub mod CoefficientLaws
pub mod OntoTable
pub mod BackwardCalls
pub mod Promises
pub mod Decoding
pub mod CrossingLaws
