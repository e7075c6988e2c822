-- What the rules say of sums and differences, and what the code leaves by them.
pub mod SumRules
pub mod SumOperands
