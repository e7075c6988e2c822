-- What passes over a list come to: the words that the loops leave, values and chains, and products and powers by values.
pub mod Passing
pub mod ByValues
