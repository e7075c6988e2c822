-- What the contracts of `formula_digits` cite: a value with one more digit.
pub mod Longer
