-- What the contracts of `chain_values` cite: passes over an array, each word with the one before it.
pub mod Passes
