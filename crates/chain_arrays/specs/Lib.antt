-- What the contracts of `chain_arrays` cite: what is worked out of two words, of two arrays word by word, and of a chain that is shifted.
pub mod Operations
