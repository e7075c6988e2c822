-- What the contracts of `word` cite: words modulo 2^w, and words read as signed numbers.
pub mod Word
pub mod Signed
