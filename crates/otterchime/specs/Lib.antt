-- What the contracts of `otterchime` cite: how the answers of the crates below are laid out in lent words.
pub mod Answers
