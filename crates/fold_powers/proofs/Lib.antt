-- What the rules say of literal powers, and what the code leaves by them.
pub mod PowerChains
pub mod PowerOperands
