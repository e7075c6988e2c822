-- What the rules say of raises, and what the code leaves by them.
pub mod RaiseChains
pub mod RaiseOperands
