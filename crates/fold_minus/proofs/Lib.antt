-- What the rules say of minus, and what the code leaves by them.
pub mod MinusRules
pub mod MinusOperands
