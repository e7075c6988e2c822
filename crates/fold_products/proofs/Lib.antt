-- What the rules say of products, and what the code leaves by them.
pub mod JointElements
pub mod ProductRules
pub mod ProductOperands
