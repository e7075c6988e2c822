-- What the contracts of the operators cite: operands that stand in a plan, and what an operator leaves of them.
pub mod Operands
pub mod OperandRows
