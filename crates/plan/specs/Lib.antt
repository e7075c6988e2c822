-- What the contracts of the calls on plans cite: rows and their table, soundness, cost, values, shifts, what filling answers and leaves,
-- calls one after the other, and filling with era count.
pub mod Measures
pub mod Row
pub mod Plan
pub mod Points
pub mod Answers
pub mod Filling
pub mod Calls
pub mod Eras
