-- What the contracts of `compile` cite: the folding of a tree's nodes one after the other. What compiling answers and leaves is in `fold`.
pub mod Machine
