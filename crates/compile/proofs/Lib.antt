-- Laws of compiling.
pub mod Finding
pub mod Finishing
pub mod Stacking
pub mod Pairs
pub mod Nodes
pub mod Turns
pub mod Assembled
pub mod NodeKinds
