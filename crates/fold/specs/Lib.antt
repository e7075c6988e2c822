-- What compiling means: the folded tree, the rules that fold it, the plan of a folded tree, plans of one chain, and what the spans of rows say.
pub mod Folded
pub mod Folding
pub mod Layout
pub mod OneChain
pub mod Answer
pub mod Compiling
pub mod RowSpans
