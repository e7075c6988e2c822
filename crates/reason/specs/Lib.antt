-- Why a row is still there: the folded tree that a row stands for, the reasons, the words that they are printed with, and what the call answers.
pub mod RowTrees
pub mod Reasons
pub mod Wording
pub mod Answer
pub mod Explaining
