-- What the contracts of the door promise, that no two answers meet one, and a word stored behind others.
pub mod Uniqueness
mod Behind
