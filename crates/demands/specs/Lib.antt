-- What the demands say of an answer, and document 01's starred cases as a table.
pub mod Demanded
pub mod Starred
