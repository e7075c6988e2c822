-- The numbers by which a plan's words name the kinds of rows.
pub mod Kinds
