-- Job files: lines and fields, numbers in them, what is judged of a line, the lines that are printed, and what a whole run prints.
pub mod Parts
pub mod Judged
pub mod Decimal
pub mod NumberField
pub mod Lines
pub mod Run
