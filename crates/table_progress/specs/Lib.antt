-- What the contracts of `table_jobs`, `table_lines` and `table_steps` cite: what a job prints and leaves, a whole run as a function, one step of it over
-- lent buffers, and runs as lists of calls. What a run prints, as 01 says it, is in `table`.
pub mod Run
pub mod Steps
pub mod Runs
pub mod Printed
pub mod Examples
