-- What a job is given as, when it is printed.
pub mod Placed
