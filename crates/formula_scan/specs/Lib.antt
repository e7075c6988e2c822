-- What the readers' own contracts go by: the scan, what a reader answers, and the answer to a text as one function.
-- Nobody has to believe them; proofs/ shows that they say what the grammar and the refusals of `formula` say.
pub mod Fields
pub mod Scan
pub mod Readers
pub mod Packing
pub mod Verdict
