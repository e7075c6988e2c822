-- What the contracts of `probe` cite: the answer as a record, the signed offset, the verdict and the whole answer.
pub mod Answer
pub mod Probe
