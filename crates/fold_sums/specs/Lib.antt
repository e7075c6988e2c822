-- Sum and difference as one operator.
pub mod ByKind
