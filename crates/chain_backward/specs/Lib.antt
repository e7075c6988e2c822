-- The chain with alternating signs, by which products of backward chains are worked out.
pub mod Alternating
