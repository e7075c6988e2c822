-- Laws of plans, for the crates above.
pub mod RowLaws
pub mod SoundLaws
pub mod Keeping
pub mod Later
pub mod SpanLaws
pub mod Lent
pub mod Decoding
pub mod Accepting
pub mod Sharing
pub mod RootChains
pub mod Counting
pub mod EraLaws
