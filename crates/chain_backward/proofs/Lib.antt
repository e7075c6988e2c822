-- The calls of one chain on 17 words, conversion turn by turn, and products by alternating signs.
pub mod Steps
pub mod Turns
pub mod Products
