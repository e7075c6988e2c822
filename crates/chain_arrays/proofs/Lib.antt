-- What is worked out word by word, in the words of chains.
pub mod Paired
pub mod Laying
