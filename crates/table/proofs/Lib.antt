-- Laws of digits, and of lines and fields found and judged.
pub mod PartsFound
pub mod PartsInLines
pub mod PartsJudged
pub mod NumbersJudged
pub mod Digits
pub mod Answered
