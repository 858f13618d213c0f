pub mod Values
pub mod Answers
pub mod Made
