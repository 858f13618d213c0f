pub mod Counted
pub mod Pages
pub mod Files
pub mod LeftLemma
pub mod Checksums
pub mod Answers
pub mod Ordered
pub mod OrderedLending
