pub mod Holds
pub mod Steps
pub mod Passing
pub mod Fields
