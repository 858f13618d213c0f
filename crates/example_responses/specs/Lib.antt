pub mod LookUps
pub mod Purges
pub mod Puts
