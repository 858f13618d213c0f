pub mod Inside
pub mod Lending
pub mod Drains
pub mod Walks
pub mod Found
