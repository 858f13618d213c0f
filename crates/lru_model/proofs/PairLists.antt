pub mod Members
pub mod DistinctKeys
pub mod NamedPairs
pub mod SetEntries
pub mod NamedPlaces
pub mod Emptiness
pub mod Positions
