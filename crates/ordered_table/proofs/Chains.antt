pub mod Orders
pub mod Neighbours
pub mod LinkWrites
pub mod WholeChains
pub mod LinkReads
pub mod MovedChain
pub mod LastBuckets
