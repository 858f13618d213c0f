pub mod Maps
mod SameWalks
mod FoundEntries
mod Positions
mod OutlivedLifetimes
mod LentPairs
mod Neighbours
mod NextPairs
mod LentValues
mod LentAnswers
