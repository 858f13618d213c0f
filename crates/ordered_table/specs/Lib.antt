pub mod OrderedTable
pub mod Offers
pub mod Chain
pub mod PairLends
pub mod Rest
pub mod Searches
pub mod Copies
pub mod EntrySize
