pub mod Growth
pub mod Doubling
pub mod Budgets
pub mod SizedStates
pub mod FilledBuckets
pub mod NextTable
pub mod SomeStates
pub mod ReachedTables
