pub mod TableSizes
pub mod PairLists
pub mod States
pub mod Theorems
pub mod CallerLemmas
pub mod PassingLemmas
pub mod CallbackLemmas
pub mod EveryCall
