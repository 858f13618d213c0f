-- What the contracts of `lru_theory` cite.
pub mod Traces
pub mod Policies
pub mod Inclusion
pub mod Places
pub mod Budgets
pub mod Best
