-- What the contracts of `lru_tenants` cite.
pub mod Tenants
pub mod Cache
pub mod Pool
pub mod Bytes
pub mod Inside
pub mod Isolation
pub mod TenantRuns
pub mod Lending
pub mod PoolLending
pub mod ByteLending
pub mod GetOrPuts
pub mod PutFulls
pub mod Counting
pub mod CountedLending
