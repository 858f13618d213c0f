-- A cache of tenants within one limit of bytes.
--     `names name`: whether the call names the tenant of this name.
--     `of_name name`: how many bytes the name owns.
--     `of_pair key value`: how many bytes the entry owns.
use Rattle.std.specs.Prelude.{◌≡◌, ℕ, ◌+◌, ◌≤◌, Bool, List, Option, nat_lt, sum_by, unwrap_or}
use Rattle.lru_limits.specs.Bytes.{Bytes, both_own, in_word}
use Rattle.lru_model.specs.Sizes.{usage, max_of_32_bits}
use Rattle.lru_model.specs.State.{State, buckets, empty_map}
use Rattle.lru_tenants.specs.Tenants.{Changes}

pub record ByteCache (N K V S : Type 0) : Type 0 where
  -- the open tenants by their names, in no particular order
  pub tenants : List (N × State K V Bytes S)
  -- the bytes of the table of tenants
  pub table : ℕ
  pub limit : ℕ
  pub hasher : S

-- the bytes of a map's table; the `usage` of a map is always `Some`
abbrev pub table_bytes : {K V L S : Type 0} → State K V L S → ℕ
table_bytes map = unwrap_or (usage map.entry_bytes (buckets map)) 0

abbrev pub limit_of : {K V S : Type 0} → State K V Bytes S → ℕ
limit_of map = map.limiter.limit

-- the empty map of a newly opened tenant
abbrev pub fresh : {K V S : Type 0} → ℕ → S → ℕ → State K V Bytes S
fresh entry_bytes hasher own =
    empty_map (record { limit = own; owned = 0; table = 0 }) hasher entry_bytes max_of_32_bits

module _ {N K V S : Type 0} where
  -- the bytes of a tenant's table, plus the bytes that the tenant's name and entries own
  abbrev pub taken : (N → ℕ) → (K → V → ℕ) → N × State K V Bytes S → ℕ
  taken of_name of_pair t = of_name t.0 + table_bytes t.1 + sum_by (λ pair. of_pair pair.0 pair.1) t.1.pairs

  abbrev pub IsWithin : (N → ℕ) → (K → V → ℕ) → ByteCache N K V S → Type 0
  IsWithin of_name of_pair cache = cache.table + sum_by (taken of_name of_pair) cache.tenants ≤ cache.limit

  -- the bytes of the table of tenants, plus the limit of each tenant, plus the bytes that each tenant's name owns
  abbrev pub reserved : (N → ℕ) → ByteCache N K V S → ℕ
  reserved of_name cache = cache.table + sum_by (λ t. both_own of_name limit_of t.0 t.1) cache.tenants

  -- whether the cache would be above its limit with one more tenant
  abbrev pub is_over : (N → ℕ) → N → ℕ → ByteCache N K V S → Bool
  is_over of_name name own cache = nat_lt cache.limit (reserved of_name cache + in_word (of_name name + own))

  -- a call changes the named tenant as `Does` says, and nothing else
  abbrev pub On : {R : Type 0} → (N → N → Bool) → (N → Bool)
      → (Option (State K V Bytes S) → R → Option (State K V Bytes S) → Type 0) → ByteCache N K V S → R
      → ByteCache N K V S → Type 0
  On eq names Does old answer new =
      (new ≡ record old { tenants = new.tenants }) × Changes eq names Does old.tenants answer new.tenants
