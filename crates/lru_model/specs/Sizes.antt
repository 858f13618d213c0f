-- The number of buckets that the width of links permits, the bytes of a table, and the table into which a map grows.
-- Quotients are rounded down.
use Rattle.std.specs.Prelude.{◌≡◌, ◌⊎◌, ℕ, ◌+◌, ◌-◌, ◌*◌, ◌/◌, ◌^◌, ◌<◌, ◌≤◌, ◌==◌, nat_lt, nat_le, if◌then◌else◌}
use Rattle.std.specs.Prelude.{Option, Some, None}
use Rattle.group_table.specs.Sizes.{IsPowerFromFour, full_capacity, buckets_for}

-- The number of the link `MAX`, for links of 32 bits and of 64 bits. All bucket numbers are smaller.
abbrev pub max_of_32_bits : ℕ
max_of_32_bits = 2 ^ 32 - 1

abbrev pub max_of_64_bits : ℕ
max_of_64_bits = 2 ^ 64 - 1

-- The bytes of a table: the bytes of the entries, rounded up to a multiple of 16, plus a byte for each bucket, plus 16
-- bytes.
abbrev pub bytes_of : ℕ → ℕ → ℕ
bytes_of entry_bytes buckets = (entry_bytes * buckets + 15) / 16 * 16 + buckets + 16

-- the bytes that a table of `buckets` buckets uses, or `None` if the table would use more than 2 ^ 63 - 16 bytes
unfoldable pub usage : ℕ → ℕ → Option ℕ
usage entry_bytes buckets =
    if buckets == 0 then Some 0
    else (if nat_le (bytes_of entry_bytes buckets) (2 ^ 63 - 16) then Some (bytes_of entry_bytes buckets)
    else None)

-- `bytes` is the usage of the largest table that has fewer than `max` buckets and fits the budget. If there is no such
-- table, `bytes` is 0.
pub record IsGreatestUsage (max entry_bytes budget bytes : ℕ) : Type 0 where
  pub within : bytes ≤ budget
  pub of_table : (bytes ≡ 0)
      ⊎ ((buckets : ℕ) × IsPowerFromFour buckets × (buckets < max) × (usage entry_bytes buckets ≡ Some bytes))
  pub greatest : (buckets other : ℕ) → IsPowerFromFour buckets → buckets < max →
      usage entry_bytes buckets ≡ Some other → other ≤ budget → other ≤ bytes

-- The table into which a map grows: no table, a table of the same size (a rehash), or a new table with these numbers of
-- buckets and bytes.
pub data Target : Type 0 where
  no_table same_table : Target
  new_table : ℕ → ℕ → Target

abbrev pub table_of : ℕ → Option ℕ → Target
table_of buckets None = no_table
table_of buckets (Some bytes) = new_table buckets bytes

abbrev pub table_with : ℕ → Option ℕ → Target
table_with entry_bytes None = no_table
table_with entry_bytes (Some buckets) = table_of buckets (usage entry_bytes buckets)

-- How a table of `buckets` buckets grows to hold `pairs` pairs, which need `need` buckets. A table with fewer buckets
-- grows to `need` buckets. A table with enough buckets keeps its size if `pairs` is at most half of the capacity, and
-- doubles otherwise. If the new table would be too large, the table does not grow (`no_table`).
abbrev pub target_from : ℕ → ℕ → ℕ → ℕ → Option ℕ → Target
target_from max entry_bytes buckets pairs None = no_table
target_from max entry_bytes buckets pairs (Some need) =
    if nat_lt buckets need then table_with entry_bytes (Some need)
    else (if nat_le pairs (full_capacity buckets / 2) then same_table
    else table_with entry_bytes (buckets_for max (full_capacity (2 * buckets))))

unfoldable pub target : ℕ → ℕ → ℕ → ℕ → Target
target max entry_bytes buckets pairs = target_from max entry_bytes buckets pairs (buckets_for max pairs)

-- the new table with these numbers of buckets and bytes, or `no_table` for `None`
abbrev pub larger : Option (ℕ × ℕ) → Target
larger None = no_table
larger (Some table) = new_table table.0 table.1
