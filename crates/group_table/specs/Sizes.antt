-- The capacity of n buckets, and the number of buckets for n entries. Quotients are rounded down.
use Rattle.std.specs.Prelude.{◌≡◌, ◌⊎◌, ℕ, zero, suc, ◌-◌, ◌*◌, ◌/◌, ◌^◌, ◌==◌, nat_lt, nat_le, if◌then◌else◌, Option}
use Rattle.std.specs.Prelude.{Some, None}

abbrev pub IsPowerFromFour : ℕ → Type 0
IsPowerFromFour buckets = (k : ℕ) × (buckets ≡ 4 * 2 ^ k)

-- 0, or a power of two that is at least 4
abbrev pub IsBucketCount : ℕ → Type 0
IsBucketCount buckets = (buckets ≡ 0) ⊎ IsPowerFromFour buckets

-- the most entries that n buckets may hold: n - 1 if n is at most 8, else seven eighths of n
unfoldable pub full_capacity : ℕ → ℕ
full_capacity buckets = if nat_le buckets 8 then buckets - 1 else buckets / 8 * 7

-- `power`, doubled until it is n or more, or until it was doubled `tries` times
abbrev pub first_power_from : ℕ → ℕ → ℕ → ℕ
first_power_from zero n power = power
first_power_from (suc tries) n power = if nat_le n power then power else first_power_from tries n (2 * power)

-- the least power of two that is n or more, for n up to 2 ^ 64
unfoldable pub least_power : ℕ → ℕ
least_power n = first_power_from 64 n 1

abbrev pub below : ℕ → ℕ → Option ℕ
below limit n = if nat_lt n limit then Some n else None

-- The number of buckets for n entries, or `None` if this number is `max` or more. 0 entries need no bucket, 1 to 3
-- entries need 4 buckets, 4 to 7 entries need 8 buckets, and more entries need the least power of two that is at least
-- 8 * n / 7. If 8 * n does not fit 64 bits, the result is `None`.
unfoldable pub buckets_for : ℕ → ℕ → Option ℕ
buckets_for max entries =
    if entries == 0 then Some 0
    else (if nat_lt entries 4 then below max 4
    else (if nat_lt entries 8 then below max 8
    else (if nat_lt (8 * entries) (2 ^ 64) then below max (least_power (8 * entries / 7))
    else None)))
