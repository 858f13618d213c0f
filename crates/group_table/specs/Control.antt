-- What holds for the control bytes of a table. No public contract uses this module.
use Rattle.std.specs.Prelude.{◌≡◌, ℕ, ◌+◌, ◌-◌, ◌^◌, ◌<◌, ◌⊎◌, List, [], length, slice_index}
use Rattle.group_table.specs.Sizes.{IsPowerFromFour}
use Rattle.group_table.specs.Bytes.{empty_byte, IsFreeByte}
use Rattle.group_table.specs.Lanes.{IsRepeated}

abbrev pub buckets_of : List ℕ → ℕ
buckets_of control = length control - 16

-- A table with buckets has one control byte for each bucket, and 16 more control bytes (`IsRepeated`).
pub record IsCircle (control : List ℕ) : Type 0 where
  pub power : IsPowerFromFour (buckets_of control)
  pub long : length control ≡ buckets_of control + 16
  pub fits : length control < 2 ^ 63
  pub repeated : IsRepeated control (buckets_of control)

-- The control bytes of any table. `last` is the number of the table's last bucket, or 0 if the table has no buckets.
abbrev pub IsControl : List ℕ → ℕ → Type 0
IsControl control last = ((control ≡ []) × (last ≡ 0)) ⊎ (IsCircle control × (last + 1 ≡ buckets_of control))

abbrev pub HasFreeByte : List ℕ → Type 0
HasFreeByte control = (b : ℕ) × (b < buckets_of control) × IsFreeByte (slice_index control b)

abbrev pub HasEmptyByte : List ℕ → Type 0
HasEmptyByte control = (b : ℕ) × (b < buckets_of control) × (slice_index control b ≡ empty_byte)
