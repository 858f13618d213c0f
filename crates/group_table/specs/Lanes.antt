-- Masks of the sixteen lanes of a group. Only the public contracts of the module `group` use this module.
use Rattle.std.specs.Prelude.{ℕ, ◌≡◌, ◌+◌, ◌-◌, ◌<◌, ◌≤◌, ◌↔◌, max, List, slice_index}
use Rattle.group_table.specs.Bytes.{empty_byte}
use Rattle.std.specs.Int.{w16, bit_at, trailing_zeros}

-- bit i of the mask is set if and only if i is a lane whose byte has the property P
abbrev pub IsMaskOf : (ℕ → Type 0) → List ℕ → ℕ → Type 0
IsMaskOf P bytes mask = (lane : ℕ) → (bit_at mask lane ≡ 1) ↔ ((lane < 16) × P (slice_index bytes lane))

-- `IsMaskOf` for the 16 bytes from `start` on
abbrev pub IsMaskAt : (ℕ → Type 0) → List ℕ → ℕ → ℕ → Type 0
IsMaskAt P bytes start mask = (lane : ℕ) → (bit_at mask lane ≡ 1) ↔ ((lane < 16) × P (slice_index bytes (start + lane)))

abbrev pub HasLane : ℕ → ℕ → Type 0
HasLane mask lane = bit_at mask lane ≡ 1

-- the lowest lane of a mask, if the mask is not 0
abbrev pub lowest : ℕ → ℕ
lowest mask = trailing_zeros w16 mask

-- The control bytes end with a repetition of the bytes of the first buckets. In a table of 4 or 8 buckets, empty bytes
-- precede the repetition.
pub record IsRepeated (control : List ℕ) (buckets : ℕ) : Type 0 where
  pub again : (p : ℕ) → max 16 buckets ≤ p → p < buckets + 16
      → slice_index control p ≡ slice_index control (p - max 16 buckets)
  pub between : (p : ℕ) → buckets ≤ p → p < 16 → slice_index control p ≡ empty_byte
