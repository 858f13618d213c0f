-- The values of control bytes. Only the public contracts of the module `group` use this module.
use Rattle.std.specs.Prelude.{ℕ, ◌<◌, ◌≤◌}

abbrev pub empty_byte : ℕ
empty_byte = 255

abbrev pub deleted_byte : ℕ
deleted_byte = 128

-- a tag has seven bits
abbrev pub IsTag : ℕ → Type 0
IsTag byte = byte < deleted_byte

-- the byte of an empty or deleted bucket has its top bit set
abbrev pub IsFreeByte : ℕ → Type 0
IsFreeByte byte = deleted_byte ≤ byte
