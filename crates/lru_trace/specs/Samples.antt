-- A sample of keys: the keys whose lowest hash bits are zero.
use Rattle.std.specs.Prelude.{ℕ, ◌*◌, ◌%◌, ◌^◌, ◌==◌, Bool, not, List, length, bit_xor}
use Rattle.std.specs.List.{fold, filter}

-- one step of the hash FNV-1a with 64 bits
abbrev pub with_byte : ℕ → ℕ → ℕ
with_byte hash b = bit_xor hash b * 1099511628211 % 2 ^ 64

abbrev pub hash : List ℕ → ℕ
hash key = fold with_byte 14695981039346656037 key

module _ (bits : ℕ) where
  abbrev pub is_sampled : List ℕ → Bool
  is_sampled key = hash key % 2 ^ bits == 0

  abbrev pub sampled : List (List ℕ × ℕ) → List (List ℕ × ℕ)
  sampled references = filter (λ reference. is_sampled reference.0) references

  abbrev pub skipped : List (List ℕ × ℕ) → ℕ
  skipped references = length (filter (λ reference. not (is_sampled reference.0)) references)
