-- What holds while entries are rehashed within the table.
use Rattle.std.specs.Prelude.{◌≡◌, ℕ, ◌<◌, ◌≤◌, ◌⊎◌, List, length, count_by, slice_set, slice_index, Option, Some, None}
use Rattle.std.specs.Prelude.{is_some}
use Rattle.group_table.specs.Bucket.{is_deleted}
use Rattle.group_table.specs.Bytes.{IsFreeByte}
use Rattle.group_table.specs.Layout.{slots_of, IsValid}
use Rattle.group_table.specs.Moves.{place_at}
use Rattle.group_table.specs.Relocation.{Moves, KeepsHashes}

-- from place `passed` on, each place with a free bucket holds what it held before
abbrev pub StaysWhereFree : {T : Type 0} → List (Option T) → List (Option T) → List ℕ → ℕ → Type 0
StaysWhereFree old now control passed = (b : ℕ) → passed ≤ b → b < length old → IsFreeByte (slice_index control b)
    → place_at now b ≡ place_at old b

module _ {T : Type 0} (old gone placed now : List (Option T)) (b : ℕ) where
  -- the old entry of place b has moved, and the place holds what was moved there
  pub record IsSettled : Type 0 where
    pub went : place_at gone b ≡ place_at old b
    pub stands : place_at now b ≡ place_at placed b

  -- the old entry is still in place b, and nothing was moved there
  pub record IsWaiting : Type 0 where
    pub stays : place_at now b ≡ place_at old b
    pub not_gone : place_at gone b ≡ None
    pub none_placed : place_at placed b ≡ None

module _ {T N : Type 0} (number : N → ℕ) (none : N) (IsGiven : (ℕ → ℕ) → Type 0) where
  -- The moved entries form a valid table with these control bytes. The other entries are in their old places, none of
  -- them in the first `passed` places.
  pub record IsHalfway (old now : List (Option T)) (control : List ℕ) (links : List N) (passed : ℕ) : Type 0 where
    pub gone : List (Option T)
    pub placed : List (Option T)
    pub growth_left : ℕ
    pub gone_length : length gone ≡ length old
    pub placed_length : length placed ≡ length old
    pub now_length : length now ≡ length old
    pub links_length : length links ≡ length old
    pub valid : IsValid control placed growth_left
    pub none_deleted : count_by is_deleted (slots_of control placed) ≡ 0
    pub counted : count_by is_some now ≡ count_by is_some old
    pub settled : (b : ℕ) → b < passed → IsSettled old gone placed now b
    pub each : (b : ℕ) → IsSettled old gone placed now b ⊎ IsWaiting old gone placed now b
    pub moves : Moves number none (place_at gone) (slots_of control placed) links
    pub hashes : (hash_at : ℕ → ℕ) → IsGiven hash_at
        → KeepsHashes number none (place_at gone) (slots_of control placed) links hash_at

  -- between two turns: if an entry was taken out and is still to be inserted, its old place counts as free
  abbrev pub IsInTurn : List (Option T) → List (Option T) → List ℕ → List N → ℕ → ℕ → Option T → Type 0
  IsInTurn old now control links passed b None = IsHalfway old now control links passed
  IsInTurn old now control links passed b (Some entry) =
      (place_at old b ≡ Some entry) × IsHalfway (slice_set old b None) now control links passed
