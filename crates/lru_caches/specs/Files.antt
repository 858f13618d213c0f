-- What a record of the calls on a file says about the blocks of the file. A block is known if the record determines the
-- bytes of the block.
use Rattle.std.specs.Prelude.{◌≡◌, ℕ, zero, suc, nat_eq, if◌then◌else◌, List, [], ◌∷◌, Option, Some, None, IfSome, slice_index}

-- A read, a write or a sync that failed or succeeded. A read or a write has the number of the block, and the bytes that
-- were read, or that were to be written.
pub data Event : Type 0 where
  unread : ℕ → Event
  was_read : ℕ → List ℕ → Event
  unwritten : ℕ → List ℕ → Event
  written : ℕ → List ℕ → Event
  unsynced : Event
  synced : Event

-- the event that a program records by the number of its kind
abbrev pub event_by : ℕ → ℕ → List ℕ → Event
event_by zero n bytes = unread n
event_by (suc zero) n bytes = was_read n bytes
event_by (suc (suc zero)) n bytes = unwritten n bytes
event_by (suc (suc (suc zero))) n bytes = written n bytes
event_by (suc (suc (suc (suc zero)))) n bytes = unsynced
event_by (suc (suc (suc (suc (suc more))))) n bytes = synced

abbrev pub event_of : List ℕ → List ℕ → Event
event_of numbers bytes = event_by (slice_index numbers 0) (slice_index numbers 1) bytes

abbrev pub or_else : Option (List ℕ) → List ℕ → Option (List ℕ)
or_else None bytes = Some bytes
or_else (Some known) bytes = Some known

-- The known bytes of block n after these events (newest first), or `None` if the block is not known. A failed write may
-- leave any bytes.
abbrev pub known : List Event → ℕ → Option (List ℕ)
known [] n = None
known (unread m ∷ earlier) n = known earlier n
known (was_read m bytes ∷ earlier) n = if nat_eq n m then or_else (known earlier n) bytes else known earlier n
known (unwritten m bytes ∷ earlier) n = if nat_eq n m then None else known earlier n
known (written m bytes ∷ earlier) n = if nat_eq n m then Some bytes else known earlier n
known (unsynced ∷ earlier) n = known earlier n
known (synced ∷ earlier) n = known earlier n

-- the bytes that a crash leaves in block n, or `None` if the events do not determine these bytes
abbrev pub left : List Event → ℕ → Option (List ℕ)
left [] n = None
left (unread m ∷ earlier) n = left earlier n
left (was_read m bytes ∷ earlier) n = left earlier n
left (unwritten m bytes ∷ earlier) n = if nat_eq n m then None else left earlier n
left (written m bytes ∷ earlier) n = if nat_eq n m then None else left earlier n
left (unsynced ∷ earlier) n = left earlier n
left (synced ∷ earlier) n = known earlier n

-- A crash may leave a block that contracts see as `block`. `seen` maps the bytes of a block to what contracts see.
abbrev pub IsLeft : (List ℕ → List ℕ) → Option (List ℕ) → List ℕ → Type 0
IsLeft seen None block = Unit {0}
IsLeft seen (Some only) block = block ≡ seen only

abbrev pub failures : List Event → ℕ
failures [] = 0
failures (unread m ∷ earlier) = suc (failures earlier)
failures (was_read m bytes ∷ earlier) = failures earlier
failures (unwritten m bytes ∷ earlier) = suc (failures earlier)
failures (written m bytes ∷ earlier) = failures earlier
failures (unsynced ∷ earlier) = suc (failures earlier)
failures (synced ∷ earlier) = failures earlier

-- each read of a known block returned this block
abbrev pub IsHonest : List Event → Type 0
IsHonest [] = Unit {0}
IsHonest (unread m ∷ earlier) = IsHonest earlier
IsHonest (was_read m bytes ∷ earlier) = IfSome (known earlier m) (λ block. bytes ≡ block) × IsHonest earlier
IsHonest (unwritten m bytes ∷ earlier) = IsHonest earlier
IsHonest (written m bytes ∷ earlier) = IsHonest earlier
IsHonest (unsynced ∷ earlier) = IsHonest earlier
IsHonest (synced ∷ earlier) = IsHonest earlier
