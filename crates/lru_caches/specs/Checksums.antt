-- The checksum of a block: the last 8 bytes of the block.
use Rattle.std.specs.Prelude.{ℕ, ◌-◌, List, [], ◌∷◌, ◌++◌, length, take, map}
use Rattle.std.specs.Int.{w64, to_le_bytes}
use Rattle.lru_limits.specs.Mixing.{seeded, written as mixed, closed}
use Rattle.lru_caches.specs.Files.{Event, unread, was_read, unwritten, written, unsynced, synced}

-- the hash of these bytes, made by the hasher with the default seeds
unfoldable pub hash_of : List ℕ → ℕ
hash_of bytes = closed (mixed (seeded (1 ∷ 2 ∷ 3 ∷ 4 ∷ [])) bytes)

abbrev pub with_tail : List ℕ → ℕ → List ℕ
with_tail block number = take (length block - 8) block ++ to_le_bytes w64 number

-- Block n with the checksum in the last 8 bytes. The checksum is the hash of n and of all other bytes of the block.
abbrev pub with_checksum : ℕ → List ℕ → List ℕ
with_checksum n block = with_tail block (hash_of (with_tail block n))

-- the event on the file: each block that was read or written has its checksum
abbrev pub with_event_checksum : Event → Event
with_event_checksum (unread n) = unread n
with_event_checksum (was_read n bytes) = was_read n (with_checksum n bytes)
with_event_checksum (unwritten n bytes) = unwritten n bytes
with_event_checksum (written n bytes) = written n (with_checksum n bytes)
with_event_checksum unsynced = unsynced
with_event_checksum synced = synced

abbrev pub with_checksums : List Event → List Event
with_checksums events = map with_event_checksum events
