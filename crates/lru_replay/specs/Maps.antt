-- The maps of a replay, whose keys and values are numbers.
use Rattle.std.specs.Prelude.{ℕ, [], ◌∷◌}
use Rattle.std.specs.Hash.{le_bytes}
use Rattle.lru_limits.specs.Mixing.{Mixer, seeded, written, closed}
use Rattle.lru_model.specs.State.{State, empty_map}

abbrev pub Map : Type 0 → Type 0
Map S = State ℕ ℕ S Mixer

abbrev pub empty : {S : Type 0} → S → ℕ → ℕ → Map S
empty limiter entry_bytes max = empty_map limiter (seeded (1 ∷ 2 ∷ 3 ∷ 4 ∷ [])) entry_bytes max

abbrev pub hash_of : Mixer → ℕ → ℕ
hash_of hasher key = closed (written hasher (le_bytes 8 key))
