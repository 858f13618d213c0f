-- What a handle of the C library owns.
use Rattle.std.specs.Prelude.{◌≡◌, ◌≤◌, ℕ, length, Option, None, Some}
use Rattle.std.specs.Borrow.{Fml, RattleType, u32, u64}
use Rattle.std.specs.Box.Ownership.{box_owns}
use Rattle.std.specs.declared.alloc.Global.{Global}
use Rattle.std.specs.contracts.impls.GlobalAllocator.TheImpl as heap
use Rattle.std.specs.contracts.option.Option as option
use Rattle.std.specs.contracts.prelude.U64Hash.TheImpl as u64_hash
use Rattle.std.specs.contracts.prelude.U64PartialEq.TheImpl as u64_eq
use base.Fml.{feq}
use denote.RawPtr.{Ptr, null_ptr}
use Rattle.group_table.specs.contracts.link.U32LinkType.TheImpl as u32_link
use Rattle.lru_limits.specs.Hashing.{hash_by}
use Rattle.lru_limits.specs.Mixing.{Mixer}
use Rattle.lru_limits.specs.contracts.hasher.DefaultHasher as default_hasher
use Rattle.lru_limits.specs.contracts.hasher.DefaultHasherHasher.TheImpl as default_hashes
use Rattle.lru_limits.specs.contracts.hasher.RandomState as random_state
use Rattle.lru_limits.specs.contracts.hasher.RandomStateBuildHasher.TheImpl as random_builds
use Rattle.lru_limits.specs.contracts.limiters.by_length.ByLength as by_length
use Rattle.lru_limits.specs.contracts.limiters.by_length.ByLengthLimiter.TheImpl as length_limits
use Rattle.lru_model.specs.Sizes.{max_of_32_bits}
use Rattle.lru_model.specs.State.{State}
use Rattle.schnellru.specs.contracts.map.LruMap as lru_map

abbrev pub Map : Type 0
Map = State ℕ ℕ ℕ Mixer

-- What holds for the map of each handle.
pub record FitsHandle (map : Map) : Type 0 where
  pub within : length map.pairs ≤ map.limiter
  pub entry : map.entry_bytes ≡ 24
  pub links : map.max ≡ max_of_32_bits

abbrev pub hash_of : Mixer → ℕ → ℕ
hash_of = hash_by u64_hash.ghosts.hash_input random_builds.ghosts default_hashes.ghosts

abbrev pub map_row : RattleType
map_row = lru_map.the_row u64 u64 by_length.the_row random_state.the_row u32 default_hasher.the_row u64_eq.ghosts
    u64_hash.ghosts (length_limits.ghosts u64 u64) u32_link.ghosts
    (record { hash_of = hash_of }) random_builds.ghosts default_hashes.ghosts

abbrev pub maybe_row : RattleType
maybe_row = option.the_row map_row

-- the only value of the allocator `Global`
abbrev pub c_heap : Global
c_heap = record { memory = record { seal = tt } }

-- `start` owns the boxed value, or is null if there is no value
abbrev pub owns_boxed : (row : RattleType) → Ptr → Option row.Denot → Fml
owns_boxed row start None = feq Ptr start null_ptr
owns_boxed row start (Some value) = box_owns (heap.ghosts.dealloc_token c_heap) row start value
