-- The type of a map of byte strings, as a `RattleType`.
use Rattle.std.specs.Borrow.{RattleType, u8, usize}
use Rattle.std.specs.contracts.alloc.Global as global
use Rattle.std.specs.contracts.impls.GlobalAllocator.TheImpl as heap
use Rattle.std.specs.contracts.option.Option as option
use Rattle.std.specs.contracts.vec.Vec as vec
use denote.Param.{number}
use Rattle.group_table.specs.contracts.link.UsizeLinkType.TheImpl as usize_link
use Rattle.lru_limits.specs.contracts.accounts.by_weight.ByWeight as by_weight
use Rattle.lru_limits.specs.contracts.hasher.DefaultHasher as default_hasher
use Rattle.lru_limits.specs.contracts.hasher.DefaultHasherHasher.TheImpl as default_hashes
use Rattle.lru_limits.specs.contracts.hasher.RandomState as random_state
use Rattle.lru_limits.specs.contracts.hasher.RandomStateBuildHasher.TheImpl as random_builds
use Rattle.schnellru.specs.contracts.map.LruMap as lru_map
use Rattle.lru_c.specs.Bytes.{same_bytes, input_of_bytes, hash_of_bytes, bytes_rules}

abbrev bytes : RattleType
bytes = vec.the_row u8 global.the_row heap.ghosts

abbrev pub bytes_row : RattleType
bytes_row = lru_map.the_row bytes bytes (by_weight.the_row (number 64)) random_state.the_row usize
    default_hasher.the_row
    (record { eq = same_bytes }) (record { hash_input = input_of_bytes }) (record { rules = bytes_rules })
    usize_link.ghosts (record { hash_of = hash_of_bytes }) random_builds.ghosts default_hashes.ghosts

abbrev pub maybe_bytes_row : RattleType
maybe_bytes_row = option.the_row bytes_row
