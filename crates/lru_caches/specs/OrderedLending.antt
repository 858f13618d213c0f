-- What an ordered map contains after a reference to one of its values has ended.
use Rattle.std.specs.Prelude.{Bool, List, Option}
use Rattle.std.specs.Borrow.{Fml, RattleType, MutBor, LendsIf}
use Rattle.std.specs.HashMap.Lent.{HashMembers}
use Rattle.std.specs.Map.{set_value}
use Rattle.std.specs.declared.hash.Hasher as hasher
use Rattle.lru_limits.specs.Hashing.{HasherMembers}
use Rattle.lru_caches.specs.contracts.ordered_map.OrderedMap.{the_row}

module _ (K V S H : RattleType) (key : HashMembers K.Denot)
    (hashed : HasherMembers S.Denot K.Denot H.Denot) (hash : hasher.Ghosts H.Denot) where
  abbrev pub map_row : RattleType
  map_row = the_row K V S H (record { eq = key.eq }) (record { hash_input = key.hash_input })
      (record { hash_of = hashed.hash_of }) (record { build_hasher = hashed.build_hasher }) hash

  -- After the loan, the named key has the value that was written last through r. If no value was lent, the map does not
  -- change.
  abbrev pub lends_value : MutBor (List (K.Denot × V.Denot)) → (K.Denot → Bool) → Option (MutBor V.Denot) → Fml
  lends_value m names r = LendsIf map_row V m r (λ last. set_value names m.now last) m.now
