-- What a contract says of an `OccupiedEntry`, also after a loan of the entry's value has ended.
use Rattle.std.specs.Prelude.{◌≡◌, [], Bool, IsTrue, Option, Some}
use Rattle.std.specs.Borrow.{Fml, GName, RattleType, MutBor, Lends, RestsIfNone}
use Rattle.std.specs.HashMap.Lent.{HashMembers}
use Rattle.std.specs.declared.cmp.PartialEq as equality
use Rattle.std.specs.declared.hash.Hash as hashing
use Rattle.std.specs.declared.hash.Hasher as hasher
use Rattle.std.specs.declared.hash.BuildHasher as builder
use Rattle.lru_limits.specs.declared.keys.KeyHasher as key_hasher
use Rattle.lru_limits.specs.Hashing.{HasherMembers}
use Rattle.group_table.specs.declared.link.LinkType as link_type
use Rattle.lru_limits.specs.declared.limiter.Limiter as limiter
use Rattle.lru_model.specs.State.{State, place_in}
use Rattle.schnellru.specs.Lending.Values.{map_row, written_in}
use Rattle.schnellru.specs.declared.map.entry.OccupiedEntry.{OccupiedEntry}
use Rattle.schnellru.specs.contracts.map.entry.OccupiedEntry.{the_row}
use mir.Syntax.{named}

-- `entry` is an `OccupiedEntry`; the other parameters are parts of its type
module _ {K V L S N H : Type 0} {equal : equality.Ghosts K} {input : hashing.Ghosts K} {limits : limiter.Ghosts L K V N}
    {links : link_type.Ghosts N}
    {keyed : key_hasher.Ghosts S K H} {build : builder.Ghosts S H} {hash : hasher.Ghosts H}
    (entry : OccupiedEntry K V L S N H equal input limits links keyed build hash) where
  abbrev pub entry_map : State K V L S
  entry_map = entry.map.now

  abbrev pub entry_lender : GName
  entry_lender = entry.map.ghost_name

  -- `names` is true exactly for the keys that equal the entry's key
  pub record IsOn (names : K → Bool) : Type 0 where
    pub one : (x y : K) → IsTrue (names x) → names y ≡ equal.eq x y
    pub place : place_in names entry.map.now ≡ Some entry.bucket

  -- the `OccupiedEntry` after the caller wrote the value w
  abbrev pub entry_written : V → OccupiedEntry K V L S N H equal input limits links keyed build hash
  entry_written w = record entry { map = record entry.map { now = written_in entry.bucket w entry.map.now } }

module _ (K V L S N H : RattleType) (key : HashMembers K.Denot)
    (limits : limiter.Ghosts L.Denot K.Denot V.Denot N.Denot)
    (links : link_type.Ghosts N.Denot)
    (hashed : HasherMembers S.Denot K.Denot H.Denot) (hash : hasher.Ghosts H.Denot) where
  abbrev pub Entry : Type 0
  Entry = OccupiedEntry K.Denot V.Denot L.Denot S.Denot N.Denot H.Denot (record { eq = key.eq })
      (record { hash_input = key.hash_input }) limits
      links (record { hash_of = hashed.hash_of })
      (record { build_hasher = hashed.build_hasher }) hash

  abbrev pub entry_row : RattleType
  entry_row = the_row (record { mir = named 1; lft = [] }) K V L S N H (record { eq = key.eq })
      (record { hash_input = key.hash_input }) limits links
      (record { hash_of = hashed.hash_of }) (record { build_hasher = hashed.build_hasher }) hash

  -- if the result is `None`, the map does not change
  abbrev pub keeps_if_none : MutBor (State K.Denot V.Denot L.Denot S.Denot) → Option Entry → Fml
  keeps_if_none m r = RestsIfNone (map_row K V L S N H key limits links hashed hash) m (λ e. entry_lender e) r
      (λ n. n ≡ m.now)

  -- After the loan, the entry has the last value written through r. `lends_into` says the same of the map.
  abbrev pub lends_found : MutBor Entry → MutBor V.Denot → Fml
  lends_found e r = Lends entry_row V e r (λ last. entry_written e.now last)

  abbrev pub lends_into : Entry → MutBor V.Denot → Fml
  lends_into e r = Lends (map_row K V L S N H key limits links hashed hash) V e.map r
      (λ last. entry_map (entry_written e last))
