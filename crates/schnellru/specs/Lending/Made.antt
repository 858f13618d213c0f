-- A get that inserts a missing key lends the value of the newest pair, or no value. `Step` says what the map is after
-- the get, and whether the get lends a value.
use Rattle.std.specs.Prelude.{◌≡◌, Bool, Option, Result}
use Rattle.std.specs.Borrow.{Fml, RattleType, MutBor, LendsSoOk, follows_so}
use Rattle.std.specs.HashMap.Lent.{HashMembers}
use Rattle.std.specs.declared.hash.Hasher as hasher
use Rattle.lru_limits.specs.Hashing.{HasherMembers}
use Rattle.group_table.specs.declared.link.LinkType as link_type
use Rattle.lru_limits.specs.declared.limiter.Limiter as limiter
use Rattle.lru_model.specs.Lists.{newest_value, set_newest}
use Rattle.lru_model.specs.State.{State, IsMap}
use Rattle.schnellru.specs.Lending.Answers.{lent_or_none, is_kept, IsLent, NoneLent, value_lent, name_lent}
use Rattle.schnellru.specs.Lending.Values.{map_row}
use Rattle.schnellru.specs.declared.map.get_or_insert.NotLent.{NotLent}

module _ (K V L S N H : RattleType) (key : HashMembers K.Denot)
    (limits : limiter.Ghosts L.Denot K.Denot V.Denot N.Denot)
    (links : link_type.Ghosts N.Denot)
    (hashed : HasherMembers S.Denot K.Denot H.Denot) (hash : hasher.Ghosts H.Denot)
    (m : MutBor (State K.Denot V.Denot L.Denot S.Denot)) {E : Type 0}
    (Step : Result Bool E → State K.Denot V.Denot L.Denot S.Denot → Type 0) where
  -- After the get, the map is `made`, and the get lends the newest pair's value. If the caller writes w through the
  -- loan, the map is n after the loan.
  abbrev pub Made : Result (Option (MutBor V.Denot)) E → State K.Denot V.Denot L.Denot S.Denot → V.Denot → Type 0
  Made r n w = (made : State K.Denot V.Denot L.Denot S.Denot) × Step (is_kept r) made
      × (newest_value made.pairs ≡ value_lent r)
      × (n ≡ record made { pairs = set_newest made.pairs w }) × IsMap key.eq n

  -- after the get, the map is n, and the get lends no value
  abbrev pub LendsNone : Result (Option (MutBor V.Denot)) E → State K.Denot V.Denot L.Denot S.Denot → Type 0
  LendsNone r n = Step (is_kept r) n × IsMap key.eq n

  -- What the map is after the loan, if the get returned r. If no value is lent and no error occurred, r is `NotKept`.
  abbrev pub lends_or : Result (MutBor V.Denot) (NotLent E) → Fml
  lends_or r = LendsSoOk (map_row K V L S N H key limits links hashed hash) V m r
      (λ n w. Made (lent_or_none r) n w) (λ n. LendsNone (lent_or_none r) n)

  -- what `lends_or` says, but with `Ok None` instead of `NotKept`
  abbrev pub lends_made : Result (Option (MutBor V.Denot)) E → Fml
  lends_made r = follows_so (map_row K V L S N H key limits links hashed hash) V m.ghost_name
      (name_lent r)
      (λ w n. IsLent r → Made r n w) (λ n. NoneLent r → LendsNone r n)
