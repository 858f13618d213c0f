-- What a map is after a reference into the map has ended.
use Rattle.std.specs.Prelude.{◌≡◌, ℕ, Bool, List, [], ◌∷◌, Option, Some, OnSome, IfNone, ⊤, if◌then◌else◌, nat_eq}
use Rattle.std.specs.Option.{option_copied_mut}
use Rattle.std.specs.Borrow.{Fml, RattleType, Bor, MutBor, follows, follows_so, Lends, LendsIf, LendsSo}
use Rattle.std.specs.HashMap.Lent.{HashMembers}
use Rattle.std.specs.declared.hash.Hasher as hasher
use Rattle.lru_limits.specs.Hashing.{HasherMembers}
use Rattle.group_table.specs.declared.link.LinkType as link_type
use Rattle.lru_limits.specs.declared.limiter.Limiter as limiter
use Rattle.lru_model.specs.Lists.{set_newest, set_value_at}
use Rattle.lru_model.specs.State.{State}
use Rattle.lru_model.specs.Calls.{written}
use Rattle.schnellru.specs.contracts.map.LruMap.{the_row}
use mathlib.Core.Option.{none}

-- The list of pairs, with w as the value of the pair in bucket b. `places` lists the buckets of the pairs, in the order
-- of the pairs.
abbrev pub set_value_in : {K V : Type 0} → ℕ → V → List (K × V) → List ℕ → List (K × V)
set_value_in b w [] places = []
set_value_in b w (pair ∷ pairs) [] = pair ∷ pairs
set_value_in b w (pair ∷ pairs) (c ∷ places) =
    if nat_eq c b then (pair.0, w) ∷ pairs else pair ∷ set_value_in b w pairs places

-- the map, with w as the value of the pair in bucket b
abbrev pub written_in : {K V S H : Type 0} → ℕ → V → State K V S H → State K V S H
written_in b w st = record st { pairs = set_value_in b w st.pairs st.table.places }

module _ (K V L S N H : RattleType) (key : HashMembers K.Denot)
    (limits : limiter.Ghosts L.Denot K.Denot V.Denot N.Denot)
    (links : link_type.Ghosts N.Denot)
    (hashed : HasherMembers S.Denot K.Denot H.Denot) (hash : hasher.Ghosts H.Denot) where
  -- the type of the map, as a `RattleType`
  abbrev pub map_row : RattleType
  map_row = the_row K V L S N H (record { eq = key.eq })
      (record { hash_input = key.hash_input }) limits links
      (record { hash_of = hashed.hash_of }) (record { build_hasher = hashed.build_hasher }) hash

  module _ (m : MutBor (State K.Denot V.Denot L.Denot S.Denot)) where
    -- After the loan, the map is `base`, but the named key has the last value written through r. If r is `None`, the
    -- map does not change.
    abbrev pub lends_value : (K.Denot → Bool) → State K.Denot V.Denot L.Denot S.Denot → Option (MutBor V.Denot) → Fml
    lends_value names base r = LendsIf map_row V m r (λ last. written names last base) m.now

    -- a part of the map was lent for reading, and after the loan the map is `last`
    abbrev pub ends_as : State K.Denot V.Denot L.Denot S.Denot → Fml
    ends_as last = follows_so map_row map_row m.ghost_name none (λ _ _. ⊤) (λ n. n ≡ last)

    -- If r is `Some`, r lends the value of a pair that satisfies `gives`. After the loan, `turned` has changed the map
    -- for the key of this pair, and the key has the last value written through r. If r is `None`, the map does not
    -- change.
    abbrev pub lends_given : (K.Denot × V.Denot → Type 0)
        → ((K.Denot → Bool) → State K.Denot V.Denot L.Denot S.Denot → State K.Denot V.Denot L.Denot S.Denot)
        → Option (MutBor V.Denot) → Fml
    lends_given gives turned r = LendsSo map_row V m r
        (λ n last. OnSome r ((pair : K.Denot × V.Denot) × gives pair × (option_copied_mut r ≡ Some pair.1)
        × (n ≡ written (key.eq pair.0) last (turned (key.eq pair.0) m.now))))
        (λ n. IfNone r (n ≡ m.now))

    -- After the loan, the newest pair has the last value written through r. If r is `None`, the map does not change.
    abbrev pub lends_newest : Option (MutBor V.Denot) → Fml
    lends_newest r = LendsIf map_row V m r (λ last. record m.now { pairs = set_newest m.now.pairs last }) m.now

    -- what `lends_newest` says, for a result that is always a reference
    abbrev pub lends_newest_value : MutBor V.Denot → Fml
    lends_newest_value r = Lends map_row V m r (λ last. record m.now { pairs = set_newest m.now.pairs last })

    -- after the loan, the pair in bucket b has the last value written through r
    abbrev pub lends_value_in : ℕ → MutBor V.Denot → Fml
    lends_value_in b r = Lends map_row V m r (λ last. written_in b last m.now)

    -- after the loan, the pair at position i has the last value written through r
    abbrev pub lends_value_at : ℕ → Bor K.Denot × MutBor V.Denot → Fml
    lends_value_at i r = follows map_row V m.ghost_name r.1.ghost_name
        (λ last. record m.now { pairs = set_value_at m.now.pairs i last })

    -- after the loan, the map's limiter is the last limiter written through r
    abbrev pub lends_limiter : MutBor L.Denot → Fml
    lends_limiter r = Lends map_row L m r (λ last. record m.now { limiter = last })
