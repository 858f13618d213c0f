-- What a `ByteCache` is after the loan of one of its values has ended.
use Rattle.std.specs.Prelude.{◌≡◌, ℕ, ⊤}
use Rattle.std.specs.Borrow.{Fml, RattleType, MutBor, follows_so}
use Rattle.std.specs.HashMap.Lent.{HashMembers}
use Rattle.std.specs.declared.hash.Hasher as hasher
use Rattle.lru_limits.specs.Hashing.{HasherMembers}
use Rattle.lru_tenants.specs.Bytes.{ByteCache}
use Rattle.lru_model.specs.State.{State}
use Rattle.lru_limits.specs.Bytes.{Bytes}
use Rattle.lru_tenants.specs.contracts.bytes.ByteTenants.{the_row}
use Rattle.lru_tenants.specs.contracts.bytes.tenant.ByteTenant.{the_row as tenant_row}
use mathlib.Core.Option.{none}

module _ (K V S H : RattleType) (key : HashMembers K.Denot) (of_key : K.Denot → ℕ) (of_value : V.Denot → ℕ)
    (hashed : HasherMembers S.Denot K.Denot H.Denot) (hash : hasher.Ghosts H.Denot) where
  abbrev pub map_row : RattleType
  map_row = tenant_row K V S H (record { eq = key.eq }) (record { hash_input = key.hash_input })
      (record { owned = of_key }) (record { owned = of_value }) (record { hash_of = hashed.hash_of })
      (record { build_hasher = hashed.build_hasher }) hash

  -- after the loan, the tenant's map is `last`
  abbrev pub ends_as : MutBor (State K.Denot V.Denot Bytes S.Denot) → State K.Denot V.Denot Bytes S.Denot → Fml
  ends_as m last = follows_so map_row map_row m.ghost_name none (λ _ _. ⊤) (λ n. n ≡ last)

module _ (N K V S H : RattleType) (name : HashMembers N.Denot) (key : HashMembers K.Denot)
    (of_name : N.Denot → ℕ) (of_key : K.Denot → ℕ) (of_value : V.Denot → ℕ)
    (hashed : HasherMembers S.Denot K.Denot H.Denot) (hash : hasher.Ghosts H.Denot) where
  abbrev pub cache_row : RattleType
  cache_row = the_row N K V S H (record {}) (record { eq = name.eq }) (record { hash_input = name.hash_input })
      (record { owned = of_name }) (record {}) (record { eq = key.eq }) (record { hash_input = key.hash_input })
      (record { owned = of_key }) (record { owned = of_value }) (record { hash_of = hashed.hash_of })
      (record { build_hasher = hashed.build_hasher }) hash

  abbrev pub ends_so : MutBor (ByteCache N.Denot K.Denot V.Denot S.Denot)
      → (ByteCache N.Denot K.Denot V.Denot S.Denot → Type 0) → Fml
  ends_so m Ends = follows_so cache_row cache_row m.ghost_name none (λ _ _. ⊤) Ends
