-- What a pool is after the loan of one of its values has ended.
use Rattle.std.specs.Prelude.{⊤}
use Rattle.std.specs.Borrow.{Fml, RattleType, MutBor, follows_so}
use Rattle.std.specs.HashMap.Lent.{HashMembers}
use Rattle.std.specs.declared.hash.Hasher as hasher
use Rattle.group_table.specs.declared.link.LinkType as link_type
use Rattle.lru_limits.specs.Hashing.{HasherMembers}
use Rattle.lru_tenants.specs.Lending.{BudgetMembers}
use Rattle.lru_tenants.specs.Pool.{Pool}
use Rattle.lru_tenants.specs.contracts.pool.TenantPool.{the_row}
use mathlib.Core.Option.{none}

module _ (N K V L S M H : RattleType) (name : HashMembers N.Denot) (key : HashMembers K.Denot)
    (limits : BudgetMembers K.Denot V.Denot L.Denot)
    (links : link_type.Ghosts M.Denot)
    (hashed : HasherMembers S.Denot K.Denot H.Denot) (hash : hasher.Ghosts H.Denot) where
  abbrev pub pool_row : RattleType
  pool_row = the_row N K V L S M H (record {}) (record { eq = name.eq }) (record { hash_input = name.hash_input })
      (record { eq = key.eq }) (record { hash_input = key.hash_input })
      (record {
        budget_of = limits.budget_of;
        made = limits.made;
        rebudgeted = limits.rebudgeted;
      }) (record { cost_of = limits.cost_of; account = limits.account }) (record { terms = limits.terms })
      (record { rules = limits.rules }) links
      (record { hash_of = hashed.hash_of }) (record { build_hasher = hashed.build_hasher }) hash

  abbrev pub ends_so : MutBor (Pool N.Denot K.Denot V.Denot L.Denot S.Denot)
      → (Pool N.Denot K.Denot V.Denot L.Denot S.Denot → Type 0) → Fml
  ends_so m Ends = follows_so pool_row pool_row m.ghost_name none (λ _ _. ⊤) Ends
