-- What a cache is after the loan of one of its values has ended.
use Rattle.std.specs.Prelude.{ℕ, Option, Result, Ok, Err, ⊤}
use Rattle.std.specs.Borrow.{Fml, RattleType, Bor, MutBor, follows_so}
use Rattle.std.specs.HashMap.Lent.{HashMembers}
use Rattle.std.specs.Option.{option_copied}
use Rattle.std.specs.declared.hash.Hasher as hasher
use Rattle.group_table.specs.declared.link.LinkType as link_type
use Rattle.lru_limits.specs.Hashing.{HasherMembers}
use Rattle.lru_limits.specs.Admissions.{Terms}
use Rattle.lru_limits.specs.Rules.{Rules}
use Rattle.lru_tenants.specs.Cache.{Cache}
use Rattle.lru_tenants.specs.contracts.cache.TenantCache.{the_row}
use mathlib.Core.Option.{none}

-- the members of `L.Budgeted` that a clause may use
abbrev pub BudgetMembers : Type 0 → Type 0 → Type 0 → Type 0
BudgetMembers K V L = record {
  rules : Rules K V L;
  terms : Terms K V L;
  cost_of : K → V → ℕ;
  account : L → ℕ;
  budget_of : L → ℕ;
  made : ℕ → L;
  rebudgeted : ℕ → L → L;
}

module _ (N K V L S M H : RattleType) (name : HashMembers N.Denot) (key : HashMembers K.Denot)
    (limits : BudgetMembers K.Denot V.Denot L.Denot)
    (links : link_type.Ghosts M.Denot)
    (hashed : HasherMembers S.Denot K.Denot H.Denot) (hash : hasher.Ghosts H.Denot) where
  abbrev pub cache_row : RattleType
  cache_row = the_row N K V L S M H (record {}) (record { eq = name.eq }) (record { hash_input = name.hash_input })
      (record { eq = key.eq }) (record { hash_input = key.hash_input })
      (record {
        budget_of = limits.budget_of;
        made = limits.made;
        rebudgeted = limits.rebudgeted;
      }) (record { cost_of = limits.cost_of; account = limits.account }) (record { terms = limits.terms })
      (record { rules = limits.rules }) links
      (record { hash_of = hashed.hash_of }) (record { build_hasher = hashed.build_hasher }) hash

  abbrev pub ends_so : MutBor (Cache N.Denot K.Denot V.Denot L.Denot S.Denot)
      → (Cache N.Denot K.Denot V.Denot L.Denot S.Denot → Type 0) → Fml
  ends_so m Ends = follows_so cache_row cache_row m.ghost_name none (λ _ _. ⊤) Ends

abbrev pub read : {V E : Type 0} → Result (Option (Bor V)) E → Result (Option V) E
read (Ok lent) = Ok (option_copied lent)
read (Err e) = Err e
