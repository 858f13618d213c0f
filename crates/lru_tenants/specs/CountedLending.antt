-- What a counting cache is after the loan of one of its values has ended.
use Rattle.std.specs.Borrow.{Fml, RattleType, MutBor}
use Rattle.std.specs.HashMap.Lent.{HashMembers}
use Rattle.std.specs.declared.hash.Hasher as hasher
use Rattle.group_table.specs.declared.link.LinkType as link_type
use Rattle.lru_caches.specs.Counted.{zeros}
use Rattle.lru_limits.specs.Hashing.{HasherMembers}
use Rattle.lru_tenants.specs.Cache.{Cache}
use Rattle.lru_tenants.specs.Counting.{counting_rules, counting_terms, with_inside}
use Rattle.lru_tenants.specs.Lending.{BudgetMembers, ends_so}
use Rattle.lru_tenants.specs.contracts.counting.Counting.{the_row}
use Rattle.lru_tenants.specs.declared.counting.Counting.{Counting}

module _ (N K V L S M H : RattleType) (name : HashMembers N.Denot) (key : HashMembers K.Denot)
    (limits : BudgetMembers K.Denot V.Denot L.Denot)
    (links : link_type.Ghosts M.Denot)
    (hashed : HasherMembers S.Denot K.Denot H.Denot) (hash : hasher.Ghosts H.Denot) where
  abbrev pub counted_ends_so : MutBor (Cache N.Denot K.Denot V.Denot (Counting L.Denot) S.Denot)
      → (Cache N.Denot K.Denot V.Denot (Counting L.Denot) S.Denot → Type 0) → Fml
  counted_ends_so = ends_so N K V (the_row L) S M H name key (record {
    rules = counting_rules limits.rules;
    terms = counting_terms limits.terms;
    cost_of = limits.cost_of;
    account = λ s. limits.account s.limiter;
    budget_of = λ s. limits.budget_of s.limiter;
    made = λ budget. record { limiter = limits.made budget; counts = zeros };
    rebudgeted = λ budget s. with_inside s (limits.rebudgeted budget s.limiter);
  }) links hashed hash
