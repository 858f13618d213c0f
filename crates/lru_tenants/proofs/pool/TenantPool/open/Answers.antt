use Rattle.std.proofs.Common.{◌+◌, arith, sym, refl, ◌∙◌, ap, subst}
use Rattle.lru_tenants.specs.Inside.{HoldsPool}
use Rattle.lru_caches.proofs.Outcomes.{none_there}
use Rattle.lru_model.specs.Lists.{lookup}
use Rattle.lru_tenants.proofs.Changes.{opens-unmade, opens-made}
use Rattle.lru_tenants.proofs.PoolKept.{pool-opened, is_pool, not-over}
use Rattle.lru_tenants.proofs.pool.TenantPool.open.Goals as goal

pub invariant_of-self-2 : goal.invariant_of-self-2
invariant_of-self-2 g c =
    subst (λ entries. HoldsPool g.K.PartialEq.eq g.L.Summing.cost_of g.L.Summing.account g.L.Budgeted.budget_of entries
    c.self.inside.limit (c.self.inside.shares + c.args.share) c.self.inside.total) (sym c.in-Ok.ensures.ends.added)
    (pool-opened c.self.inside.tenants.pairs c.self.invariant c.args.name c.opened-own.result
    c.opened-own.ensures.part c.opened-own.ensures.empty (c.self.inside.shares + c.args.share)
    (omega (arith, ap (λ p. p.0) c.opened-own.ensures.own))
    (omega (arith, c.if-share-left.false, c.self.invariant.enough)))

pub returns-clause-pool : goal.returns-clause-pool
returns-clause-pool g c =
    is_pool _ (invariant_of-self-2 g c) c.self.inside.hasher

pub returns-in_default-clause-pool : goal.returns-in_default-clause-pool
returns-in_default-clause-pool g c = rw (c.in_default.ensures.ends.keeps)
    (is_pool c.self.inside.tenants.pairs c.self.invariant c.self.inside.hasher)

pub returns-clause-opens : goal.returns-clause-opens
returns-clause-opens g c =
    let ps = c.self.inside.tenants.pairs in
    let absent = none_there (lookup (g.N.PartialEq.eq c.args.name) ps) (sym c.contains.ensures ∙ c.if-contains.false) in
    rw (c.in-Ok.ensures.ends.added, ← c.self.view_is) (
      refl,
      opens-made g.met.N.Eq.laws c.args.name _ ps absent
          (not-over ps c.self.invariant c.args.share (omega (arith, c.if-share-left.false, c.self.invariant.enough)))
          c.opened-own.result c.opened-own.ensures.own,
    )

pub returns-in_default-clause-opens : goal.returns-in_default-clause-opens
returns-in_default-clause-opens g c =
    let ps = c.self.inside.tenants.pairs in
    let absent = none_there (lookup (g.N.PartialEq.eq c.args.name) ps) (sym c.contains.ensures ∙ c.if-contains.false) in
    rw (c.in_default.ensures.ends.keeps, ← c.self.view_is) (
      refl,
      opens-unmade g.met.N.Eq.laws c.args.name _ ps absent
          (not-over ps c.self.invariant c.args.share (omega (arith, c.if-share-left.false, c.self.invariant.enough))),
    )
