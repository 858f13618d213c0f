use Rattle.std.proofs.Common.{◌&&◌, Ok, Err, arith, sym, refl, ◌∙◌, ap, subst}
use Rattle.std.specs.Map.{set_value}
use Rattle.std.specs.Prelude.{OnErr}
use Rattle.lru_limits.specs.Admissions.{offers_of}
use Rattle.lru_model.specs.Inserts.{Insert}
use Rattle.lru_model.specs.Lists.{IsFront}
use Rattle.lru_model.specs.Theorems.{SaysWhether}
use Rattle.lru_tenants.specs.Pool.{with_map, ends, Puts}
use Rattle.lru_tenants.proofs.PoolKept.{pool_of, is_pool, own-part, own-cost, cost-written, share-written, each-written}
use Rattle.lru_tenants.proofs.PoolKept.{pool-written}
use Rattle.lru_tenants.proofs.PoolPuts.{puts-open, puts-closed, own-spared, put-spares, put-there, cost-falls}
use Rattle.lru_tenants.proofs.Pools.{spared-same}
use Rattle.lru_tenants.proofs.pool.TenantPool.put.Goals as goal

pub returns-in_default-clause-puts : goal.returns-in_default-clause-puts
returns-in_default-clause-puts g c = rw (← c.self.view_is) (puts-closed (g.T.LookupKey.names c.args.name.now)
    (Puts g.L.Limiter.rules (offers_of g.L.Admission.terms) g.L.Summing.account g.N.PartialEq.eq g.K.PartialEq.eq
    g.S.KeyHasher.hash_of (g.T.LookupKey.names c.args.name.now) c.args.key c.args.value) _
    (sym c.in_default.ensures.value))

pub returns-in_default-clause-spares : goal.returns-in_default-clause-spares
returns-in_default-clause-spares g c = rw (← c.self.view_is) (λ other apart. spared-same g.L.Summing.account _)

pub returns-in_default-clause-pool : goal.returns-in_default-clause-pool
returns-in_default-clause-pool g c =
    is_pool c.self.inside.tenants.pairs c.self.invariant c.self.inside.hasher

pub insert-inserted-requires-clause-tenant : goal.insert-inserted-requires-clause-tenant
insert-inserted-requires-clause-tenant g c = (own-part c.self.inside.tenants.pairs c.self.invariant
    (g.T.LookupKey.names c.args.name.now) c.in-Some.own.now (sym c.in-Some.ensures.value)).tenant

pub overflow_sub-total : goal.overflow_sub-total
overflow_sub-total g c = omega (
  arith,
  c.cost_of-before.ensures,
  own-cost c.self.inside.tenants.pairs c.self.invariant (g.T.LookupKey.names c.args.name.now) c.in-Some.own.now
      (sym c.in-Some.ensures.value),
)

pub overflow_add-total : goal.overflow_add-total
overflow_add-total g c =
    let is = own-part c.self.inside.tenants.pairs c.self.invariant (g.T.LookupKey.names c.args.name.now)
    c.in-Some.own.now (sym c.in-Some.ensures.value) in
    let tenant = c.insert-inserted.ensures.tenant in
    omega (
      arith,
      c.self.invariant.within,
      is.limits,
      is.tenant.small,
      c.cost_of-after.ensures,
      tenant.within,
      tenant.small,
    )

pub invariant_of-self-in_default-inserted : goal.invariant_of-self-in_default-inserted
invariant_of-self-in_default-inserted g c =
    let ps = c.self.inside.tenants.pairs in let names = g.T.LookupKey.names c.args.name.now in
    let was = c.in-Some.own.now in let left = c.insert-inserted.new.map in
    let there = sym c.in-Some.ensures.value in
    let is = own-part ps c.self.invariant names was there in
    let front = subst (λ r. OnErr r (IsFront left.pairs was.1.pairs)) c.in_default-inserted.is
    c.insert-inserted.ensures.ends.keeps in
    let falls = cost-falls g.L.Summing.cost_of g.L.Summing.account was.1 left is.tenant.sum
    c.insert-inserted.ensures.tenant.sum front in
    let least = own-cost ps c.self.invariant names was there in
    pool-written ps c.self.invariant names was there left
    (record {
      tenant = c.insert-inserted.ensures.tenant;
      limits = c.insert-inserted.ensures.budget ∙ is.limits;
    }) _
    (omega (arith, c.cost_of-before.ensures, c.cost_of-after.ensures, least))
    (omega (arith, c.cost_of-before.ensures, c.cost_of-after.ensures, least, falls, c.self.invariant.within))

pub returns-in_default-inserted-clause-pool : goal.returns-in_default-inserted-clause-pool
returns-in_default-inserted-clause-pool g c =
    is_pool _ (invariant_of-self-in_default-inserted g c) c.self.inside.hasher

pub returns-in_default-inserted-clause-spares : goal.returns-in_default-inserted-clause-spares
returns-in_default-inserted-clause-spares g c =
    let ps = c.self.inside.tenants.pairs in let names = g.T.LookupKey.names c.args.name.now in
    let was = c.in-Some.own.now in let left = c.insert-inserted.new.map in
    let holds = invariant_of-self-in_default-inserted g c in
    rw (← c.self.view_is) (put-spares {rules = g.L.Limiter.rules} g.met.N.Eq.laws names
    (g.met.T.LookupKey.laws.one c.args.name.now) ps (set_value names ps (with_map left was)) was left (sym c.in-Some.ensures.value) c.self.inside.limit
    (ends (omega (arith, holds.cost, holds.within))))

pub returns-in_default-inserted-clause-puts : goal.returns-in_default-inserted-clause-puts
returns-in_default-inserted-clause-puts g c =
    let ps = c.self.inside.tenants.pairs in let names = g.T.LookupKey.names c.args.name.now in
    let was = c.in-Some.own.now in let left = c.insert-inserted.new.map in
    let holds = invariant_of-self-in_default-inserted g c in
    let rules = g.L.Limiter.rules in let offers = offers_of g.L.Admission.terms in
    rw (← c.self.view_is) (puts-open names (Puts rules offers g.L.Summing.account g.N.PartialEq.eq g.K.PartialEq.eq
    g.S.KeyHasher.hash_of names c.args.key c.args.value) _ _
    (pool_of (set_value names ps (with_map left was)) c.self.inside.limit c.self.inside.hasher) was (sym c.in-Some.ensures.value) (record {
      left = left;
      result = Err c.in_default-inserted.field-0;
      inserts = subst (λ r. Insert rules offers g.K.PartialEq.eq g.S.KeyHasher.hash_of c.args.key c.args.value was.1 r
          left) c.in_default-inserted.is c.insert-inserted.ensures.inserts;
      evictions = ends (omega (arith, holds.cost, holds.within));
      failed = refl;
      spared = own-spared {rules = rules} g.met.N.Eq.laws names (g.met.T.LookupKey.laws.one c.args.name.now) ps
          (set_value names ps (with_map left was)) was left (sym c.in-Some.ensures.value) c.self.inside.limit
          (ends (omega (arith, holds.cost, holds.within)));
      said = refl;
      is = refl;
    }))

pub settle-self-inside-requires-clause-each : goal.settle-self-inside-requires-clause-each
settle-self-inside-requires-clause-each g c =
    let ps = c.self.inside.tenants.pairs in let names = g.T.LookupKey.names c.args.name.now in
    let was = c.in-Some.own.now in let there = sym c.in-Some.ensures.value in
    each-written ps c.self.invariant names was there c.insert-inserted.new.map (record {
      tenant = c.insert-inserted.ensures.tenant;
      limits = c.insert-inserted.ensures.budget ∙ (own-part ps c.self.invariant names was there).limits;
    })

pub settle-self-inside-requires-clause-shares : goal.settle-self-inside-requires-clause-shares
settle-self-inside-requires-clause-shares g c = omega (
  arith,
  share-written c.self.inside.tenants.pairs c.self.invariant (g.T.LookupKey.names c.args.name.now) c.in-Some.own.now
      (sym c.in-Some.ensures.value) c.insert-inserted.new.map,
  c.self.invariant.enough,
)

pub settle-self-inside-requires-clause-total : goal.settle-self-inside-requires-clause-total
settle-self-inside-requires-clause-total g c =
    let ps = c.self.inside.tenants.pairs in let names = g.T.LookupKey.names c.args.name.now in
    let was = c.in-Some.own.now in let there = sym c.in-Some.ensures.value in
    omega (
      arith,
      c.cost_of-before.ensures,
      c.cost_of-after.ensures,
      own-cost ps c.self.invariant names was there,
      cost-written ps c.self.invariant names was there c.insert-inserted.new.map,
    )

pub invariant_of-self-2 : goal.invariant_of-self-2
invariant_of-self-2 g c =
    let settled = c.settle-self-inside.ensures in
    record {
      each = settled.each;
      share = sym (settled.shares ∙ share-written c.self.inside.tenants.pairs c.self.invariant
          (g.T.LookupKey.names c.args.name.now) c.in-Some.own.now (sym c.in-Some.ensures.value)
          c.insert-inserted.new.map);
      enough = c.self.invariant.enough;
      cost = settled.total;
      within = settled.within;
    }

pub returns-clause-pool : goal.returns-clause-pool
returns-clause-pool g c = is_pool _ (invariant_of-self-2 g c) c.self.inside.hasher

pub returns-clause-spares : goal.returns-clause-spares
returns-clause-spares g c =
    let ps = c.self.inside.tenants.pairs in let names = g.T.LookupKey.names c.args.name.now in
    rw (← c.self.view_is) (put-spares g.met.N.Eq.laws names (g.met.T.LookupKey.laws.one c.args.name.now) ps
    c.settle-self-inside.new.tenants.pairs c.in-Some.own.now c.insert-inserted.new.map (sym c.in-Some.ensures.value)
    c.self.inside.limit c.settle-self-inside.ensures.evictions)

pub returns-clause-puts : goal.returns-clause-puts
returns-clause-puts g c =
    let ps = c.self.inside.tenants.pairs in let names = g.T.LookupKey.names c.args.name.now in
    let was = c.in-Some.own.now in let left = c.insert-inserted.new.map in
    let there = sym c.in-Some.ensures.value in
    let rules = g.L.Limiter.rules in let offers = offers_of g.L.Admission.terms in
    let new = c.settle-self-inside.new.tenants.pairs in
    let run = c.settle-self-inside.ensures.evictions in
    let named = g.K.PartialEq.eq c.args.key in
    let kept = c.in-Ok.kept in
    rw (← c.self.view_is) (puts-open names (Puts rules offers g.L.Summing.account g.N.PartialEq.eq g.K.PartialEq.eq
    g.S.KeyHasher.hash_of names c.args.key c.args.value) _ _
    (pool_of new c.self.inside.limit c.self.inside.hasher) was there (record {
      left = left;
      result = Ok kept;
      inserts = subst (λ r. Insert rules offers g.K.PartialEq.eq g.S.KeyHasher.hash_of c.args.key c.args.value was.1 r
          left) c.in-Ok.is c.insert-inserted.ensures.inserts;
      evictions = run;
      failed = tt;
      spared = own-spared g.met.N.Eq.laws names (g.met.T.LookupKey.laws.one c.args.name.now) ps new was left there
          c.self.inside.limit run;
      said = ap (λ b. Ok (kept && b)) c.has_entries-is_left.ensures
          ∙ ap Ok (put-there g.met.N.Eq.laws names (g.met.T.LookupKey.laws.one c.args.name.now) ps new was left there
          c.self.inside.limit run named kept
          (subst (λ r. SaysWhether rules named r left) c.in-Ok.is c.insert-inserted.ensures.ends.says));
      is = refl;
    }))
