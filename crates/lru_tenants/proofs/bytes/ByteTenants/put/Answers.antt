use Rattle.std.proofs.Common.{None, Err, sym, refl, ap, ◌∙◌}
use Rattle.lru_limits.specs.Bytes.{both_own, by_bytes, bytes_offers}
use Rattle.lru_model.specs.Theorems.{KeepsBytes}
use Rattle.lru_tenants.specs.TenantRuns.{OfOpen, Puts, put_answer}
use Rattle.lru_tenants.specs.declared.error.TenantError.TheVariants.{NotOpen}
use Rattle.lru_tenants.proofs.Changes.{found-all, on-same, on-written}
use Rattle.lru_tenants.proofs.ByteSums.{is_within, holds-written}
use Rattle.lru_tenants.proofs.bytes.ByteTenants.put.Goals as goal
use Rattle.lru_tenants.proofs.bytes.ByteTenants.put.Goals.{in-Ok, in-Err}

pub returns-in_default-clause-within : goal.returns-in_default-clause-within
returns-in_default-clause-within g c = is_within g.N.OwnedBytes.owned
    (both_own g.K.OwnedBytes.owned g.V.OwnedBytes.owned) c.self.inside.tenants c.self.invariant
    c.len-len.ensures.map.sized

pub insert-requires : goal.insert-requires
insert-requires g c = found-all (KeepsBytes (both_own g.K.OwnedBytes.owned g.V.OwnedBytes.owned))
    (g.T.LookupKey.names c.args.name.now) c.self.inside.tenants.pairs c.in-Some.own.now (sym c.in-Some.ensures.value)
    c.self.invariant.each

pub invariant_of-self-2 : goal.invariant_of-self-2
invariant_of-self-2 g c = holds-written g.N.OwnedBytes.owned (both_own g.K.OwnedBytes.owned g.V.OwnedBytes.owned)
    c.self.inside.tenants c.self.invariant (g.T.LookupKey.names c.args.name.now) c.in-Some.own.now c.insert.new.self
    (sym c.in-Some.ensures.value) c.insert.ensures.limit c.insert.ensures.keeps

pub returns-clause-within : goal.returns-clause-within
returns-clause-within g c = is_within g.N.OwnedBytes.owned (both_own g.K.OwnedBytes.owned g.V.OwnedBytes.owned) _
    (invariant_of-self-2 g c) (c.in-Some.ensures.map c.insert.new.self).sized

pub returns-in_default-clause-puts : goal.returns-in_default-clause-puts
returns-in_default-clause-puts g c =
    let of_pair = both_own g.K.OwnedBytes.owned g.V.OwnedBytes.owned in
    rw (← c.self.view_is) (
      refl,
      on-same (g.met.T.LookupKey.laws.one c.args.name.now) (OfOpen (Puts (by_bytes of_pair)
          (bytes_offers of_pair) (λ limiter. limiter.limit) g.K.PartialEq.eq g.S.KeyHasher.hash_of c.args.key c.args.value))
          (Err NotOpen) _ None (sym c.in_default.ensures.value) (refl, refl),
    )

pub returns-clause-puts : goal.returns-clause-puts
returns-clause-puts g c =
    let of_pair = both_own g.K.OwnedBytes.owned g.V.OwnedBytes.owned in
    rw (← c.self.view_is) (
      refl,
      on-written (g.met.T.LookupKey.laws.one c.args.name.now) (OfOpen (Puts (by_bytes of_pair)
          (bytes_offers of_pair) (λ limiter. limiter.limit) g.K.PartialEq.eq g.S.KeyHasher.hash_of c.args.key c.args.value))
          c.match-insert.result g.met.N.Eq.laws c.self.inside.tenants.pairs c.in-Some.own.now c.insert.new.self
          (sym c.in-Some.ensures.value) (record {
            left = c.insert.new.self;
            result = c.insert.result;
            inserts = c.insert.ensures.inserts;
            budget = c.insert.ensures.limit;
            said = elim (c.match-insert.branch) [
              | in-Ok w ↦ w.result-is ∙ sym (ap put_answer w.in-Ok.is)
              | in-Err w ↦ w.result-is ∙ sym (ap put_answer w.in-Err.is)
            ];
            is = refl;
          }),
    )
