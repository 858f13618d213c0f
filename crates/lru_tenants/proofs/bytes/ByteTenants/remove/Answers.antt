use Rattle.std.proofs.Common.{None, Ok, Err, sym, refl}
use Rattle.lru_limits.specs.Bytes.{both_own, by_bytes}
use Rattle.lru_model.specs.Theorems.{KeepsBytes}
use Rattle.lru_model.specs.Calls.{Remove}
use Rattle.lru_tenants.specs.TenantRuns.{IfOpen}
use Rattle.lru_tenants.specs.declared.error.TenantError.TheVariants.{NotOpen}
use Rattle.lru_tenants.proofs.Changes.{found-all, on-same, on-written}
use Rattle.lru_tenants.proofs.ByteSums.{is_within, holds-written}
use Rattle.lru_tenants.proofs.bytes.ByteTenants.remove.Goals as goal

pub returns-in_default-clause-within : goal.returns-in_default-clause-within
returns-in_default-clause-within g c = is_within g.N.OwnedBytes.owned
    (both_own g.K.OwnedBytes.owned g.V.OwnedBytes.owned) c.self.inside.tenants c.self.invariant
    c.len-len.ensures.map.sized

pub remove-requires : goal.remove-requires
remove-requires g c = found-all (KeepsBytes (both_own g.K.OwnedBytes.owned g.V.OwnedBytes.owned))
    (g.T.LookupKey.names c.args.name.now) c.self.inside.tenants.pairs c.in-Some.own.now (sym c.in-Some.ensures.value)
    c.self.invariant.each

pub invariant_of-self-2 : goal.invariant_of-self-2
invariant_of-self-2 g c = holds-written g.N.OwnedBytes.owned (both_own g.K.OwnedBytes.owned g.V.OwnedBytes.owned)
    c.self.inside.tenants c.self.invariant (g.T.LookupKey.names c.args.name.now) c.in-Some.own.now c.remove.new.self
    (sym c.in-Some.ensures.value) c.remove.ensures.limit c.remove.ensures.keeps

pub returns-clause-within : goal.returns-clause-within
returns-clause-within g c = is_within g.N.OwnedBytes.owned (both_own g.K.OwnedBytes.owned g.V.OwnedBytes.owned) _
    (invariant_of-self-2 g c) (c.in-Some.ensures.map c.remove.new.self).sized

pub returns-in_default-clause-removes : goal.returns-in_default-clause-removes
returns-in_default-clause-removes g c = rw (← c.self.view_is) (
  refl,
  on-same (g.met.T.LookupKey.laws.one c.args.name.now) (IfOpen (Remove (by_bytes (both_own g.K.OwnedBytes.owned
      g.V.OwnedBytes.owned)) (g.Q.LookupKey.names c.args.key.now))) (Err NotOpen) _ None (sym c.in_default.ensures.value)
      (refl, refl),
)

pub returns-clause-removes : goal.returns-clause-removes
returns-clause-removes g c =
    rw (← c.self.view_is) (
      refl,
      on-written (g.met.T.LookupKey.laws.one c.args.name.now) (IfOpen (Remove (by_bytes (both_own
          g.K.OwnedBytes.owned g.V.OwnedBytes.owned)) (g.Q.LookupKey.names c.args.key.now))) (Ok c.remove.result)
          g.met.N.Eq.laws c.self.inside.tenants.pairs c.in-Some.own.now c.remove.new.self (sym c.in-Some.ensures.value)
          (c.remove.result, c.remove.new.self, c.remove.ensures.removes, refl, refl),
    )
