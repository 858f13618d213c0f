use Rattle.std.proofs.Common.{Some, None, Ok, Err, sym, refl, ap, ◌∙◌, length}
use Rattle.lru_limits.specs.Bytes.{both_own}
use Rattle.lru_model.specs.Runs.Step.{removes}
use Rattle.lru_tenants.specs.TenantRuns.{OfOpen, Closes}
use Rattle.lru_tenants.specs.declared.error.TenantError.TheVariants.{NotOpen}
use Rattle.lru_tenants.proofs.ByteChanges.{left-rest}
use Rattle.lru_tenants.proofs.Changes.{found-removed, on-removed}
use Rattle.lru_tenants.proofs.ByteSums.{is_within, holds-removed}
use Rattle.lru_tenants.proofs.bytes.ByteTenants.close.Goals as goal

pub invariant_of-self : goal.invariant_of-self
invariant_of-self g c =
    let names = g.T.LookupKey.names c.args.name.now in let old = c.self.inside.tenants in
    let law = c.calls_keep_the_bytes.ensures in let new = c.remove.new.self in
    let step = removes names c.remove.result c.remove.ensures.step in let sized = c.len-len.ensures.map.sized in
    holds-removed g.N.OwnedBytes.owned (both_own g.K.OwnedBytes.owned g.V.OwnedBytes.owned) old c.self.invariant names
    new (ap (λ st. st.pairs) c.remove.ensures.step.state.is) (law.limit old new sized step c.self.invariant.all)
    (law.kept old new sized step c.self.invariant.all)

pub invariant_of-self-2 : goal.invariant_of-self-2
invariant_of-self-2 g c =
    let names = g.T.LookupKey.names c.args.name.now in let old = c.self.inside.tenants in
    let law = c.calls_keep_the_bytes.ensures in let new = c.remove.new.self in
    let step = removes names c.remove.result c.remove.ensures.step in let sized = c.len-len.ensures.map.sized in
    holds-removed g.N.OwnedBytes.owned (both_own g.K.OwnedBytes.owned g.V.OwnedBytes.owned) old c.self.invariant names
    new (ap (λ st. st.pairs) c.remove.ensures.step.state.is) (law.limit old new sized step c.self.invariant.all)
    (law.kept old new sized step c.self.invariant.all)

pub returns-in_default-clause-within : goal.returns-in_default-clause-within
returns-in_default-clause-within g c = is_within g.N.OwnedBytes.owned
    (both_own g.K.OwnedBytes.owned g.V.OwnedBytes.owned) _ (invariant_of-self g c) c.remove.ensures.map.sized

pub returns-clause-within : goal.returns-clause-within
returns-clause-within g c = is_within g.N.OwnedBytes.owned (both_own g.K.OwnedBytes.owned g.V.OwnedBytes.owned) _
    (invariant_of-self-2 g c) c.remove.ensures.map.sized

pub returns-in_default-clause-closes : goal.returns-in_default-clause-closes
returns-in_default-clause-closes g c =
    let names = g.T.LookupKey.names c.args.name.now in let old = c.self.inside.tenants in
    let found = found-removed names old.pairs c.remove.ensures.step.value in
    rw (← c.self.view_is) (
      left-rest old c.remove.new.self _ c.remove.ensures.step.state (c.calls_keep_the_bytes.ensures.limit old
          c.remove.new.self c.len-len.ensures.map.sized (removes names c.remove.result c.remove.ensures.step)
          c.self.invariant.all),
      rw (ap (λ st. st.pairs) c.remove.ensures.step.state.is) (on-removed (g.met.T.LookupKey.laws.one c.args.name.now)
          (OfOpen Closes) (Err NotOpen) g.met.N.Eq.laws old.pairs c.len-len.ensures.map.distinct None
          (sym found ∙ c.in_default.is) (refl, refl)),
    )

pub returns-clause-closes : goal.returns-clause-closes
returns-clause-closes g c =
    let names = g.T.LookupKey.names c.args.name.now in let old = c.self.inside.tenants in
    let found = found-removed names old.pairs c.remove.ensures.step.value in
    rw (← c.self.view_is) (
      left-rest old c.remove.new.self _ c.remove.ensures.step.state (c.calls_keep_the_bytes.ensures.limit old
          c.remove.new.self c.len-len.ensures.map.sized (removes names c.remove.result c.remove.ensures.step)
          c.self.invariant.all),
      rw (ap (λ st. st.pairs) c.remove.ensures.step.state.is) (on-removed (g.met.T.LookupKey.laws.one c.args.name.now)
          (OfOpen Closes) _ g.met.N.Eq.laws old.pairs c.len-len.ensures.map.distinct (Some c.in-Some.own)
          (sym found ∙ c.in-Some.is) (ap Ok (c.len.ensures.len ∙ ap (λ st. length st.pairs) c.own.view_is), refl)),
    )
