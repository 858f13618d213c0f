use Rattle.std.proofs.Common.{Some, Ok, sym, refl, ap, ◌∙◌, subst}
use Rattle.lru_limits.specs.Bytes.{both_own}
use Rattle.lru_model.specs.Theorems.{KeepsBytes}
use Rattle.lru_model.specs.Lists.{lookup}
use Rattle.lru_tenants.specs.Bytes.{limit_of}
use Rattle.lru_tenants.specs.TenantRuns.{read_of, Gets}
use Rattle.lru_tenants.proofs.Changes.{found-all, on-written}
use Rattle.lru_tenants.proofs.ByteSums.{holds-written, promoted-keeps}
use Rattle.lru_tenants.proofs.bytes.ByteTenants.get.Goals as goal

pub invariant_of-self-2 : goal.invariant_of-self-2
invariant_of-self-2 g c =
    let of_pair = both_own g.K.OwnedBytes.owned g.V.OwnedBytes.owned in
    let names = g.T.LookupKey.names c.args.name.now in let there = sym c.in-Some.ensures.value in
    let was = c.in-Some.own.now in let is = c.get.follows.holds-at-none in
    holds-written g.N.OwnedBytes.owned of_pair c.self.inside.tenants c.self.invariant names was
    c.get.follows.lender-at-none there (ap limit_of is) (subst (KeepsBytes of_pair) (sym is)
    (promoted-keeps (g.Q.LookupKey.names c.args.key.now) was
    (found-all (KeepsBytes of_pair) names c.self.inside.tenants.pairs was there c.self.invariant.each)))

pub returns : goal.returns
returns g c =
    let key = g.Q.LookupKey.names c.args.key.now in
    let there = sym c.in-Some.ensures.value in let was = c.in-Some.own.now in
    rw (← c.self.view_is) (
      (
        refl,
        λ _. tt,
        (
          refl,
          on-written (g.met.T.LookupKey.laws.one c.args.name.now) (Gets key) _ g.met.N.Eq.laws
              c.self.inside.tenants.pairs was c.get.follows.lender-at-none there
              (ap Ok c.get.ensures.value, ap Some c.get.follows.holds-at-none),
        ),
      ),
      record {
        leaves = tt;
        value = ap Ok c.get.ensures.value ∙ sym (ap (read_of (λ map. lookup key map.pairs)) there);
      },
    )
