use Rattle.std.proofs.Common.{sym, refl}
use Rattle.lru_model.proofs.CallerLemmas.{read_back, promoted-absent}
use Rattle.lru_tenants.proofs.bytes.tenant.ByteTenant.get.Goals as goal

pub returns-in-Some : goal.returns-in-Some
returns-in-Some g c =
    let names = g.Q.LookupKey.names c.args.key.now in let found = c.in-Some.ensures.value in
    rw (← c.self.view_is) (
      (refl, λ _. tt, read_back names c.self.inside.map c.in-Some.value.now (sym found)),
      record { ends = tt; value = found },
    )

pub returns-in-None : goal.returns-in-None
returns-in-None g c =
    let names = g.Q.LookupKey.names c.args.key.now in let found = c.in-None.ensures.value in
    rw (← c.self.view_is) (
      (refl, λ _. tt, sym (promoted-absent names c.self.inside.map (sym found))),
      record { ends = tt; value = found },
    )
