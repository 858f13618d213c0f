use Rattle.lru_tenants.proofs.Gets.{promoted-tenant}
use Rattle.lru_tenants.proofs.tenant.counted.look_up.Goals as goal

pub count_look_up-requires : goal.count_look_up-requires
count_look_up-requires g c = promoted-tenant g.met.Q.LookupKey.laws c.args.key.now g.L.Summing.cost_of
    (λ s. g.L.Summing.account s.limiter) (λ s. g.L.Budgeted.budget_of s.limiter) c.args.map.now
    c.promote-there.new.self c.promote-there.ensures.promoted c.requires
