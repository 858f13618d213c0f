use Rattle.std.proofs.Common.{arith, sym, ap, ◌∙◌, sum_by}
use Rattle.std.specs.Map.{values_of}
use Rattle.std.specs.Map.Iter.{deref}
use Rattle.std.proofs.lemmas.Iterator.Consumers.{YieldsList-from_rest, YieldsList-end}
use Rattle.lru_tenants.proofs.Kept.{not-above, within-less}
use Rattle.lru_tenants.proofs.TotalCosts.{mapped, costs-within}
use Rattle.lru_tenants.proofs.cache.TenantCache.total_cost.Goals as goal

pub returns : goal.returns
returns g c =
    let maps = values_of c.self.inside.tenants.pairs in
    let road = YieldsList-from_rest {shows = deref} {s = c.into_iter-map-iterator.result} maps
    (c.into_iter-map-iterator.ensures.into_iter_gives ∙ c.values-map-items.ensures.rest) in
    let all = (YieldsList-end road c.loop-map.yielded c.loop-map.map-iterator c.loop-map.yielded_by c.next.result
    c.next.new.self c.in-None.is c.next.ensures.steps).0 in
    let total = c.loop-map.invariant.total
    ∙ sym (mapped (λ map. g.L.Summing.account map.limiter) deref c.loop-map.yielded)
    ∙ ap (sum_by (λ map. g.L.Summing.account map.limiter)) all in
    let most = costs-within maps c.self.invariant.each in
    rw (← c.self.view_is) (record {
      total = total;
      within = omega (arith, total, most);
      limit = within-less c.self.inside.total_limit c.self.inside.budgets _
          (not-above c.self.inside.total_limit c.self.inside.budgets c.self.invariant.within)
          (omega (arith, total, c.self.invariant.sum, most));
    })
