use Rattle.schnellru.proofs.Maps.ClearedMaps.{cleared_is, cleared_holds}
use Rattle.schnellru.proofs.map.LruMap.clear.Goals as goal

pub invariant_of-self : goal.invariant_of-self
invariant_of-self g c =
    let m = c.self.inside in let e = c.clear.ensures in
    cleared_holds g.L.Limiter.rules m.entries c.clear.new.self e.slots e.order e.insertions _ c.on_cleared.new.self
    c.on_cleared.ensures
    _ _ c.self.invariant e.linked (e.fits _)

pub returns-clause-step : goal.returns-clause-step
returns-clause-step g c =
    let m = c.self.inside in let e = c.clear.ensures in
    rw (← c.self.view_is)
    (cleared_is g.L.Limiter.rules m.entries c.clear.new.self e.slots e.order e.insertions _ c.on_cleared.new.self
    c.on_cleared.ensures)

pub returns-clause-map : goal.returns-clause-map
returns-clause-map g c = (invariant_of-self g c).map
