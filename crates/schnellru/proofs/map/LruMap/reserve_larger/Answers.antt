use Rattle.std.proofs.Common.{refl, sym, ◌∙◌}
use Rattle.schnellru.specs.Inside.Holds.{state_of}
use Rattle.lru_model.specs.Reservations.{unchanged, no_such_table}
use Rattle.schnellru.specs.Inside.Fields.{fields_of}
use Rattle.lru_model.proofs.States.Reservations.{is_reserved, asked_only_granted, is_denied}
use Rattle.schnellru.proofs.map.LruMap.reserve_larger.Goals as goal

pub returns-then-not-on_grow-clause-step : goal.returns-then-not-on_grow-clause-step
returns-then-not-on_grow-clause-step g c =
    let m = c.self.inside in
    let rest = fields_of m (g.L.LinkType.LinkType.number g.L.LinkType.LinkType.MAX) in
    rw (← c.self.view_is) (is_denied g.L.Limiter.rules c.args.n (state_of m.entries rest) _
    (rw (← c.self.view_is) at c.requires.needs_growth) c.in-Some.count c.in-Some.bytes
    (rw (← c.self.view_is) at (sym c.in-Some.ensures.next)) c.on_grow.new.self c.on_grow.ensures.limiter
    (sym c.on_grow.ensures.allowed ∙ c.if-not-on_grow.true) refl)

pub returns-in-Ok-clause-step : goal.returns-in-Ok-clause-step
returns-in-Ok-clause-step g c =
    let m = c.self.inside in
    let rest = fields_of m (g.L.LinkType.LinkType.number g.L.LinkType.LinkType.MAX) in
    rw (← c.self.view_is) (is_reserved g.L.Limiter.rules c.args.n (state_of m.entries rest) c.move_to.new.self
    (rw (← c.self.view_is) at c.requires.needs_growth)
    c.in-Some.count c.in-Some.bytes (rw (← c.self.view_is) at (sym c.in-Some.ensures.next)) c.on_grow.new.self
    c.on_grow.ensures.limiter
    (sym c.on_grow.ensures.allowed ∙ c.if-not-on_grow.false) c.in-Ok.ensures.moved)

pub returns-in-Err-clause-step : goal.returns-in-Err-clause-step
returns-in-Err-clause-step g c =
    let m = c.self.inside in
    let rest = fields_of m (g.L.LinkType.LinkType.number g.L.LinkType.LinkType.MAX) in
    rw (← c.self.view_is) (asked_only_granted g.L.Limiter.rules c.args.n (state_of m.entries rest) c.move_to.new.self
    (rw (← c.self.view_is) at c.requires.needs_growth)
    c.in-Some.count c.in-Some.bytes (rw (← c.self.view_is) at (sym c.in-Some.ensures.next)) c.on_grow.new.self
    c.on_grow.ensures.limiter
    (sym c.on_grow.ensures.allowed ∙ c.if-not-on_grow.false) c.in-Err.ensures.unchanged)

pub returns-in-None-clause-step : goal.returns-in-None-clause-step
returns-in-None-clause-step g c = unchanged
    (no_such_table c.requires.needs_growth (sym c.in-None.ensures.next) refl) refl
