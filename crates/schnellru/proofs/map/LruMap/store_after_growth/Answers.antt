use Rattle.std.proofs.Common.{arith, ap, sym, subst, ◌∙◌, ◌∷◌}
use Rattle.lru_model.specs.State.{IsSized}
use Rattle.schnellru.specs.Inside.Holds.{state_of}
use Rattle.lru_model.specs.Callbacks.{noting, noted}
use Rattle.schnellru.specs.Inside.Fields.{fields_of}
use Rattle.lru_model.proofs.TableSizes.SizedStates.{fits}
use Rattle.lru_model.proofs.States.Placements.{grown_place, denied_place, no_target_place}
use Rattle.lru_model.specs.MayTake.{MayTakeEach}
use Rattle.schnellru.proofs.map.LruMap.store_after_growth.Goals as goal

pub returns-then-on_grow-clause-passed : goal.returns-then-on_grow-clause-passed
returns-then-on_grow-clause-passed g c =
    let m = c.self.inside in
    let rest = fields_of m (g.L.LinkType.LinkType.number g.L.LinkType.LinkType.MAX) in
    let old = state_of m.entries rest in
    let outgrown = rw (← c.self.view_is) at c.requires.outgrown in
    let next = rw (← c.self.view_is) at (sym c.in-Some.ensures.next) in
    let hash = rw (← c.self.view_is) at c.requires.hash in
    λ first before taken.
    let (after, had, step) = c.store_after_move.ensures.passed first before taken in (
      after,
      had,
      rw (← c.self.view_is) (grown_place (noting g.L.Limiter.rules) _ c.args.pair (noted before old)
          (noted after c.store_after_move.new.self) c.self.invariant.map.sized c.args.hash
          hash outgrown _ c.in-Some.count c.in-Some.bytes next (c.on_grow.new.self, before)
          (ap (λ s. (s, before)) c.on_grow.ensures.limiter) (sym c.on_grow.ensures.allowed ∙ c.if-on_grow.true) step),
    )

pub returns-else-on_grow-clause-passed : goal.returns-else-on_grow-clause-passed
returns-else-on_grow-clause-passed g c =
    let m = c.self.inside in
    let rest = fields_of m (g.L.LinkType.LinkType.number g.L.LinkType.LinkType.MAX) in
    let old = state_of m.entries rest in
    let outgrown = rw (← c.self.view_is) at c.requires.outgrown in
    let next = rw (← c.self.view_is) at (sym c.in-Some.ensures.next) in
    let hash = rw (← c.self.view_is) at c.requires.hash in
    λ first before taken.
    let (after, had, step) = c.store_without_growth.ensures.passed first before taken in (
      after,
      had,
      rw (← c.self.view_is) (denied_place (noting g.L.Limiter.rules) _ c.args.pair (noted before old)
          (noted after c.store_without_growth.new.self) c.self.invariant.map.sized c.args.hash
          hash outgrown _ c.in-Some.count c.in-Some.bytes next (c.on_grow.new.self, before)
          (ap (λ s. (s, before)) c.on_grow.ensures.limiter) (sym c.on_grow.ensures.allowed ∙ c.if-on_grow.false) step),
    )

pub returns-in-None-clause-passed : goal.returns-in-None-clause-passed
returns-in-None-clause-passed g c =
    let old = c.args.self.now in
    let sized = subst IsSized c.self.view_is c.self.invariant.map.sized in
    λ first before taken.
    let (after, had, step) = c.store_without_growth-in-None.ensures.passed first before taken in (
      after,
      had,
      no_target_place (noting g.L.Limiter.rules) _ c.args.pair (noted before old)
          (noted after c.store_without_growth-in-None.new.self) sized c.args.hash
          c.requires.hash c.requires.outgrown _ (sym c.in-None.ensures.next) step,
    )

pub store_after_move-requires-clause-paid : goal.store_after_move-requires-clause-paid
store_after_move-requires-clause-paid g c = λ few.
    let map = c.self.invariant.map in
    let none = rw (← c.self.view_is) at c.requires.outgrown.no_bucket.no_growth_left in
    omega (arith, map.paid.ahead few, fits map.sized, none)

pub store_after_move-requires-clause-callable : goal.store_after_move-requires-clause-callable
store_after_move-requires-clause-callable g c =
    subst (λ st. MayTakeEach g.L.Limiter.rules g.F.FnMut (c.args.pair ∷ st.pairs) c.args.sink.now) (sym c.self.view_is)
    c.requires.callable

pub store_without_growth-requires-clause-callable : goal.store_without_growth-requires-clause-callable
store_without_growth-requires-clause-callable g c =
    subst (λ st. MayTakeEach g.L.Limiter.rules g.F.FnMut (c.args.pair ∷ st.pairs) c.args.sink.now) (sym c.self.view_is)
    c.requires.callable
