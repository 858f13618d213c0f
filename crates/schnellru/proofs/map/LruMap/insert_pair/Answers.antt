use Rattle.std.proofs.Common.{[], Ok, inl, refl, ap, subst, arith, sym}
use Rattle.lru_model.specs.State.{buckets}
use Rattle.lru_model.specs.Place.{placed, in_bucket, FillsBucket}
use Rattle.lru_model.specs.Callbacks.{noted}
use Rattle.schnellru.proofs.Maps.NotedStates.{noted_placed}
use Rattle.lru_model.proofs.States.NewKeys.{IsNew, stays_new}
use Rattle.lru_model.specs.MayTake.{MayTakeEach}
use Rattle.schnellru.proofs.map.LruMap.insert_pair.Goals.{After-make_room}
use Rattle.schnellru.proofs.map.LruMap.insert_pair.Goals as goal

still_new : (g : _) (c : After-make_room g)
    → IsNew g.S.KeyHasher.hash_of g.K.PartialEq.eq c.args.hash c.args.pair c.make_room.new.self
still_new g c =
    stays_new g.L.Limiter.rules g.S.KeyHasher.hash_of g.K.PartialEq.eq c.args.hash c.args.pair c.args.self.now
    c.make_room.new.self _ ((rw c.settle.ensures at c.make_room.ensures.passed) c.args.sink.now [] refl).2
    c.requires.hash c.requires.absent

pub make_room-requires : goal.make_room-requires
make_room-requires g c = rw c.settle.ensures record { callable = (c.args.pair, c.requires.callable) }

pub insert_without_growth-requires-clause-hash : goal.insert_without_growth-requires-clause-hash
insert_without_growth-requires-clause-hash g c =
    (still_new g (goal.at.insert_without_growth-requires-clause-hash g c).After-make_room).hash

pub insert_without_growth-requires-clause-absent : goal.insert_without_growth-requires-clause-absent
insert_without_growth-requires-clause-absent g c =
    (still_new g (goal.at.insert_without_growth-requires-clause-absent g c).After-make_room).absent

pub store_in_room-requires-clause-hash : goal.store_in_room-requires-clause-hash
store_in_room-requires-clause-hash g c =
    (still_new g (goal.at.store_in_room-requires-clause-hash g c).After-make_room).hash

pub store_in_room-requires-clause-absent : goal.store_in_room-requires-clause-absent
store_in_room-requires-clause-absent g c =
    (still_new g (goal.at.store_in_room-requires-clause-absent g c).After-make_room).absent

pub returns-then-growth_left-eq0 : goal.returns-then-growth_left-eq0
returns-then-growth_left-eq0 g c = record {
  passed =
      λ first before taken.
      let (mid, had, way) = (rw c.settle.ensures at c.make_room.ensures.passed) first before taken in
      let (after, has, step) = c.insert_without_growth.ensures.passed first mid had in
      (after, has, (noted mid c.make_room.new.self, way, step));
}

pub returns : goal.returns
returns g c = record {
  passed =
      let ready = c.make_room.new.self in let stored = c.store_in_room.ensures in let new = c.store_in_room.new.self in
      λ first before taken.
      let (mid, had, way) = (rw c.settle.ensures at c.make_room.ensures.passed) first before taken in
      let (after, in_all, trimmed) = c.evict_over_limit.ensures.passed first mid had in
      let is = (still_new g (goal.at.returns g c).After-make_room).hash in
      let put = in_bucket stored.within (inl (omega (arith, c.growth_left.ensures, c.if-growth_left-eq0.false)))
      (subst (λ h. FillsBucket h ready.table new.table) is
      stored.fills) refl
      (noted_placed mid c.args.pair (buckets ready) 0 ready new stored.placed) in
      let left = ap Ok c.evict_over_limit.ensures.left in
      (after, in_all, (noted mid ready, way, (placed, noted mid new, put, (left, trimmed))));
}

pub insert_without_growth-requires-clause-callable : goal.insert_without_growth-requires-clause-callable
insert_without_growth-requires-clause-callable g c =
    (rw c.settle.ensures at c.make_room.ensures.callable) c.args.pair c.requires.callable

pub evict_over_limit-requires-clause-callable : goal.evict_over_limit-requires-clause-callable
evict_over_limit-requires-clause-callable g c =
    subst (λ pairs. MayTakeEach g.L.Limiter.rules g.F.FnMut pairs c.make_room.new.sink)
    (sym (ap (λ st. st.pairs) c.store_in_room.ensures.placed.state))
    ((rw c.settle.ensures at c.make_room.ensures.callable) c.args.pair c.requires.callable)
