use Rattle.std.proofs.Common.{refl, subst}
use Rattle.lru_model.specs.State.{IsMap}
use Rattle.schnellru.proofs.Maps.NewestPair.{newest_state, newest_holds, newest_is}
use Rattle.schnellru.proofs.map.LruMap.newest_value_mut.Goals as goal

pub invariant_of-self-lent : goal.invariant_of-self-lent
invariant_of-self-lent g c = λ w.
    let m = c.self.inside in
    let t = m.entries in let holds = c.self.invariant in
    let hash_of = g.S.KeyHasher.hash_of in
    newest_holds t holds.linked c.newest-b.result
    (c.pair_mut.result.0.now, c.pair_mut.result.1.now) c.pair_mut.ensures.pair c.newest-b.ensures.newest w
    _ g.met.K.Eq.laws hash_of holds
    (c.pair_mut.ensures.linked w)
    (c.pair_mut.ensures.fits (hash_of m.hasher) holds.fits w)

pub returns : goal.returns
returns g c =
    let m = c.self.inside in
    let t = m.entries in let holds = c.self.invariant in
    let hash_of = g.S.KeyHasher.hash_of in
    let first = c.newest-b.ensures.newest in
    rw (← c.self.view_is) (
      (
        refl,
        λ w. newest_state t holds.linked c.newest-b.result
            (c.pair_mut.result.0.now, c.pair_mut.result.1.now) c.pair_mut.ensures.pair first w
            _,
      ),
      record {
        writes_back = tt;
        value = newest_is t holds.linked c.newest-b.result
            (c.pair_mut.result.0.now, c.pair_mut.result.1.now) c.pair_mut.ensures.pair first;
        map = λ w. subst (IsMap g.K.PartialEq.eq)
            (newest_state t holds.linked c.newest-b.result (c.pair_mut.result.0.now, c.pair_mut.result.1.now)
            c.pair_mut.ensures.pair first w _)
            (newest_holds t holds.linked c.newest-b.result (c.pair_mut.result.0.now, c.pair_mut.result.1.now)
            c.pair_mut.ensures.pair first w _ g.met.K.Eq.laws hash_of holds
            (c.pair_mut.ensures.linked w)
            (c.pair_mut.ensures.fits (hash_of m.hasher) holds.fits w)).map;
      },
    )
