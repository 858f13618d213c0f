use Rattle.std.proofs.Common.{sym, ◌∙◌}
use Rattle.ordered_table.proofs.Tables.BucketPairs.{newest_full, newest_is, others_newest}
use Rattle.schnellru.proofs.Maps.TakenPairs.{taken_pairs, taken_left, taken_notified, taken_leaves}
use Rattle.schnellru.proofs.Maps.TakenPairs.{taken_frees}
use Rattle.schnellru.proofs.Maps.TakenPairs.{taken_holds}
use Rattle.schnellru.proofs.map.LruMap.pop_newest.Goals as goal

pub take_out-requires : goal.take_out-requires
take_out-requires g c = newest_full c.self.inside.entries c.self.invariant.linked c.newest-b.result
    c.newest-b.ensures.newest

pub invariant_of-self : goal.invariant_of-self
invariant_of-self g c =
    let m = c.self.inside in
    let holds = c.self.invariant in
    taken_holds g.L.Limiter.rules m.entries c.take_out.new.entries c.newest-b.result m.limiter c.take_out.new.limiter
    c.take_out.result c.take_out.ensures.taken holds.linked c.take_out.ensures.linked
    _ g.met.K.Eq.laws _ holds (c.take_out.ensures.fits _ holds.fits)

pub returns-clause-step : goal.returns-clause-step
returns-clause-step g c =
    let m = c.self.inside in
    let holds = c.self.invariant in let out = c.take_out.ensures.taken in
    let rules = g.L.Limiter.rules in let t = m.entries in let u = c.take_out.new.entries in
    let l = c.take_out.new.limiter in
    let at = c.newest-b.ensures.newest in
    let is = newest_is t holds.linked c.newest-b.result at out.pair out.takes.pair in
    rw (← c.self.view_is) (record {
      pair = taken_left rules t u c.newest-b.result m.limiter l c.take_out.result out _ is;
      state = taken_leaves rules t u c.newest-b.result m.limiter l c.take_out.result out holds.linked
          c.take_out.ensures.linked _ _
          (taken_pairs rules t u c.newest-b.result m.limiter l c.take_out.result out
          ∙ sym (others_newest t holds.linked c.newest-b.result at out.pair out.takes.pair))
          (taken_notified rules t u c.newest-b.result m.limiter l c.take_out.result out _ is);
    })

pub returns-clause-freed : goal.returns-clause-freed
returns-clause-freed g c =
    let m = c.self.inside in let took = c.take_out in
    rw (← c.self.view_is) (taken_frees g.L.Limiter.rules m.entries took.new.entries c.newest-b.result m.limiter
    took.new.limiter took.result took.ensures.taken _ c.newest-b.ensures.newest)

pub returns-clause-map : goal.returns-clause-map
returns-clause-map g c = (invariant_of-self g c).map
