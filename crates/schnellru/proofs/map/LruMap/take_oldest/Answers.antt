use Rattle.ordered_table.proofs.Tables.BucketPairs.{oldest_is, others_oldest}
use Rattle.std.proofs.Common.{sym, ◌∙◌}
use Rattle.schnellru.proofs.Maps.TakenPairs.{taken_pairs, taken_left, taken_notified, taken_leaves}
use Rattle.schnellru.proofs.Maps.TakenPairs.{taken_frees}
use Rattle.schnellru.proofs.Maps.TakenPairs.{taken_holds}
use Rattle.schnellru.proofs.map.LruMap.take_oldest.Goals as goal

pub invariant_of-self : goal.invariant_of-self
invariant_of-self g c =
    let m = c.self.inside in
    let holds = c.self.invariant in
    taken_holds g.L.Limiter.rules m.entries c.take_out_oldest.new.entries c.take_out_oldest.ensures.taken.0 m.limiter c.take_out_oldest.new.limiter
    c.take_out_oldest.result c.take_out_oldest.ensures.taken.2 holds.linked c.take_out_oldest.ensures.linked
    _ g.met.K.Eq.laws _ holds (c.take_out_oldest.ensures.fits _ holds.fits)

pub returns-clause-step : goal.returns-clause-step
returns-clause-step g c =
    let m = c.self.inside in
    let holds = c.self.invariant in let out = c.take_out_oldest.ensures.taken.2 in
    let rules = g.L.Limiter.rules in let t = m.entries in let u = c.take_out_oldest.new.entries in
    let l = c.take_out_oldest.new.limiter in
    let is = oldest_is t holds.linked c.take_out_oldest.ensures.taken.0 c.take_out_oldest.ensures.taken.1 out.pair out.takes.pair in
    rw (← c.self.view_is) (record {
      pair = taken_left rules t u c.take_out_oldest.ensures.taken.0 m.limiter l c.take_out_oldest.result out _ is;
      state = taken_leaves rules t u c.take_out_oldest.ensures.taken.0 m.limiter l c.take_out_oldest.result out holds.linked
          c.take_out_oldest.ensures.linked _ _
          (taken_pairs rules t u c.take_out_oldest.ensures.taken.0 m.limiter l c.take_out_oldest.result out
          ∙ sym (others_oldest t holds.linked c.take_out_oldest.ensures.taken.0 c.take_out_oldest.ensures.taken.1 out.pair out.takes.pair))
          (taken_notified rules t u c.take_out_oldest.ensures.taken.0 m.limiter l c.take_out_oldest.result out _ is);
    })

pub returns-clause-freed : goal.returns-clause-freed
returns-clause-freed g c =
    let m = c.self.inside in let took = c.take_out_oldest in
    rw (← c.self.view_is) (taken_frees g.L.Limiter.rules m.entries took.new.entries c.take_out_oldest.ensures.taken.0 m.limiter
    took.new.limiter took.result took.ensures.taken.2 _ c.take_out_oldest.ensures.taken.1)

pub returns-clause-map : goal.returns-clause-map
returns-clause-map g c = (invariant_of-self g c).map
