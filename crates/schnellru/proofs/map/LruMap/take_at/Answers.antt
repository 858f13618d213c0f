use Rattle.std.proofs.Common.{◌≡◌, true, refl, sym, ap, ◌∙◌, subst, unwrap_or}
use Rattle.ordered_table.proofs.Tables.BucketPairs.{pair_found, others_are}
use Rattle.ordered_table.proofs.Tables.Searches.{pair_of_place}
use Rattle.schnellru.proofs.Maps.TakenPairs.{taken_pairs, taken_left, taken_notified, taken_leaves}
use Rattle.schnellru.proofs.Maps.TakenPairs.{taken_frees}
use Rattle.schnellru.proofs.Maps.TakenPairs.{taken_holds}
use Rattle.schnellru.proofs.map.LruMap.take_at.Goals as goal

pub take_out-requires : goal.take_out-requires
take_out-requires g c = c.self.invariant.linked.only c.args.b (rw (← c.self.view_is) at c.requires)

pub invariant_of-self : goal.invariant_of-self
invariant_of-self g c =
    let m = c.self.inside in
    let holds = c.self.invariant in
    taken_holds g.L.Limiter.rules m.entries c.take_out.new.entries c.args.b m.limiter c.take_out.new.limiter
    c.take_out.result c.take_out.ensures.taken holds.linked c.take_out.ensures.linked _ g.met.K.Eq.laws _ holds
    (c.take_out.ensures.fits _ holds.fits)

pub returns-clause-step : goal.returns-clause-step
returns-clause-step g c = λ names one at.
    let m = c.self.inside in
    let holds = c.self.invariant in let laws = g.met.K.Eq.laws in
    let found = pair_of_place m.entries holds.linked names laws one holds.map.distinct c.args.b
    (rw (← c.self.view_is) at at) in
    let took = c.take_out in let out = took.ensures.taken in
    let rules = g.L.Limiter.rules in let t = m.entries in let u = took.new.entries in let l = took.new.limiter in
    let key = ap (λ o. unwrap_or o found.0) (sym found.1 ∙ out.takes.pair) in
    let named = subst (λ p. names p.0 ≡ true) key found.2 in
    let is = pair_found t holds.linked c.args.b out.pair out.takes.pair names laws one holds.map.distinct named in
    rw (← c.self.view_is) (record {
      pair = taken_left rules t u c.args.b m.limiter l took.result out _ is;
      state = taken_leaves rules t u c.args.b m.limiter l took.result out holds.linked took.ensures.linked _ _
          (taken_pairs rules t u c.args.b m.limiter l took.result out
          ∙ sym (others_are t holds.linked c.args.b out.pair out.takes.pair names laws one holds.map.distinct named))
          (taken_notified rules t u c.args.b m.limiter l took.result out _ is);
    })

pub returns-clause-freed : goal.returns-clause-freed
returns-clause-freed g c =
    let m = c.self.inside in let took = c.take_out in
    rw (← c.self.view_is) (taken_frees g.L.Limiter.rules m.entries took.new.entries c.args.b m.limiter took.new.limiter
    took.result took.ensures.taken _ refl)

pub returns-clause-map : goal.returns-clause-map
returns-clause-map g c = (invariant_of-self g c).map
