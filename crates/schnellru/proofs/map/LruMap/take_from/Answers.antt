use Rattle.std.proofs.Common.{◌≡◌, Some, slice_get, ap, sym, ◌∙◌, subst}
use Rattle.lru_model.specs.Lists.{last_of, without}
use Rattle.ordered_table.proofs.Tables.BucketPairs.{all_full, others_are, pairs-length}
use Rattle.ordered_table.proofs.Tables.Places.{got_in, pair_at}
use Rattle.lru_model.proofs.PairLists.DistinctKeys.{AreDistinct}
use Rattle.lru_model.proofs.PairLists.NamedPairs.{cut_without, others_unnamed}
use Rattle.schnellru.proofs.Maps.Retains.{at_cut}
use Rattle.schnellru.proofs.Maps.TakenPairs.{taken_pairs, taken_left, taken_notified, taken_leaves, taken_holds}
use Rattle.schnellru.proofs.Positions.{last_stays}
use Rattle.schnellru.proofs.map.LruMap.take_from.Goals as goal

pub take_out-requires : goal.take_out-requires
take_out-requires g c = c.self.invariant.linked.only c.args.b
    (got_in c.self.inside.entries.order c.args.at c.args.b (rw (← c.self.view_is) at c.requires))

pub invariant_of-self : goal.invariant_of-self
invariant_of-self g c =
    let m = c.self.inside in
    let holds = c.self.invariant in
    taken_holds g.L.Limiter.rules m.entries c.take_out.new.entries c.args.b m.limiter c.take_out.new.limiter
    c.take_out.result c.take_out.ensures.taken holds.linked c.take_out.ensures.linked _ g.met.K.Eq.laws _ holds
    (c.take_out.ensures.fits _ holds.fits)

pub returns-clause-step : goal.returns-clause-step
returns-clause-step g c = λ newer older pair parted many.
    let m = c.self.inside in let holds = c.self.invariant in let laws = g.met.K.Eq.laws in
    let out = c.take_out.ensures.taken in let rules = g.L.Limiter.rules in
    let t = m.entries in let u = c.take_out.new.entries in let l = c.take_out.new.limiter in
    let whole = rw (← c.self.view_is) at parted in
    let got = pair_at t.slots t.order c.args.at c.args.b out.pair (all_full t.slots t.order holds.linked.only)
    (rw (← c.self.view_is) at c.requires) out.takes.pair in
    let is : Some pair ≡ Some out.pair = sym (at_cut newer older pair)
    ∙ (λ i. slice_get (sym whole i) (many i)) ∙ got in
    let names = g.K.PartialEq.eq pair.0 in let named = laws.refl pair.0 in
    let unnamed = others_unnamed names laws (λ x y h. laws.congr pair.0 x y h) newer older pair named (subst (λ l. AreDistinct g.K.PartialEq.eq l) whole
    holds.map.distinct) in
    rw (← c.self.view_is) (record {
      pair = taken_left rules t u c.args.b m.limiter l c.take_out.result out (Some pair) is;
      state = taken_leaves rules t u c.args.b m.limiter l c.take_out.result out holds.linked c.take_out.ensures.linked _ _
          (taken_pairs rules t u c.args.b m.limiter l c.take_out.result out
          ∙ sym (others_are t holds.linked c.args.b pair (out.takes.pair ∙ sym is) names laws
          (λ x y h. laws.congr pair.0 x y h) holds.map.distinct named)
          ∙ ap (without names) whole ∙ cut_without names pair named newer older unnamed)
          (taken_notified rules t u c.args.b m.limiter l c.take_out.result out (Some pair) is);
    })

pub returns-clause-next : goal.returns-clause-next
returns-clause-next g c =
    let t = c.self.inside.entries in
    rw (← c.self.view_is) (ap (last_of c.args.at) c.take_out.ensures.taken.takes.order
    ∙ last_stays c.args.b t.order c.args.at c.self.invariant.linked.distinct (rw (← c.self.view_is) at c.requires))

pub returns-clause-places : goal.returns-clause-places
returns-clause-places g c = sym (pairs-length c.take_out.new.entries c.take_out.ensures.linked)
