use Rattle.std.proofs.Common.{refl, ap, ◌∙◌}
use Rattle.std.specs.Map.Iter.{deref_pair_mut}
use Rattle.schnellru.specs.Inside.Holds.{state_of}
use Rattle.ordered_table.specs.OrderedTable.{pairs_of}
use Rattle.ordered_table.proofs.Tables.BucketPairs.{all_full}
use Rattle.ordered_table.proofs.Tables.Places.{got_in, pair_at, at_set}
use Rattle.schnellru.proofs.Maps.Writes.{kept_holds, kept_state}
use Rattle.schnellru.specs.Inside.Fields.{fields_of}
use Rattle.schnellru.proofs.map.LruMap.pair_at_mut.Goals as goal

pub pair_mut-requires : goal.pair_mut-requires
pair_mut-requires g c = c.self.invariant.linked.only c.args.b
    (got_in c.self.inside.entries.order c.args.at c.args.b (rw (← c.self.view_is) at c.requires))

pub invariant_of-self-lent : goal.invariant_of-self-lent
invariant_of-self-lent g c = λ w.
    let m = c.self.inside in
    let holds = c.self.invariant in let now = deref_pair_mut c.pair_mut.result in let laws = g.met.K.Eq.laws in
    let hash_of = g.S.KeyHasher.hash_of in
    kept_holds m.entries holds.linked c.args.b now c.pair_mut.ensures.pair
    (g.K.PartialEq.eq now.0) laws (λ x y h. laws.congr now.0 x y h) (laws.refl now.0)
    holds.map.distinct _ w hash_of holds
    (c.pair_mut.ensures.linked w)
    (c.pair_mut.ensures.fits (hash_of m.hasher) holds.fits w)

pub returns : goal.returns
returns g c =
    let m = c.self.inside in
    let rest = fields_of m (g.L.LinkType.LinkType.number g.L.LinkType.LinkType.MAX) in
    let t = m.entries in let holds = c.self.invariant in let now = deref_pair_mut c.pair_mut.result in
    let laws = g.met.K.Eq.laws in
    let at = rw (← c.self.view_is) at c.requires in
    let got = pair_at t.slots t.order c.args.at c.args.b now
    (all_full t.slots t.order holds.linked.only) at c.pair_mut.ensures.pair in
    rw (← c.self.view_is) (
      (
        refl,
        λ w. kept_state t holds.linked c.args.b now c.pair_mut.ensures.pair
            (g.K.PartialEq.eq now.0) laws (λ x y h. laws.congr now.0 x y h)
            (laws.refl now.0) holds.map.distinct rest w
            ∙ ap (λ ps. record (state_of t rest) { pairs = ps })
            (at_set laws now w (pairs_of t) c.args.at holds.map.distinct got),
      ),
      record { writes_back = tt; value = got },
    )
