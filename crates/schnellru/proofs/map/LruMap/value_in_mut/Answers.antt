use Rattle.std.proofs.Common.{◌≡◌, true, refl, sym, ap, ◌∙◌, subst, unwrap_or}
use Rattle.std.specs.Map.Iter.{deref_pair_mut}
use Rattle.lru_model.specs.State.{IsMap}
use Rattle.lru_model.proofs.States.Promotions.{written_is_map}
use Rattle.ordered_table.specs.OrderedTable.{pairs_of}
use Rattle.ordered_table.proofs.Tables.BucketPairs.{pair_found, place_found}
use Rattle.ordered_table.proofs.Tables.Searches.{pair_of_place}
use Rattle.schnellru.specs.Inside.Fields.{fields_of}
use Rattle.schnellru.specs.Inside.Holds.{state_of}
use Rattle.schnellru.proofs.Maps.Writes.{kept_holds, kept_state, written_there}
use Rattle.schnellru.proofs.map.LruMap.value_in_mut.Goals as goal

pub pair_mut-requires : goal.pair_mut-requires
pair_mut-requires g c = c.self.invariant.linked.only c.args.b (rw (← c.self.view_is) at c.requires)

pub invariant_of-self-lent : goal.invariant_of-self-lent
invariant_of-self-lent g c = λ w.
    let m = c.self.inside in
    let holds = c.self.invariant in let now = deref_pair_mut c.pair_mut.result in let laws = g.met.K.Eq.laws in
    let hash_of = g.S.KeyHasher.hash_of in
    kept_holds m.entries holds.linked c.args.b now c.pair_mut.ensures.pair
    (g.K.PartialEq.eq now.0) laws (λ x y h. laws.congr now.0 x y h) (laws.refl now.0)
    holds.map.distinct _ w hash_of holds
    (c.pair_mut.ensures.linked w) (c.pair_mut.ensures.fits (hash_of m.hasher) holds.fits w)

pub returns : goal.returns
returns g c =
    let m = c.self.inside in
    let rest = fields_of m (g.L.LinkType.LinkType.number g.L.LinkType.LinkType.MAX) in
    let t = m.entries in let holds = c.self.invariant in let now = deref_pair_mut c.pair_mut.result in let b = c.args.b in
    let laws = g.met.K.Eq.laws in let equal = g.K.PartialEq.eq now.0 in
    let one : (x y : _) → equal x ≡ true → equal y ≡ g.K.PartialEq.eq x y = λ x y h. laws.congr now.0 x y h in
    let pair = c.pair_mut.ensures.pair in let distinct = holds.map.distinct in
    let place = place_found t holds.linked b now pair equal laws one distinct (laws.refl now.0) in
    rw (← c.self.view_is) (
      (
        refl,
        λ w. kept_state t holds.linked b now pair equal laws one (laws.refl now.0) distinct rest w
            ∙ sym (ap (λ ps. record (state_of t rest) { pairs = ps })
            (written_there equal w (pairs_of t) t.order b holds.linked.distinct place)),
      ),
      record {
        writes_back = tt;
        pair = λ names named at.
            let (p, there, is) = pair_of_place t holds.linked names laws named distinct b at in
            let key : p ≡ now = ap (λ o. unwrap_or o p) (sym there ∙ pair) in (
              now.0,
              pair_found t holds.linked b now pair names laws named distinct
                  (subst (λ q. names q.0 ≡ true) key is),
            );
        written = λ names last at. ap (λ ps. record (state_of t rest) { pairs = ps })
            (written_there names last (pairs_of t) t.order b holds.linked.distinct at);
        map = λ last. subst (λ ps. IsMap g.K.PartialEq.eq (record (state_of t rest) { pairs = ps }))
            (sym (written_there equal last (pairs_of t) t.order b holds.linked.distinct place))
            (written_is_map _ equal last holds.map);
      },
    )
