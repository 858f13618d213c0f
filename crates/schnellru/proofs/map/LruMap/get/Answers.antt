use Rattle.std.proofs.Common.{Some, refl, sym, ap, ◌∙◌, subst, ◌≡◌}
use Rattle.lru_model.specs.Lists.{lookup_entry, place_of}
use Rattle.lru_model.proofs.PairLists.NamedPlaces.{front_place, front_found, named_value, no_named_value}
use Rattle.lru_model.proofs.States.Promotions.{promoted_is_map, written_is_map}
use Rattle.lru_model.specs.Calls.{written}
use Rattle.schnellru.proofs.Maps.Writes.{same_follow}
use Rattle.schnellru.proofs.map.LruMap.get.Goals as goal

pub returns-in_err-b : goal.returns-in_err-b
returns-in_err-b g c = let names = g.Q.LookupKey.names c.args.key.now in
    rw c.from_residual.ensures (
      refl,
      record {
        writes_back = tt;
        value = sym (no_named_value names c.args.self.now.pairs c.in_err-b.ensures.none);
        before = c.find.ensures.map;
        map = λ last. written_is_map _ names last
            (promoted_is_map g.met.Q.LookupKey.laws c.args.key.now _ c.find.ensures.map);
      },
    )

pub returns : goal.returns
returns g c =
    let old = c.args.self.now in let value = c.value_in_mut.result.now in
    let names = g.Q.LookupKey.names c.args.key.now in let one = g.met.Q.LookupKey.laws.one c.args.key.now in
    let at = c.in_ok-b.ensures.found in let is = c.promote_at.ensures.promoted names one at in
    let first = subst (λ st. place_of names st.pairs st.table.places ≡ Some c.in_ok-b.b) (sym is)
    (front_place names old.pairs old.table.places c.in_ok-b.b at) in
    let (key, there) = c.value_in_mut.ensures.pair names one first in
    let found : lookup_entry names old.pairs ≡ Some (key, value) =
    sym (front_found names old.pairs old.table.places c.in_ok-b.b at)
    ∙ ap (λ st. lookup_entry names st.pairs) (sym is) ∙ there in (
      same_follow _ _ _ (λ w. c.value_in_mut.ensures.written names w first ∙ ap (written names w) is),
      record {
        writes_back = tt;
        value = sym (named_value names old.pairs (key, value) found);
        before = c.find.ensures.map;
        map = λ last. written_is_map _ names last
            (promoted_is_map g.met.Q.LookupKey.laws c.args.key.now _ c.find.ensures.map);
      },
    )
