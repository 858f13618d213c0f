use Rattle.std.proofs.Common.{◌≡◌, Some, refl, sym, ap, ◌∙◌, subst}
use Rattle.lru_model.specs.Lists.{lookup_entry, place_of}
use Rattle.lru_model.proofs.CallerLemmas.{promoted-absent}
use Rattle.lru_model.proofs.States.Promotions.{promoted_is_map}
use Rattle.lru_model.proofs.PairLists.NamedPlaces.{front_place, front_found, no_named_value}
use Rattle.schnellru.proofs.map.LruMap.get_key_value.Goals as goal

pub returns-in_err-b : goal.returns-in_err-b
returns-in_err-b g c =
    let names = g.Q.LookupKey.names c.args.key.now in
    let old = c.args.self.now in
    rw c.from_residual.ensures (
      (refl, λ _. tt, sym (promoted-absent names old (no_named_value names old.pairs c.in_err-b.ensures.none))),
      record {
        leaves = tt;
        value = sym c.in_err-b.ensures.none;
        map = promoted_is_map g.met.Q.LookupKey.laws c.args.key.now old c.find.ensures.map;
      },
    )

pub returns : goal.returns
returns g c =
    let names = g.Q.LookupKey.names c.args.key.now in
    let one = g.met.Q.LookupKey.laws.one c.args.key.now in
    let old = c.args.self.now in
    let at = c.in_ok-b.ensures.found in
    let is = c.promote_at.ensures.promoted names one at in
    let first = subst (λ st. place_of names st.pairs st.table.places ≡ Some c.in_ok-b.b) (sym is)
    (front_place names old.pairs old.table.places c.in_ok-b.b at) in (
      (refl, λ _. tt, is),
      record {
        leaves = tt;
        value = sym (sym (front_found names old.pairs old.table.places c.in_ok-b.b at)
            ∙ ap (λ st. lookup_entry names st.pairs) (sym is)
            ∙ c.pair_in.ensures names one first);
        map = promoted_is_map g.met.Q.LookupKey.laws c.args.key.now old c.find.ensures.map;
      },
    )
