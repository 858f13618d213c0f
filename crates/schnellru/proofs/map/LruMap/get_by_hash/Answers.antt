use Rattle.std.proofs.Common.{◌≡◌, true, Some, refl, sym, ap, ◌∙◌, subst}
use Rattle.std.proofs.lemmas.Option.{same_Some}
use Rattle.lru_model.specs.Calls.{written}
use Rattle.lru_model.specs.Lists.{lookup_entry, place_of}
use Rattle.lru_model.proofs.PairLists.NamedPlaces.{front_place, front_found}
use Rattle.lru_model.proofs.States.Promotions.{equal_is_map, written_is_map}
use Rattle.schnellru.proofs.map.LruMap.get_by_hash.Goals as goal

pub returns-in_err-b : goal.returns-in_err-b
returns-in_err-b g c = rw c.from_residual.ensures (
  (refl, λ w. tt, refl),
  record {
    writes_back = tt;
    none = c.in_err-b.ensures.none;
    map = λ key last. written_is_map _ _ last (equal_is_map g.met.K.Eq.laws key _ c.find_by.ensures.map);
  },
)

pub returns : goal.returns
returns g c =
    let old = c.args.self.now in let b = c.in_ok-b.b in
    let laws = g.met.K.Eq.laws in let value = c.value_in_mut.result.now in
    let (p, gives, there, at) = c.in_ok-b.ensures.found in let names = g.K.PartialEq.eq p.0 in
    let one : (x y : _) → names x ≡ true → names y ≡ g.K.PartialEq.eq x y = λ x y h. laws.congr p.0 x y h in
    let is = c.promote_at.ensures.promoted names one at in
    let first = subst (λ st. place_of names st.pairs st.table.places ≡ Some b) (sym is)
    (front_place names old.pairs old.table.places b at) in
    let (key, found) = c.value_in_mut.ensures.pair names one first in
    let same = same_Some p (key, value) (sym there
    ∙ sym (front_found names old.pairs old.table.places b at)
    ∙ ap (λ st. lookup_entry names st.pairs) (sym is) ∙ found) in (
      (
        refl,
        λ w. (
          p,
          gives,
          ap (λ x. Some x.1) (sym same),
          c.value_in_mut.ensures.written names w first ∙ ap (written names w) is,
        ),
        tt,
      ),
      record {
        writes_back = tt;
        none = tt;
        map = λ key last. written_is_map _ _ last (equal_is_map laws key _ c.find_by.ensures.map);
      },
    )
