use Rattle.std.proofs.Common.{◌≡◌, true, Some, refl, sym, ap, ◌∙◌}
use Rattle.std.proofs.lemmas.Option.{same_Some}
use Rattle.lru_model.proofs.States.Promotions.{written_is_map}
use Rattle.schnellru.proofs.map.LruMap.peek_by_hash_mut.Goals as goal

pub returns-in_err-b : goal.returns-in_err-b
returns-in_err-b g c = rw c.from_residual.ensures (
  (refl, λ w. tt, refl),
  record {
    writes_back = tt;
    none = c.in_err-b.ensures.none;
    map = λ key last. written_is_map _ _ last c.find_by.ensures.map;
  },
)

pub returns : goal.returns
returns g c =
    let laws = g.met.K.Eq.laws in let value = c.value_in_mut.result.now in
    let (p, gives, there, at) = c.in_ok-b.ensures.found in let names = g.K.PartialEq.eq p.0 in
    let one : (x y : _) → names x ≡ true → names y ≡ g.K.PartialEq.eq x y = λ x y h. laws.congr p.0 x y h in
    let (key, found) = c.value_in_mut.ensures.pair names one at in
    let same = same_Some p (key, value) (sym there ∙ found) in (
      (
        refl,
        λ w. (p, gives, ap (λ x. Some x.1) (sym same), c.value_in_mut.ensures.written names w at),
        tt,
      ),
      record {
        writes_back = tt;
        none = tt;
        map = λ key last. written_is_map _ _ last c.find_by.ensures.map;
      },
    )
