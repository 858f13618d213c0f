use Rattle.std.proofs.Common.{refl, sym, ◌∙◌, subst}
use Rattle.lru_model.specs.State.{IsMap}
use Rattle.schnellru.proofs.Maps.NewestPair.{none_newest}
use Rattle.schnellru.proofs.map.LruMap.newest_mut.Goals as goal

pub returns-then-is_empty : goal.returns-then-is_empty
returns-then-is_empty g c =
    let st = c.args.self.now in let equal = g.K.PartialEq.eq in
    let none = none_newest st.pairs (sym c.is_empty.ensures ∙ c.if-is_empty.true) in (
      refl,
      record {
        writes_back = tt;
        value = sym none.value;
        map = λ last. subst (λ ps. IsMap equal (record st { pairs = ps })) (sym (none.set last))
            c.show_map.ensures;
      },
    )

pub returns : goal.returns
returns g c = let lent = c.newest_value_mut.ensures in
    (refl, record { writes_back = tt; value = sym lent.value; map = lent.map })
