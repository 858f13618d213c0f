use Rattle.std.proofs.Common.{◌∙◌}
use Rattle.lru_model.proofs.PairLists.NamedPlaces.{search_says}
use Rattle.schnellru.proofs.map.LruMap.contains.Goals as goal

pub returns : goal.returns
returns g c = let st = c.args.self.now in
    c.is_some.ensures ∙ search_says (g.Q.LookupKey.names c.args.key.now) st.pairs st.table.places c.find.result
    c.find.ensures.found c.find.ensures.none
