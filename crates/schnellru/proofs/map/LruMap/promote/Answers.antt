use Rattle.std.proofs.Common.{sym, ap}
use Rattle.std.specs.Prelude.{is_some}
use Rattle.lru_model.proofs.CallerLemmas.{promoted-absent}
use Rattle.lru_model.proofs.PairLists.NamedPlaces.{place_says, no_named_value}
use Rattle.schnellru.proofs.map.LruMap.promote.Goals as goal

pub returns-in-Some-clause-there : goal.returns-in-Some-clause-there
returns-in-Some-clause-there g c = let st = c.args.self.now in
    sym (place_says (g.Q.LookupKey.names c.args.key.now) st.pairs st.table.places c.in-Some.b c.in-Some.ensures.found)

pub returns-in-None-clause-there : goal.returns-in-None-clause-there
returns-in-None-clause-there g c = sym (ap is_some
    (no_named_value (g.Q.LookupKey.names c.args.key.now) c.args.self.now.pairs c.in-None.ensures.none))

pub returns-in-None-clause-promoted : goal.returns-in-None-clause-promoted
returns-in-None-clause-promoted g c = let names = g.Q.LookupKey.names c.args.key.now in let st = c.args.self.now in
    sym (promoted-absent names st (no_named_value names st.pairs c.in-None.ensures.none))
