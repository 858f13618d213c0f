use Rattle.std.proofs.Common.{refl}
use Rattle.lru_model.specs.TryInserts.{there}
use Rattle.lru_model.proofs.PairLists.NamedPlaces.{named_there}
use Rattle.schnellru.proofs.map.LruMap.try_insert_if_absent.Goals as goal

pub returns-in-Some : goal.returns-in-Some
returns-in-Some g c =
    let old = c.args.self.now in let named = named_there (g.K.PartialEq.eq c.args.key) old.pairs old.table.places
    c.in-Some.field-0 c.in-Some.ensures.found in
    there named.0 named.1 refl refl
