use Rattle.std.proofs.Common.{[], refl}
use Rattle.lru_model.specs.GetOrInserts.{got, inserted}
use Rattle.lru_model.proofs.PairLists.NamedPlaces.{named_there, named_value, no_named_value}
use Rattle.lru_model.proofs.Theorems.PlainInserts.{plain_insert}
use Rattle.schnellru.proofs.map.LruMap.make_newest.Goals as goal

pub make-requires : goal.make-requires
make-requires g c = c.requires.callable
    (no_named_value (g.I.LookupKey.names c.args.key) c.args.self.now.pairs c.in-None.ensures.none)

pub returns-in-Some : goal.returns-in-Some
returns-in-Some g c =
    let old = c.args.self.now in let at = c.in-Some.ensures.found in let names = g.I.LookupKey.names c.args.key in
    let (pair, there, accepts) = named_there names old.pairs old.table.places c.in-Some.b at in
    got pair.1 (named_value names old.pairs pair there) refl
    (c.promote_at.ensures.promoted names (g.met.I.LookupKey.laws.one c.args.key) at)

pub returns-in-None : goal.returns-in-None
returns-in-None g c = inserted
    (no_named_value (g.I.LookupKey.names c.args.key) c.args.self.now.pairs c.in-None.ensures.none)
    c.make.result c.make.ensures (plain_insert (c.insert_new.ensures.passed _ [] refl).2)
