use Rattle.std.proofs.Common.{[], Ok, true, refl, sym, ap}
use Rattle.lru_model.specs.GetOrInserts.{got, inserted, failed, as_made, or_memory}
use Rattle.lru_model.proofs.PairLists.NamedPlaces.{named_there, named_value, no_named_value}
use Rattle.lru_model.proofs.Theorems.PlainInserts.{plain_insert}
use Rattle.schnellru.proofs.map.LruMap.make_newest_if_made.Goals as goal

pub make-requires : goal.make-requires
make-requires g c = c.requires.callable
    (no_named_value (g.I.LookupKey.names c.args.key) c.args.self.now.pairs c.in-None.ensures.none)

pub returns-in-Some : goal.returns-in-Some
returns-in-Some g c =
    let old = c.args.self.now in let at = c.in-Some.ensures.found in let names = g.I.LookupKey.names c.args.key in
    let (pair, there, accepts) = named_there names old.pairs old.table.places c.in-Some.b at in
    as_made (Ok true) (got pair.1 (named_value names old.pairs pair there) refl
    (c.promote_at.ensures.promoted names (g.met.I.LookupKey.laws.one c.args.key) at)) refl

pub returns-in-Err : goal.returns-in-Err
returns-in-Err g c = failed
    (no_named_value (g.I.LookupKey.names c.args.key) c.args.self.now.pairs c.in-None.ensures.none)
    c.in-Err.error c.in-Err.ensures refl refl

pub returns-in-Ok-insert_new : goal.returns-in-Ok-insert_new
returns-in-Ok-insert_new g c = as_made c.insert_new.result (inserted
    (no_named_value (g.I.LookupKey.names c.args.key) c.args.self.now.pairs c.in-None.ensures.none)
    c.in-Ok.value c.in-Ok.ensures (plain_insert (c.insert_new.ensures.passed _ [] refl).2))
    (ap or_memory (sym c.in-Ok-insert_new.is))

pub returns-in-Err-insert_new : goal.returns-in-Err-insert_new
returns-in-Err-insert_new g c = as_made c.insert_new.result (inserted
    (no_named_value (g.I.LookupKey.names c.args.key) c.args.self.now.pairs c.in-None.ensures.none)
    c.in-Ok.value c.in-Ok.ensures (plain_insert (c.insert_new.ensures.passed _ [] refl).2))
    (ap or_memory (sym c.in-Err-insert_new.is))
