use Rattle.std.proofs.Common.{refl}
use Rattle.lru_model.proofs.PairLists.NamedPlaces.{named_value}
use Rattle.schnellru.specs.Found.{entry_map, entry_written}
use Rattle.schnellru.proofs.FoundEntries.{bucket_there, written_place, same_entry}
use Rattle.schnellru.proofs.map.entry.OccupiedEntry.get_mut.Goals as goal

pub value_in_mut-requires : goal.value_in_mut-requires
value_in_mut-requires g c = let e = c.args.self.now in bucket_there e.bucket e.map.now.table.places e.there

pub returns : goal.returns
returns g c = let e = c.args.self.now in let lent = c.value_in_mut in (
  (refl, λ w. same_entry),
  record {
    writes_back = tt;
    value = λ names on. let (key, found) = lent.ensures.pair names on.one on.place in
        named_value names e.map.now.pairs (key, lent.result.now) found;
    written = λ names on last. lent.ensures.written names last on.place;
    same_entry = λ names on last. record {
      one = on.one;
      place = written_place names e.map.now (entry_map (entry_written e last)) e.bucket on.place last
          (lent.ensures.written names last on.place);
    };
    map = lent.ensures.map;
  },
)
