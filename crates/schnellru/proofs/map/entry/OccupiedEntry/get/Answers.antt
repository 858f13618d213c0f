use Rattle.std.specs.Map.Iter.{deref_pair}
use Rattle.lru_model.proofs.PairLists.NamedPlaces.{named_value}
use Rattle.schnellru.proofs.FoundEntries.{bucket_there}
use Rattle.schnellru.proofs.map.entry.OccupiedEntry.get.Goals as goal

pub pair_in-requires : goal.pair_in-requires
pair_in-requires g c = let e = c.args.self.now in bucket_there e.bucket e.map.now.table.places e.there

pub returns : goal.returns
returns g c = λ names on. named_value names c.args.self.now.map.now.pairs
    (deref_pair c.pair_in.result) (c.pair_in.ensures names on.one on.place)
