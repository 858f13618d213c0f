use Rattle.schnellru.proofs.FoundEntries.{bucket_there}
use Rattle.schnellru.proofs.map.entry.OccupiedEntry.key.Goals as goal

pub pair_in-requires : goal.pair_in-requires
pair_in-requires g c = let e = c.args.self.now in bucket_there e.bucket e.map.now.table.places e.there

pub returns : goal.returns
returns g c = λ names on. (c.pair_in.result.1.now, c.pair_in.ensures names on.one on.place)
