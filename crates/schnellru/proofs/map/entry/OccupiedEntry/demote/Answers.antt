use Rattle.schnellru.proofs.FoundEntries.{bucket_there}
use Rattle.schnellru.proofs.map.entry.OccupiedEntry.demote.Goals as goal

pub demote_at-requires : goal.demote_at-requires
demote_at-requires g c = let e = c.args.self.now in bucket_there e.bucket e.map.now.table.places e.there

pub returns-clause-same_entry : goal.returns-clause-same_entry
returns-clause-same_entry g c = λ names on.
    record { one = on.one; place = c.demote_at.ensures.place names on.one on.place }
