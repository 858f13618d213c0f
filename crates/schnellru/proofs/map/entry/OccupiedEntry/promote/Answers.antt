use Rattle.schnellru.proofs.FoundEntries.{bucket_there, promoted_place}
use Rattle.schnellru.proofs.map.entry.OccupiedEntry.promote.Goals as goal

pub promote_at-requires : goal.promote_at-requires
promote_at-requires g c = let e = c.args.self.now in bucket_there e.bucket e.map.now.table.places e.there

pub returns-clause-same_entry : goal.returns-clause-same_entry
returns-clause-same_entry g c = λ names on. let e = c.args.self.now in record {
  one = on.one;
  place = promoted_place names e.map.now c.promote_at.new.self e.bucket on.place
      (c.promote_at.ensures.promoted names on.one on.place);
}
