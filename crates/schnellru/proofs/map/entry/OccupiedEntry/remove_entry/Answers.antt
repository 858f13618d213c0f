use Rattle.std.proofs.Common.{sym, subst}
use Rattle.lru_model.specs.State.{Frees}
use Rattle.schnellru.proofs.FoundEntries.{bucket_there}
use Rattle.schnellru.proofs.map.entry.OccupiedEntry.remove_entry.Goals as goal

pub take_at-requires : goal.take_at-requires
take_at-requires g c = let e = c.args.self in bucket_there e.bucket e.map.now.table.places e.there

pub returns-clause-step : goal.returns-clause-step
returns-clause-step g c = λ names on. c.take_at.ensures.step names on.one on.place

pub returns-clause-freed : goal.returns-clause-freed
returns-clause-freed g c = λ names on.
    subst (λ place. Frees place c.args.self.map.now.table c.take_at.new.self.table) (sym on.place)
    c.take_at.ensures.freed
