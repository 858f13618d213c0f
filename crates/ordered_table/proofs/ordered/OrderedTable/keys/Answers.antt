use Rattle.std.proofs.Common.{ap, length}
use Rattle.std.proofs.iter.runs.Sources.{from_front}
use Rattle.std.specs.Map.Iter.{deref, TakesFirst}
use Rattle.ordered_table.proofs.ordered.OrderedTable.keys.Goals as goal

pub returns-clause-runs : goal.returns-clause-runs
returns-clause-runs g c = from_front (TakesFirst deref) deref (λ s. s) (λ s t h. ap length h.0) (λ s x t h. h)
