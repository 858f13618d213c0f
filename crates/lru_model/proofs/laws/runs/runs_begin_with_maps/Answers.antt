use Rattle.lru_model.proofs.States.EmptyMaps.{empty_is_map}
use Rattle.lru_model.proofs.laws.runs.runs_begin_with_maps.Goals as goal

pub returns : goal.returns
returns g c = record {
  empty = λ limiter hasher entry_bytes. empty_is_map limiter hasher entry_bytes _ g.K.PartialEq.eq;
}
