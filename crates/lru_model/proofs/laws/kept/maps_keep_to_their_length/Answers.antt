use Rattle.std.proofs.Common.{refl, arith}
use Rattle.lru_model.proofs.States.EmptyMaps.{empty_is_sound}
use Rattle.lru_model.proofs.Theorems.NewestInserts.{keeps_on, keeps_written}
use Rattle.lru_model.proofs.laws.kept.maps_keep_to_their_length.Goals as goal

pub returns-clause-begins : goal.returns-clause-begins
returns-clause-begins g c = λ most entry_bytes hasher few entry. record {
  within = omega arith;
  half = few;
  links = refl;
  entry = entry;
  sized = empty_is_sound entry_bytes _;
}

pub returns-clause-goes_on : goal.returns-clause-goes_on
returns-clause-goes_on g c = λ old new keeps sized step. keeps_on _ old new keeps sized step

pub returns-clause-written : goal.returns-clause-written
returns-clause-written g c = λ names value old keeps. keeps_written names value old keeps
