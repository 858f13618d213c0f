use Rattle.lru_theory.proofs.Places.{keys_after, found_within, plain_faults}
use Rattle.lru_theory.proofs.deletes_leave_places.Goals as goal

pub returns : goal.returns
returns g c = record {
  keys = keys_after g.K.PartialEq.eq;
  finds = λ n key places. found_within g.K.PartialEq.eq key n places;
  misses = plain_faults g.K.PartialEq.eq;
}
