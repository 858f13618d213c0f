use Rattle.std.proofs.Common.{refl}
use Rattle.schnellru.proofs.SameWalks.{same_walk}
use Rattle.schnellru.proofs.walk.iter_mut.IterMut.lend_next_back.Goals as goal

pub returns : goal.returns
returns g c = (
  (refl, λ w. same_walk),
  record { writes_back = tt; value = c.pair_at_mut.ensures.value },
)
