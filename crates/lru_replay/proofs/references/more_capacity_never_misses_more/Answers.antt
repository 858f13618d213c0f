use Rattle.lru_replay.proofs.ReferencePairs.{front_after, fewer_missed}
use Rattle.lru_replay.proofs.references.more_capacity_never_misses_more.Goals as goal

pub returns : goal.returns
returns g c =
    let laws = g.met.K.Eq.laws in
    record {
      front = λ trace missed more old small other large run others few front.
          front_after laws old other trace missed more small large run others few front;
      misses = λ trace missed more old small other large run others few included.
          fewer_missed laws old other trace missed more small large run others few included;
    }
