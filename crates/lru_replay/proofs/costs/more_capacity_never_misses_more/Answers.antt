use Rattle.lru_replay.proofs.ReferencePairs.{front_within, fewer_within}
use Rattle.lru_replay.proofs.costs.more_capacity_never_misses_more.Goals as goal

pub returns : goal.returns
returns g c =
    let laws = g.met.K.Eq.laws in
    record {
      front = λ weight cost trace missed more old small other large alike run others few front.
          front_within laws weight cost alike.keys trace missed more old small other large run others few front;
      misses = λ weight cost trace missed more old small other large alike run others few front.
          fewer_within laws weight cost alike.keys trace missed more old small other large run others few front;
    }
