use Rattle.lru_theory.proofs.Inclusions.{sub_in}
use Rattle.lru_model.specs.Lists.{keys_of}
use Rattle.lru_replay.proofs.ReferencePairs.{included_after}
use Rattle.lru_replay.proofs.references.a_smaller_map_is_included.Goals as goal

pub returns : goal.returns
returns g c =
    let laws = g.met.K.Eq.laws in
    record {
      included = λ calls old small other large run others few before.
          included_after laws old other calls small large run others few before;
      finds = λ key calls old small other large run others few before.
          sub_in laws key (keys_of small.pairs) (keys_of large.pairs)
          (included_after laws old other calls small large run others few before).keys;
    }
