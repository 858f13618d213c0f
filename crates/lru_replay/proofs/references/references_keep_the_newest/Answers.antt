use Rattle.lru_replay.proofs.ReferenceRuns.{after, after_keys, after_misses, length_is}
use Rattle.lru_replay.proofs.references.references_keep_the_newest.Goals as goal

pub returns : goal.returns
returns g c =
    let laws = g.met.K.Eq.laws in
    record {
      keys = λ trace missed old new distinct within run. after_keys laws old distinct within trace missed new run;
      misses = λ trace missed old new distinct within run. after_misses laws old distinct within trace missed new run;
      stored = λ trace missed old new run some sized. (after (length_is laws) old trace missed new run).stored some sized;
    }
