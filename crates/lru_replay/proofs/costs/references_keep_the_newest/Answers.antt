use Rattle.lru_replay.proofs.ReferenceRuns.{after, cost_is}
use Rattle.lru_replay.proofs.costs.references_keep_the_newest.Goals as goal

pub returns : goal.returns
returns g c =
    let laws = g.met.K.Eq.laws in
    record {
      keys = λ weight cost trace missed old new alike run. (after (cost_is laws weight cost alike.keys) old trace missed new run).keys;
      misses = λ weight cost trace missed old new alike run.
          (after (cost_is laws weight cost alike.keys) old trace missed new run).misses_so;
      stored = λ weight cost trace missed old new alike run sized.
          (after (cost_is laws weight cost alike.keys) old trace missed new run).stored tt sized;
    }
