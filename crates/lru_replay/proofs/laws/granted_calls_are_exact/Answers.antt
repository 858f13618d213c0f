use Rattle.std.proofs.Common.{refl}
use Rattle.lru_replay.specs.CallRuns.{ListCallStep}
use Rattle.lru_replay.proofs.CallLaws.{call_moves}
use Rattle.lru_replay.proofs.ListRuns.{call_in_list, run_in_list, whole_reaches}
use Rattle.lru_replay.proofs.laws.granted_calls_are_exact.Goals as goal

pub returns : goal.returns
returns g c =
    let rules = g.L.Limiter.rules in
    let offers = g.L.Insertion.offers in
    let eq = g.K.PartialEq.eq in
    let hash_of = g.S.KeyHasher.hash_of in
    record {
      exact = λ old new calls replies grants tables run.
          run_in_list call_moves (ListCallStep rules offers eq)
          (call_in_list rules offers eq hash_of c.granted_inserts_are_exact.ensures grants) old.hasher old calls replies
          new refl tables run;
      reached = λ old new calls replies table map run.
          whole_reaches call_moves c.calls_add_one_pair.ensures old calls replies new table map run;
    }
