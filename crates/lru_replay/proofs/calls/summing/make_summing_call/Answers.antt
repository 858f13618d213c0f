use Rattle.lru_limits.specs.Admissions.{offers_of}
use Rattle.lru_replay.specs.Replies.{said}
use Rattle.lru_replay.proofs.SummedCalls.{call_summed}
use Rattle.lru_replay.proofs.calls.summing.make_summing_call.Goals as goal

pub returns-clause-account : goal.returns-clause-account
returns-clause-account g c =
    call_summed g.L.Limiter.rules (offers_of g.L.Admission.terms) g.K.PartialEq.eq
    g.S.KeyHasher.hash_of g.L.Summing.cost_of g.L.Summing.account
    (c.runs_keep_sums.ensures.sum _ _ g.met.L.Summing.laws) c.args.map.now c.make_call.new.map c.make_call.ensures.map.sized c.args.call
    (said c.make_call.result) (c.keeps_cost.ensures.yes c.if-not-keeps_cost.false) c.make_call.ensures.step
